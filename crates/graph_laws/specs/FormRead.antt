-- What is found in form fills the form. Assumes nothing.
use Rattle.std.specs.Prelude.{ℕ, ◌+◌, ◌-◌, ◌*◌, ◌≤◌, ◌<◌, ◌≡◌, Bool, ◌&&◌, ◌||◌, eqb, ltb}
use Rattle.std.proofs.Math.Path.{refl, ap, subst}
use Rattle.std.proofs.Common.{sym, ◌∙◌, inl, inr, eqb-true, leb-true, ltb-true}
use Rattle.std.proofs.Math.Bool.{true, false}
use mathlib.Core.List.{List, [], ◌∷◌, ◌++◌, append_assoc}
use Rattle.std.proofs.Math.Option.{Option, none, some}
use native.Mathlib.Omega.{arith}
use Rattle.std.proofs.Math.Dec.{leb}
use Rattle.listings.specs.Bytes.{decimal, pick}
use Rattle.listings.specs.Rows.{is_digit}
use Rattle.listings.specs.Tests.{not_both, both_true, either_true}
use Rattle.listing_laws.specs.NumberText.{digit_range, decimal_small, decimal_more}
use Rattle.graph.specs.Check.{At, outside, begins, inside, Left, begun, outside_step, digit_step, step, may_end, ends, fits_from}
use Rattle.graph_laws.specs.FilledForms.{is_sign, Fills, done, itself, number, no_more, one_more, first, missing, one}

-- a number, and then what fills f
pub data Numbered (f : List ℕ) : List ℕ → Type 0 where
  then : {w : List ℕ} (n : ℕ) → n ≤ 65535 → Fills f w → Numbered f (decimal n ++ w)

-- what a row from a place on says of the whole
abbrev pub Filled : At → List ℕ → List ℕ → Type 0
Filled outside f w = Fills f w
Filled begins f w = Numbered f w
Filled (inside v) f w = v ≤ 65535 → Numbered f (decimal v ++ w)

-- what is left to read
abbrev pub rest : List ℕ → Option Left → Bool
rest w none = false
rest w (some d) = fits_from d.0 d.1 w

may_end_lem : (f : List ℕ) → may_end f ≡ true → Fills f []
unfolding may_end
may_end_lem [] h = done
may_end_lem (c ∷ f) h =
    let p = both_true (eqb c 42 || (eqb c 37 || eqb c 63)) (may_end f) h in
    elim (either_true (eqb c 42) (eqb c 37 || eqb c 63) p.0) [
      | inl e ↦ rw (eqb-true c 42 e) (no_more (may_end_lem f p.1))
      | inr d ↦ elim (either_true (eqb c 37) (eqb c 63) d) [ inl e ↦ rw (eqb-true c 37 e) (Fills.none (may_end_lem f p.1)) | inr e ↦ rw (eqb-true c 63 e) (missing (may_end_lem f p.1)) ]
    ]

-- a digit is the text of a number
digit_text : (b : ℕ) → is_digit b ≡ true → (b - 48 < 10) × (b ∷ [] ≡ decimal (b - 48))
digit_text b h =
    let r = digit_range b h in
    let e : 48 + (b - 48) ≡ b = omega arith in
    (omega arith, sym (decimal_small (b - 48) (omega arith) ∙ ap (λ (z : ℕ). z ∷ []) e))

no_sign : (c : ℕ) → eqb c 35 ≡ false → eqb c 42 ≡ false → eqb c 37 ≡ false → eqb c 63 ≡ false → is_sign c ≡ false
unfolding is_sign
no_sign c p q s t = rw (p, q, s, t)

-- the byte b and then w, where w is read as it should
module _ (b : ℕ) (w : List ℕ) (h : (a : At) (f : List ℕ) → fits_from a f w ≡ true → Filled a f w) where
  begun_filled : (f : List ℕ) → rest w (begun f b) ≡ true → Numbered f (b ∷ w)
  unfolding begun
  begun_filled f e = go (is_digit b) refl e
    where
      go : (x : Bool) → is_digit b ≡ x → rest w (pick x (some (inside (b - 48), f)) none) ≡ true → Numbered f (b ∷ w)
      go true d e = let t = digit_text b d in subst (λ (z : List ℕ). Numbered f (z ++ w)) (sym t.1) (h (inside (b - 48)) f e (omega (arith, t.0)))
      go false d e = absurd (not_both (sym e))

  digit_filled : (v : ℕ) (f : List ℕ) → is_digit b ≡ true → rest w (digit_step v f b) ≡ true → Numbered f (decimal v ++ (b ∷ w))
  unfolding digit_step
  digit_filled v f d e = go (ltb 0 v && leb (v * 10 + (b - 48)) 65535) refl e
    where
      go : (x : Bool) → (ltb 0 v && leb (v * 10 + (b - 48)) 65535) ≡ x → rest w (pick x (some (inside (v * 10 + (b - 48)), f)) none) ≡ true → Numbered f (decimal v ++ (b ∷ w))
      go true g e =
          let p = both_true (ltb 0 v) (leb (v * 10 + (b - 48)) 65535) g in
          let t = digit_text b d in
          let r = digit_range b d in
          let s : 48 + (b - 48) ≡ b = omega arith in
          let m = decimal_more v (b - 48) (ltb-true 0 v p.0) t.0 ∙ ap (λ (z : ℕ). decimal v ++ (z ∷ [])) s in
          subst (Numbered f) (ap (λ (z : List ℕ). z ++ w) m ∙ append_assoc (decimal v) (b ∷ []) w)
          (h (inside (v * 10 + (b - 48))) f e (leb-true (v * 10 + (b - 48)) 65535 p.1))
      go false g e = absurd (not_both (sym e))

  outside_filled : (f : List ℕ) → rest w (outside_step f b) ≡ true → Fills f (b ∷ w)
  unfolding outside_step
  outside_filled [] e = absurd (not_both (sym e))
  outside_filled (c ∷ f) e = go (eqb c 35) (eqb c 42) (eqb c 37) (eqb c 63) (eqb c b) refl refl refl refl refl e (outside_filled f)
    where
      numbered : {u : List ℕ} → Numbered f u → Fills (35 ∷ f) u
      numbered (then n k q) = number n k q

      one_more_lem : {u : List ℕ} → Numbered (42 ∷ f) u → Fills (42 ∷ f) (32 ∷ u)
      one_more_lem (then n k q) = one_more n k q

      first_one : {u : List ℕ} → Numbered (42 ∷ f) u → Fills (37 ∷ f) u
      first_one (then n k q) = first n k q

      in_list : (x : Bool) → eqb b 32 ≡ x → c ≡ 42 → rest w (pick x (some (begins, c ∷ f)) (outside_step f b)) ≡ true
          → (rest w (outside_step f b) ≡ true → Fills f (b ∷ w)) → Fills (c ∷ f) (b ∷ w)
      in_list true k q e r = rw (eqb-true b 32 k, q) (one_more_lem (rw q at (h begins (c ∷ f) e)))
      in_list false k q e r = rw q (no_more (r e))

      in_numbers : (x : Bool) → is_digit b ≡ x → rest w (pick x (begun (42 ∷ f) b) (outside_step f b)) ≡ true
          → (rest w (outside_step f b) ≡ true → Fills f (b ∷ w)) → Fills (37 ∷ f) (b ∷ w)
      in_numbers true k e r = first_one (begun_filled (42 ∷ f) e)
      in_numbers false k e r = Fills.none (r e)

      one_lem : {u : List ℕ} → Numbered f u → Fills (63 ∷ f) (32 ∷ u)
      one_lem (then n k q) = one n k q

      in_one : (x : Bool) → eqb b 32 ≡ x → rest w (pick x (some (begins, f)) (outside_step f b)) ≡ true
          → (rest w (outside_step f b) ≡ true → Fills f (b ∷ w)) → Fills (63 ∷ f) (b ∷ w)
      in_one true k e r = rw (eqb-true b 32 k) (one_lem (h begins f e))
      in_one false k e r = missing (r e)

      go : (x y z u v : Bool) → eqb c 35 ≡ x → eqb c 42 ≡ y → eqb c 37 ≡ z → eqb c 63 ≡ u → eqb c b ≡ v
          → rest w
          (pick x (begun f b)
          (pick y (pick (eqb b 32) (some (begins, c ∷ f)) (outside_step f b))
          (pick z (pick (is_digit b) (begun (42 ∷ f) b) (outside_step f b))
          (pick u (pick (eqb b 32) (some (begins, f)) (outside_step f b))
          (pick v (some (outside, f)) none))))) ≡ true
          → (rest w (outside_step f b) ≡ true → Fills f (b ∷ w)) → Fills (c ∷ f) (b ∷ w)
      go true y z u v p q s o t e r = rw (eqb-true c 35 p) (numbered (begun_filled f e))
      go false true z u v p q s o t e r = in_list (eqb b 32) refl (eqb-true c 42 q) e r
      go false false true u v p q s o t e r = rw (eqb-true c 37 s) (in_numbers (is_digit b) refl e r)
      go false false false true v p q s o t e r = rw (eqb-true c 63 o) (in_one (eqb b 32) refl e r)
      go false false false false true p q s o t e r = subst (λ (z : ℕ). Fills (c ∷ f) (z ∷ w)) (eqb-true c b t) (itself c (no_sign c p q s o) (h outside f e))
      go false false false false false p q s o t e r = absurd (not_both (sym e))

pub fits-rest : (a : At) (f : List ℕ) (b : ℕ) (w : List ℕ) → fits_from a f (b ∷ w) ≡ rest w (step a f b)
unfolding fits_from
fits-rest a f b w = go (step a f b)
  where
    go : (o : Option Left) → elim o [ none ↦ false | some d ↦ fits_from d.0 d.1 w ] ≡ rest w o
    go none = refl
    go (some d) = refl

pub all_filled : (w : List ℕ) (a : At) (f : List ℕ) → fits_from a f w ≡ true → Filled a f w
unfolding fits_from ends step
all_filled [] outside f e = may_end_lem f e
all_filled [] begins f e = absurd (not_both (sym e))
all_filled [] (inside v) f e = λ h. then v h (may_end_lem f e)
all_filled (b ∷ w) outside f e = outside_filled b w (all_filled w) f (sym (fits-rest outside f b w) ∙ e)
all_filled (b ∷ w) begins f e = begun_filled b w (all_filled w) f (sym (fits-rest begins f b w) ∙ e)
all_filled (b ∷ w) (inside v) f e =
    λ k. go k (is_digit b) refl (sym (fits-rest (inside v) f b w) ∙ e) (λ h. digit_filled b w (all_filled w) v f h) (outside_filled b w (all_filled w) f)
  where
    go : v ≤ 65535 → (x : Bool) → is_digit b ≡ x → rest w (pick x (digit_step v f b) (outside_step f b)) ≡ true
        → (is_digit b ≡ true → rest w (digit_step v f b) ≡ true → Numbered f (decimal v ++ (b ∷ w))) → (rest w (outside_step f b) ≡ true → Fills f (b ∷ w))
        → Numbered f (decimal v ++ (b ∷ w))
    go k true d e p q = p d e
    go k false d e p q = then v k (q e)
