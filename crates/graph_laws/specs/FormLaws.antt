-- A row is found in form exactly when it fills a form. Assumes nothing.
use Rattle.std.specs.Prelude.{ℕ, zero, suc, ◌+◌, ◌-◌, ◌*◌, ◌/◌, ◌%◌, ◌≤◌, ◌<◌, ◌≡◌, Bool, true, false, ◌&&◌, ◌||◌, not, ◌↔◌, eqb}
use Rattle.std.proofs.Math.Path.{refl}
use Rattle.std.proofs.Common.{sym, ap, ◌∙◌, inl, inr, arith, le-leb, lt-ltb, eq-eqb}
use mathlib.Core.List.{List, [], ◌∷◌, ◌++◌, append_assoc, Memᴰ}
use Rattle.std.proofs.Math.Option.{none}
use Rattle.std.proofs.Math.Decide.{dec_lt}
use Rattle.std.proofs.lemmas.Bool.{not-true}
use Rattle.listings.specs.Bytes.{bytes, decimal, pick}
use Rattle.listings.specs.Rows.{is_digit}
use Rattle.listings.specs.Tests.{not_both, both_true, either_true}
use Rattle.listing_laws.specs.NumberText.{digit_is, decimal_small, decimal_more}
use Rattle.listings.specs.Every.{All, all[], all∷}
use Rattle.graph.specs.Check.{row_forms, outside, begins, inside, begun, outside_step, digit_step, step, may_end, ends, fits_from, fits, fits_one, is_graph_row}
use Rattle.graph_laws.specs.FilledForms.{is_sign, Fills, done, itself, number, no_more, one_more, first, missing, one, GraphRow}
use Rattle.graph_laws.specs.FormRead.{rest, fits-rest, all_filled}

-- ---- what fills a form is found in form, if the form is clear

-- the first byte, if there is one, passes a test
unfoldable starts : (ℕ → Bool) → List ℕ → Bool
starts p [] = false
starts p (b ∷ w) = p b

-- behind a list: the end, or a byte that stands for itself and neither continues a number nor the list
unfoldable ends_list : List ℕ → Bool
ends_list [] = true
ends_list (c ∷ f) = not (is_sign c || (is_digit c || eqb c 32))

-- behind a number: the end, a list with a space before each number, or a byte that stands for itself and does not continue the number
unfoldable ends_number : List ℕ → Bool
ends_number [] = true
ends_number (c ∷ f) = pick (eqb c 42) (ends_list f) (not (is_sign c || is_digit c))

-- in such a form it is clear where each number and each list ends
unfoldable clear : List ℕ → Bool
clear [] = true
clear (c ∷ f) = pick (eqb c 35) (ends_number f) (pick (is_sign c) (ends_list f) true) && clear f

neither : (x y : Bool) → (x || y) ≡ false → (x ≡ false) × (y ≡ false)
neither true y h = absurd (not_both h)
neither false y h = (refl, h)

-- a byte that stands for itself
signs : (c : ℕ) → is_sign c ≡ false → (eqb c 35 ≡ false) × (eqb c 42 ≡ false) × (eqb c 37 ≡ false) × (eqb c 63 ≡ false)
unfolding is_sign
signs c h =
    let p = neither (eqb c 35) (eqb c 42 || (eqb c 37 || eqb c 63)) h in
    let q = neither (eqb c 42) (eqb c 37 || eqb c 63) p.1 in
    let s = neither (eqb c 37) (eqb c 63) q.1 in
    (p.0, q.0, s.0, s.1)

list-ended : {f w : List ℕ} → Fills f w → ends_list f ≡ true → (starts is_digit w ≡ false) × (starts (λ b. eqb b 32) w ≡ false)
unfolding ends_list starts is_sign is_digit
list-ended done h = (refl, refl)
list-ended (itself c s q) h =
    let p = neither (is_sign c) (is_digit c || eqb c 32) (not-true (is_sign c || (is_digit c || eqb c 32)) h) in
    neither (is_digit c) (eqb c 32) p.1
list-ended (number n k q) h = absurd (not_both (sym h))
list-ended (no_more q) h = absurd (not_both (sym h))
list-ended (one_more n k q) h = absurd (not_both (sym h))
list-ended (Fills.none q) h = absurd (not_both (sym h))
list-ended (first n k q) h = absurd (not_both (sym h))
list-ended (missing q) h = absurd (not_both (sym h))
list-ended (one n k q) h = absurd (not_both (sym h))

number_ended : {f w : List ℕ} → Fills f w → ends_number f ≡ true → starts is_digit w ≡ false
unfolding ends_number starts is_sign
number_ended done h = refl
number_ended (itself {f} c s q) h =
    let e = (signs c s).1 in
    let k : not (is_sign c || is_digit c) ≡ true = sym (ap (λ (x : Bool). pick x (ends_list f) (not (is_sign c || is_digit c))) e) ∙ h in
    (neither (is_sign c) (is_digit c) (not-true (is_sign c || is_digit c) k)).1
number_ended (number n k q) h = absurd (not_both (sym h))
number_ended (no_more q) h = (list-ended q h).0
number_ended (one_more n k q) h = unfold is_digit in refl
number_ended (Fills.none q) h = absurd (not_both (sym h))
number_ended (first n k q) h = absurd (not_both (sym h))
number_ended (missing q) h = absurd (not_both (sym h))
number_ended (one n k q) h = absurd (not_both (sym h))

first_digit : (f w : List ℕ) (d : ℕ) → d < 10 → fits_from begins f ((48 + d) ∷ w) ≡ fits_from (inside d) f w
unfolding step begun
first_digit f w d h = let e : (48 + d) - 48 ≡ d = omega arith in fits-rest begins f (48 + d) w ∙ rw (digit_is d h, e)

next_digit : (f w : List ℕ) (a d : ℕ) → 0 < a → d < 10 → a * 10 + d ≤ 65535 → fits_from (inside a) f ((48 + d) ∷ w) ≡ fits_from (inside (a * 10 + d)) f w
unfolding step digit_step
next_digit f w a d p h g =
    let e : (48 + d) - 48 ≡ d = omega arith in
    fits-rest (inside a) f (48 + d) w ∙ rw (digit_is d h, e, lt-ltb 0 a p, le-leb (a * 10 + d) 65535 g)

-- a row's digits are read as the number
number_read : (k n : ℕ) → n < k → n ≤ 65535 → (f w : List ℕ) → fits_from begins f (decimal n ++ w) ≡ fits_from (inside n) f w
number_read zero n h g f w = absurd (omega arith)
number_read (suc k) n h g f w =
    elim (dec_lt n 10) [
      | yes l ↦ ap (λ (z : List ℕ). fits_from begins f (z ++ w)) (decimal_small n l) ∙ first_digit f w n l
      | no m ↦
          let a = n / 10 in
          let d = n % 10 in
          let z : a * 10 + d ≡ n = omega arith in
          let e = sym (ap decimal z) ∙ decimal_more a d (omega arith) (omega arith) in
          ap (λ (y : List ℕ). fits_from begins f (y ++ w)) e
          ∙ ap (fits_from begins f) (append_assoc (decimal a) ((48 + d) ∷ []) w)
          ∙ number_read k a (omega arith) (omega arith) f ((48 + d) ∷ w)
          ∙ next_digit f w a d (omega arith) (omega arith) (omega arith)
          ∙ ap (λ (y : ℕ). fits_from (inside y) f w) z
    ]

decimal-first : (k n : ℕ) → n < k → (b : ℕ) × (l : List ℕ) × (decimal n ≡ b ∷ l) × (is_digit b ≡ true)
decimal-first zero n h = absurd (omega arith)
decimal-first (suc k) n h =
    elim (dec_lt n 10) [
      | yes g ↦ (48 + n, [], decimal_small n g, digit_is n g)
      | no g ↦
          let a = n / 10 in
          let d = n % 10 in
          let z : a * 10 + d ≡ n = omega arith in
          let e = sym (ap decimal z) ∙ decimal_more a d (omega arith) (omega arith) in
          let r = decimal-first k a (omega arith) in
          (r.0, r.1 ++ ((48 + d) ∷ []), e ∙ ap (λ (y : List ℕ). y ++ ((48 + d) ∷ [])) r.2, r.3)
    ]

-- behind a number
after_number_lem : (n : ℕ) (f w : List ℕ) → starts is_digit w ≡ false → fits_from (inside n) f w ≡ fits_from outside f w
unfolding starts fits_from ends step
after_number_lem n f [] h = refl
after_number_lem n f (b ∷ w) h = fits-rest (inside n) f b w ∙ rw h (sym (fits-rest outside f b w))

-- a number is due
at_number : (f w : List ℕ) (n : ℕ) → n ≤ 65535 → starts is_digit w ≡ false → fits_from outside (35 ∷ f) (decimal n ++ w) ≡ fits_from outside f w
unfolding step outside_step
at_number f w n h e =
    let d = decimal-first (suc n) n (omega arith) in
    ap (λ (z : List ℕ). fits_from outside (35 ∷ f) (z ++ w)) d.2
    ∙ fits-rest outside (35 ∷ f) d.0 (d.1 ++ w) ∙ sym (fits-rest begins f d.0 (d.1 ++ w))
    ∙ sym (ap (λ (z : List ℕ). fits_from begins f (z ++ w)) d.2)
    ∙ number_read (suc n) n (omega arith) h f w ∙ after_number_lem n f w e

-- the first number of a list is due
at_first : (f w : List ℕ) (n : ℕ) → n ≤ 65535 → starts is_digit w ≡ false → fits_from outside (37 ∷ f) (decimal n ++ w) ≡ fits_from outside (42 ∷ f) w
unfolding step outside_step
at_first f w n h e =
    let d = decimal-first (suc n) n (omega arith) in
    ap (λ (z : List ℕ). fits_from outside (37 ∷ f) (z ++ w)) d.2
    ∙ fits-rest outside (37 ∷ f) d.0 (d.1 ++ w)
    ∙ ap (λ (x : Bool). rest (d.1 ++ w) (pick x (begun (42 ∷ f) d.0) (outside_step f d.0))) d.3
    ∙ sym (fits-rest begins (42 ∷ f) d.0 (d.1 ++ w))
    ∙ sym (ap (λ (z : List ℕ). fits_from begins (42 ∷ f) (z ++ w)) d.2)
    ∙ number_read (suc n) n (omega arith) h (42 ∷ f) w ∙ after_number_lem n (42 ∷ f) w e

-- a further number of a list is due
at_more : (f w : List ℕ) (n : ℕ) → n ≤ 65535 → starts is_digit w ≡ false → fits_from outside (42 ∷ f) (32 ∷ (decimal n ++ w)) ≡ fits_from outside (42 ∷ f) w
unfolding step outside_step
at_more f w n h e =
    fits-rest outside (42 ∷ f) 32 (decimal n ++ w) ∙ number_read (suc n) n (omega arith) h (42 ∷ f) w ∙ after_number_lem n (42 ∷ f) w e

-- no number of a list is there
after_list : (f w : List ℕ) → starts (λ b. eqb b 32) w ≡ false → fits_from outside (42 ∷ f) w ≡ fits_from outside f w
unfolding starts fits_from ends step may_end outside_step
after_list f [] h = refl
after_list f (b ∷ w) h = fits-rest outside (42 ∷ f) b w ∙ rw h (sym (fits-rest outside f b w))

no_first : (f w : List ℕ) → starts is_digit w ≡ false → fits_from outside (37 ∷ f) w ≡ fits_from outside f w
unfolding starts fits_from ends step may_end outside_step
no_first f [] h = refl
no_first f (b ∷ w) h = fits-rest outside (37 ∷ f) b w ∙ rw h (sym (fits-rest outside f b w))

-- a number that may be missing: it is there, or is not
at_one : (f w : List ℕ) (n : ℕ) → n ≤ 65535 → starts is_digit w ≡ false → fits_from outside (63 ∷ f) (32 ∷ (decimal n ++ w)) ≡ fits_from outside f w
unfolding step outside_step
at_one f w n h e = fits-rest outside (63 ∷ f) 32 (decimal n ++ w) ∙ number_read (suc n) n (omega arith) h f w ∙ after_number_lem n f w e

not_one : (f w : List ℕ) → starts (λ b. eqb b 32) w ≡ false → fits_from outside (63 ∷ f) w ≡ fits_from outside f w
unfolding starts fits_from ends step may_end outside_step
not_one f [] h = refl
not_one f (b ∷ w) h = fits-rest outside (63 ∷ f) b w ∙ rw h (sym (fits-rest outside f b w))

-- a byte that stands for itself
at_byte : (c : ℕ) (f w : List ℕ) → is_sign c ≡ false → fits_from outside (c ∷ f) (c ∷ w) ≡ fits_from outside f w
unfolding step outside_step
at_byte c f w h = let s = signs c h in fits-rest outside (c ∷ f) c w ∙ rw (s.0, s.1, s.2, s.3, eq-eqb c c refl)

fills_fits : {f w : List ℕ} → Fills f w → clear f ≡ true → fits f w ≡ true
unfolding clear is_sign fits ends_number
fills_fits done h = unfold fits_from in unfold ends in unfold may_end in refl
fills_fits (itself {f} {w} c s q) h = at_byte c f w s ∙ fills_fits q (both_true (pick (eqb c 35) (ends_number f) (pick (is_sign c) (ends_list f) true)) (clear f) h).1
fills_fits (number {f} {w} n k q) h = let p = both_true (ends_number f) (clear f) h in at_number f w n k (number_ended q p.0) ∙ fills_fits q p.1
fills_fits (no_more {f} {w} q) h = let p = both_true (ends_list f) (clear f) h in after_list f w (list-ended q p.0).1 ∙ fills_fits q p.1
fills_fits (one_more {f} {w} n k q) h = let p = both_true (ends_list f) (clear f) h in at_more f w n k (number_ended q p.0) ∙ fills_fits q h
fills_fits (Fills.none {f} {w} q) h = let p = both_true (ends_list f) (clear f) h in no_first f w (list-ended q p.0).0 ∙ fills_fits q p.1
fills_fits (missing {f} {w} q) h = let p = both_true (ends_list f) (clear f) h in not_one f w (list-ended q p.0).1 ∙ fills_fits q p.1
fills_fits (one {f} {w} n k q) h = let p = both_true (ends_list f) (clear f) h in at_one f w n k (list-ended q p.0).0 ∙ fills_fits q p.1
fills_fits (first {f} {w} n k q) h = let p = both_true (ends_list f) (clear f) h in at_first f w n k (number_ended q p.0) ∙ fills_fits q h

-- ---- the forms of a graph's rows

forms-clear : All (λ (f : List ℕ). clear f ≡ true) row_forms
unfolding row_forms bytes clear ends_number ends_list is_sign is_digit
forms-clear = all∷ refl (all∷ refl (all∷ refl (all∷ refl (all∷ refl (all∷ refl all[])))))

one-fits : (fs : List (List ℕ)) (w : List ℕ) → fits_one fs w ≡ true → (f : List ℕ) × Memᴰ f fs × Fills f w
unfolding fits_one fits
one-fits [] w e = absurd (not_both (sym e))
one-fits (f ∷ fs) w e =
    elim (either_true (fits f w) (fits_one fs w) e) [
      | inl h ↦ (f, Memᴰ.head refl, all_filled w outside f h)
      | inr h ↦ let r = one-fits fs w h in (r.0, Memᴰ.tail r.1, r.2)
    ]

fits_one_lem : {fs : List (List ℕ)} → All (λ (f : List ℕ). clear f ≡ true) fs → (f w : List ℕ) → Memᴰ f fs → Fills f w → fits_one fs w ≡ true
unfolding fits_one
fits_one_lem all[] f w m q = elim m [ ]
fits_one_lem (all∷ {a = g} h hs) f w (Memᴰ.head e) q = rw (fills_fits (rw e at q) h)
fits_one_lem (all∷ {a = g} {l = fs} h hs) f w (Memᴰ.tail m) q = either (fits g w) (fits_one_lem hs f w m q)
  where
    either : (x : Bool) {y : Bool} → y ≡ true → (x || y) ≡ true
    either true e = refl
    either false e = e

-- a row is found in form exactly when it fills a form
pub form_exactly : (w : List ℕ) → (is_graph_row w ≡ true) ↔ GraphRow w
unfolding is_graph_row
form_exactly w =
    (λ e. let r = one-fits row_forms w e in record { form = r.0; listed = r.1; filled = r.2 }, λ r. fits_one_lem forms-clear r.form w r.listed r.filled)
