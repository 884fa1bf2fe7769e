-- Laws for loops that walk a text: the first byte of a value, a test of every byte, the pieces between separators. Assumes nothing.
use Rattle.std.specs.Prelude.{ℕ, zero, suc, ◌+◌, ◌-◌, ◌≤◌, ◌<◌, ◌≡◌, refl, List, [], ◌∷◌, Bool, true, false, eqb, length, get_or, take, drop}
use Rattle.std.proofs.Common.{sym, ap, ◌∙◌, subst, arith, not-suc-le-zero, le_of_suc-le-suc, add-one, length-drop, drop-cons, take_all, drop-drop, eq-eqb, ne_eqb, eqb-true}
use Rattle.std.proofs.lemmas.Bool.{eqb-false}
use Rattle.listings.specs.Bytes.{same, pick}
use Rattle.listings.specs.Rows.{all, split, on_first}
use Rattle.listings.specs.Tests.{both_true}

-- ---- the first byte of a value

-- how many bytes stand before the first b, all of them where there is none
unfoldable pub index_of : ℕ → List ℕ → ℕ
index_of b [] = 0
index_of b (x ∷ l) = pick (eqb x b) 0 (suc (index_of b l))

pub index_le : (b : ℕ) (l : List ℕ) → index_of b l ≤ length l
unfolding index_of
index_le b [] = omega arith
index_le b (x ∷ l) = go (eqb x b) (index_le b l)
  where
    go : (t : Bool) → index_of b l ≤ length l → pick t 0 (suc (index_of b l)) ≤ suc (length l)
    go true h = omega arith
    go false h = omega arith

pub index_here : (b : ℕ) (l : List ℕ) (i : ℕ) → i < length l → get_or l i 0 ≡ b → index_of b (drop i l) ≡ 0
unfolding index_of
index_here b l i h e = rw (drop-cons l i 0 h, eq-eqb (get_or l i 0) b e)

pub index_next : (b : ℕ) (l : List ℕ) (i : ℕ) → i < length l → (get_or l i 0 ≡ b → ⊥) → index_of b (drop i l) ≡ suc (index_of b (drop (suc i) l))
unfolding index_of
index_next b l i h e = rw (drop-cons l i 0 h, ne_eqb (get_or l i 0) b e)

-- ---- a test of every byte

pub all_next : (p : ℕ → Bool) (l : List ℕ) (i : ℕ) → i < length l → p (get_or l i 0) ≡ true → all p (drop i l) ≡ all p (drop (suc i) l)
unfolding all
all_next p l i h e = rw (drop-cons l i 0 h, e)

pub all_stop : (p : ℕ → Bool) (l : List ℕ) (i : ℕ) → i < length l → p (get_or l i 0) ≡ false → all p (drop i l) ≡ false
unfolding all
all_stop p l i h e = rw (drop-cons l i 0 h, e)

pub all-at : (p : ℕ → Bool) (l : List ℕ) (i : ℕ) → all p l ≡ true → i < length l → p (get_or l i 0) ≡ true
unfolding all
all-at p [] i e h = absurd (not-suc-le-zero h)
all-at p (x ∷ l) zero e h = (both_true (p x) (all p l) e).0
all-at p (x ∷ l) (suc i) e h = all-at p l i (both_true (p x) (all p l) e).1 (le_of_suc-le-suc h)

-- ---- equal texts

eqb_sym : (a b : ℕ) → eqb a b ≡ eqb b a
eqb_sym a b = go (eqb a b) refl
  where
    go : (t : Bool) → eqb a b ≡ t → t ≡ eqb b a
    go true e = sym (eq-eqb b a (sym (eqb-true a b e)))
    go false e = sym (ne_eqb b a (λ q. eqb-false a b e (sym q)))

pub same_sym : (a w : List ℕ) → same a w ≡ same w a
unfolding same
same_sym [] [] = refl
same_sym [] (b ∷ w) = refl
same_sym (a ∷ k) [] = refl
same_sym (a ∷ k) (b ∷ w) = rw (same_sym k w, eqb_sym a b)

pub same-nil : (l : List ℕ) → same l [] ≡ eqb (length l) 0
unfolding same
same-nil [] = refl
same-nil (b ∷ l) = sym (ne_eqb (suc (length l)) 0 (λ e. omega arith))

-- ---- the pieces between separators

pub split_last : (b : ℕ) (l : List ℕ) → index_of b l ≡ length l → split b l ≡ l ∷ []
unfolding index_of split on_first
split_last b [] h = refl
split_last b (x ∷ l) h = go (eqb x b) (λ e. split_last b l e) h
  where
    go : (t : Bool) → (index_of b l ≡ length l → split b l ≡ l ∷ []) → pick t 0 (suc (index_of b l)) ≡ suc (length l)
        → pick t ([] ∷ split b l) (on_first x (split b l)) ≡ (x ∷ l) ∷ []
    go true f h = absurd (omega arith)
    go false f h = ap (on_first x) (f (omega arith))

pub split_more : (b : ℕ) (l : List ℕ) → index_of b l < length l → split b l ≡ take (index_of b l) l ∷ split b (drop (suc (index_of b l)) l)
unfolding index_of split on_first
split_more b [] h = absurd (not-suc-le-zero h)
split_more b (x ∷ l) h = go (eqb x b) (λ e. split_more b l e) h
  where
    go : (t : Bool) → (index_of b l < length l → split b l ≡ take (index_of b l) l ∷ split b (drop (suc (index_of b l)) l))
        → pick t 0 (suc (index_of b l)) < suc (length l)
        → pick t ([] ∷ split b l) (on_first x (split b l)) ≡ take (pick t 0 (suc (index_of b l))) (x ∷ l) ∷ split b (drop (suc (pick t 0 (suc (index_of b l)))) (x ∷ l))
    go true f h = refl
    go false f h = ap (on_first x) (f (omega arith))

on_first-some : (b : ℕ) (ws : List (List ℕ)) → 0 < length (on_first b ws)
unfolding on_first
on_first-some b [] = omega arith
on_first-some b (w ∷ ws) = omega arith

pub split-some : (s : ℕ) (l : List ℕ) → 0 < length (split s l)
unfolding split
split-some s [] = omega arith
split-some s (b ∷ l) = go (eqb b s)
  where
    go : (t : Bool) → 0 < length (pick t ([] ∷ split s l) (on_first b (split s l)))
    go true = omega arith
    go false = on_first-some b (split s l)

-- ---- the next piece from a position on, as a loop over the pieces finds it

pub rest_all : (s : List ℕ) (at : ℕ) → take (length s - at) (drop at s) ≡ drop at s
rest_all s at = take_all (length s - at) (drop at s) (omega (arith, length-drop at s))

-- the piece of length e at a position
abbrev pub piece_at : List ℕ → ℕ → ℕ → List ℕ
piece_at s at e = take (at + e - at) (drop at s)

module _ (b : ℕ) (s : List ℕ) (at e : ℕ) (fits : at ≤ length s) (found : e ≡ index_of b (take (length s - at) (drop at s))) where
  found_is : e ≡ index_of b (drop at s)
  found_is = found ∙ ap (index_of b) (rest_all s at)

  pub next_last : at + e ≡ length s → split b (drop at s) ≡ piece_at s at e ∷ []
  next_last h =
      let l : index_of b (drop at s) ≡ length (drop at s) = omega (arith, found_is, length-drop at s) in
      let t : piece_at s at e ≡ drop at s = take_all (at + e - at) (drop at s) (omega (arith, length-drop at s)) in
      rw t (split_last b (drop at s) l)

  pub next_more : (at + e ≡ length s → ⊥) → e ≤ length (take (length s - at) (drop at s))
      → (at + e < length s) × (split b (drop at s) ≡ piece_at s at e ∷ split b (drop (at + e + 1) s))
  next_more h k =
      let le : e ≤ length (drop at s) = subst (λ (l : List ℕ). e ≤ length l) (rest_all s at) k in
      let lt : at + e < length s = omega (arith, length-drop at s) in
      let m : at + e - at ≡ index_of b (drop at s) = omega (arith, found_is) in
      let n : at + suc (index_of b (drop at s)) ≡ at + e + 1 = omega (arith, found_is) in
      let q : drop (suc (index_of b (drop at s))) (drop at s) ≡ drop (at + e + 1) s = drop-drop (suc (index_of b (drop at s))) at s ∙ ap (λ (z : ℕ). drop z s) n in
      (lt, rw (m, ← q) (split_more b (drop at s) (omega (arith, found_is, length-drop at s))))

-- ---- the first piece and the rest

front : (s : List ℕ) (e : ℕ) → take (e - 0) (drop 0 s) ≡ take e s
front s e = let z : e - 0 ≡ e = omega arith in ap (λ (n : ℕ). take n s) z

-- what follows the separator at e
abbrev pub after : List ℕ → ℕ → List ℕ
after s e = take (length s - (e + 1)) (drop (e + 1) s)

module _ (b : ℕ) (s : List ℕ) (e : ℕ) (found : e ≡ index_of b s) where
  pub split_alone : e ≡ length s → split b s ≡ take (e - 0) (drop 0 s) ∷ []
  split_alone h = split_last b s (sym found ∙ h) ∙ ap (λ (w : List ℕ). w ∷ []) (sym (front s e ∙ take_all e s (omega arith)))

  pub split-first : e < length s → split b s ≡ take (e - 0) (drop 0 s) ∷ split b (after s e)
  split-first h = rw (front s e, rest_all s (e + 1), add-one, found) (split_more b s (omega arith))
