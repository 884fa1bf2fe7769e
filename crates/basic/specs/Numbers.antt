-- A line number, read digit by digit. Assumes nothing.
use Rattle.std.specs.Prelude.{◌≡◌, refl, ℕ, suc, ◌+◌, ◌*◌, ◌-◌, ◌<◌, ◌≤◌, List, [], ◌∷◌, Bool, true, false, ◌&&◌, leb, length}
use Rattle.std.proofs.Common.{sym, ap, ◌∙◌, arith}
use borrow.Author.Tests.{leb-true, le-leb, lt-leb}
use Rattle.listings.specs.Bytes.{pick}
use Rattle.listings.specs.Rows.{is_digit}
use Rattle.program_files.specs.Program as definition
use Rattle.program_files.specs.Program.{Placed, digits, line_number}

-- ---- digits, one by one

pub digits_next : (a p b : ℕ) (l m : List Placed) → l ≡ (p, b) ∷ m → is_digit b ≡ true → digits a l ≡ digits (a * 10 + (b - 48)) m
unfolding digits
digits_next a p b l m e h = rw (e, h)

pub digits_stop : (a p b : ℕ) (l m : List Placed) → l ≡ (p, b) ∷ m → is_digit b ≡ false → digits a l ≡ (a, l)
unfolding digits
digits_stop a p b l m e h = rw (e, h)

pub number_none : (p b : ℕ) (l m : List Placed) → l ≡ (p, b) ∷ m → is_digit b ≡ false → line_number l ≡ definition.lacks p
unfolding line_number
number_none p b l m e h = rw (e, h)

-- v, which is not too large, was read from k up to l
pub record IsRead (k l : List Placed) (v : ℕ) : Type 0 where
  small : v ≤ 63999
  left : digits 0 k ≡ digits v l

pub read-none : (l : List Placed) → IsRead l l 0
read-none l = record { small = omega arith; left = refl }

pub read_next : (k l m : List Placed) (v w p b : ℕ) → IsRead k l v → l ≡ (p, b) ∷ m → is_digit b ≡ true → w ≡ v * 10 + (b - 48) → w ≤ 63999 → IsRead k m w
read_next k l m v w p b r e h q s = record { small = s; left = r.left ∙ digits_next v p b l m e h ∙ ap (λ (z : ℕ). digits z m) (sym q) }

digits_grow : (a : ℕ) (l : List Placed) → a ≤ (digits a l).0
unfolding digits
digits_grow a [] = omega arith
digits_grow a (d ∷ l) = go (is_digit d.1) (digits_grow (a * 10 + (d.1 - 48)) l)
  where
    go : (x : Bool) → a * 10 + (d.1 - 48) ≤ (digits (a * 10 + (d.1 - 48)) l).0 → a ≤ (pick {A = ℕ × List Placed} x (digits (a * 10 + (d.1 - 48)) l) (a, d ∷ l)).0
    go true h = omega arith
    go false h = omega arith

module _ (k j : List Placed) (q d : ℕ) (f : k ≡ (q, d) ∷ j) (g : is_digit d ≡ true) where
  number_is_lem : (n : ℕ) (l : List Placed) → digits 0 k ≡ (n, l) → line_number k ≡ pick (leb n 63999) (definition.found n l) (definition.lacks q)
  unfolding line_number
  number_is_lem n l e = let s : digits 0 ((q, d) ∷ j) ≡ (n, l) = ap (digits 0) (sym f) ∙ e in rw (f, g, s)

  module _ (l m : List Placed) (v p b : ℕ) (r : IsRead k l v) (e : l ≡ (p, b) ∷ m) where
    pub number_large : is_digit b ≡ true → 63999 < v * 10 + (b - 48) → line_number k ≡ definition.lacks q
    number_large h t =
        let x = v * 10 + (b - 48) in
        number_is_lem (digits x m).0 (digits x m).1 (r.left ∙ digits_next v p b l m e h)
        ∙ ap (λ (z : Bool). pick z (definition.found (digits x m).0 (digits x m).1) (definition.lacks q)) (lt-leb (digits x m).0 63999 (omega (arith, digits_grow x m)))

    pub number_found : is_digit b ≡ false → line_number k ≡ definition.found v l
    number_found h =
        number_is_lem v l (r.left ∙ digits_stop v p b l m e h) ∙ ap (λ (z : Bool). pick z (definition.found v l) (definition.lacks q)) (le-leb v 63999 r.small)

-- ---- a number that was found

digits_shorter : (a : ℕ) (l : List Placed) → length (digits a l).1 ≤ length l
unfolding digits
digits_shorter a [] = omega arith
digits_shorter a (d ∷ l) = go (is_digit d.1) (digits_shorter (a * 10 + (d.1 - 48)) l)
  where
    go : (x : Bool) → length (digits (a * 10 + (d.1 - 48)) l).1 ≤ length l → length (pick {A = ℕ × List Placed} x (digits (a * 10 + (d.1 - 48)) l) (a, d ∷ l)).1 ≤ suc (length l)
    go true h = omega arith
    go false h = omega arith

-- it is at most 63999, and what follows it is shorter
pub number_told : (l r : List Placed) (n : ℕ) → line_number l ≡ definition.found n r → (n ≤ 63999) × (suc (length r) ≤ length l)
unfolding line_number digits
number_told [] r n h = absurd (cc)
number_told (d ∷ l) r n h = go (is_digit d.1) (leb (digits 0 (d ∷ l)).0 63999) refl refl h
  where
    go : (x y : Bool) → is_digit d.1 ≡ x → leb (digits 0 (d ∷ l)).0 63999 ≡ y
        → pick (x && y) (definition.found (digits 0 (d ∷ l)).0 (digits 0 (d ∷ l)).1) (definition.lacks d.0) ≡ definition.found n r → (n ≤ 63999) × (suc (length r) ≤ length (d ∷ l))
    go true true e f h =
        let u : (digits 0 (d ∷ l)).0 ≡ n = cc in
        let v : (digits 0 (d ∷ l)).1 ≡ r = cc in
        let w : digits 0 (d ∷ l) ≡ digits (0 * 10 + (d.1 - 48)) l = digits_next 0 d.0 d.1 (d ∷ l) l refl e in
        (omega (arith, leb-true (digits 0 (d ∷ l)).0 63999 f), omega (arith, digits_shorter (0 * 10 + (d.1 - 48)) l, ap (λ (z : ℕ × List Placed). length z.1) w, ap length v))
    go true false e f h = absurd (cc)
    go false y e f h = absurd (cc)
