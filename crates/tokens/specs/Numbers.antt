-- A word as a number, as the code finds it. Assumes nothing.
use Rattle.std.specs.Prelude.{ℕ, suc, ◌+◌, ◌*◌, ◌-◌, ◌≤◌, ◌<◌, ◌≡◌, refl, List, [], ◌∷◌, Bool, true, false, ◌&&◌, not, eqb, leb, ltb, length, get_or, drop, Option, Some, None, Result, Ok, Err}
use Rattle.std.specs.Option.{ok_or}
use Rattle.std.proofs.Common.{arith, sym, drop-cons}
use borrow.Author.Tests.{ne_eqb, le-leb, lt-leb, leb-true, leb-false}
use Rattle.listings.specs.Bytes.{bytes, same, pick}
use Rattle.listings.specs.Rows.{Parse, malformed, invalid, parsed, all, is_digit, no_leading_zero, value, parse_number}
use Rattle.layout.specs.declared.refusals.Reason.{Reason}
use Rattle.layout.specs.declared.refusals.Reason.TheVariants as reason

-- the code's answer for what was read: a value, or why there is none
abbrev pub as_number : Parse ℕ → Result ℕ Reason
as_number malformed = Err reason.NotAForm
as_number invalid = Err reason.BadWord
as_number (parsed n) = Ok n

-- n, if it is at most m
unfoldable pub at_most : ℕ → ℕ → Option ℕ
at_most m n = pick (leb n m) (Some n) None

-- the value of digits, if it is at most 65535
unfoldable pub small_value : List ℕ → Option ℕ
small_value w = pick (leb (value 0 w) 65535) (Some (value 0 w)) None

-- whether a line's number is above the last one's, if there is one
abbrev pub ascends : Option ℕ → ℕ → Bool
ascends None n = true
ascends (Some m) n = ltb m n

-- ---- a bound

pub most_none : (m n : ℕ) → m < n → at_most m n ≡ None
unfolding at_most
most_none m n h = rw (lt-leb n m h)

pub most_some : (m n : ℕ) → n ≤ m → at_most m n ≡ Some n
unfolding at_most
most_some m n h = rw (le-leb n m h)

pub most_lacks : (m n : ℕ) → at_most m n ≡ None → m < n
unfolding at_most
most_lacks m n e = go (leb n m) refl e
  where
    go : (t : Bool) → leb n m ≡ t → pick t (Some n) None ≡ None → m < n
    go true p q = absurd cc
    go false p q = leb-false n m p

pub most_found : (m n v : ℕ) → at_most m n ≡ Some v → (v ≡ n) × (n ≤ m)
unfolding at_most
most_found m n v e = go (leb n m) refl e
  where
    go : (t : Bool) → leb n m ≡ t → pick t (Some n) None ≡ Some v → (v ≡ n) × (n ≤ m)
    go true p q = (cc, leb-true n m p)
    go false p q = absurd cc

-- ---- the value

pub value_grows : (a : ℕ) (l : List ℕ) → a ≤ value a l
unfolding value
value_grows a [] = omega arith
value_grows a (d ∷ l) = omega (arith, value_grows (a * 10 + (d - 48)) l)

pub value_next : (a : ℕ) (l : List ℕ) (i : ℕ) → i < length l → value a (drop i l) ≡ value (a * 10 + (get_or l i 0 - 48)) (drop (suc i) l)
unfolding value
value_next a l i h = rw (drop-cons l i 0 h)

pub small_none : (l : List ℕ) → 65535 < value 0 l → small_value l ≡ None
unfolding small_value
small_none l h = rw (lt-leb (value 0 l) 65535 h)

pub small_some : (l : List ℕ) → value 0 l ≤ 65535 → small_value l ≡ Some (value 0 l)
unfolding small_value
small_some l h = rw (le-leb (value 0 l) 65535 h)

-- ---- no leading zero

pub no_zero_short : (l : List ℕ) → length l < 2 → no_leading_zero l ≡ true
unfolding no_leading_zero
no_zero_short [] h = refl
no_zero_short (a ∷ []) h = refl
no_zero_short (a ∷ b ∷ l) h = absurd (omega arith)

pub no_zero_long : (l : List ℕ) → 2 ≤ length l → no_leading_zero l ≡ not (eqb (get_or l 0 0) 48)
unfolding no_leading_zero
no_zero_long [] h = absurd (omega arith)
no_zero_long (a ∷ []) h = absurd (omega arith)
no_zero_long (a ∷ b ∷ l) h = refl

-- ---- a number

pub number_malformed : (l : List ℕ) → all is_digit l ≡ false → parse_number l ≡ malformed
unfolding parse_number
number_malformed l h = rw h

module _ (l : List ℕ) (digits : all is_digit l ≡ true) where
  pub number_zero : no_leading_zero l ≡ false → parse_number l ≡ invalid
  unfolding parse_number
  number_zero k = rw (digits, k)

  pub number_value : no_leading_zero l ≡ true → as_number (parse_number l) ≡ ok_or (small_value l) reason.BadWord
  unfolding parse_number small_value
  number_value k = rw (digits, k) (go (leb (value 0 l) 65535))
    where
      go : (t : Bool) → as_number (pick t (parsed (value 0 l)) invalid) ≡ ok_or (pick t (Some (value 0 l)) None) reason.BadWord
      go true = refl
      go false = refl

-- ---- a flag

unfoldable pub flag_of : List ℕ → Option Bool
unfolding bytes
flag_of w = pick (same (bytes "0") w) (Some false) (pick (same (bytes "1") w) (Some true) None)

pub flag_zero : (w : List ℕ) → length w ≡ 1 → get_or w 0 0 ≡ 48 → Some false ≡ flag_of w
unfolding bytes same flag_of
flag_zero [] n e = absurd (omega (arith, n))
flag_zero (b ∷ []) n e = rw e refl
flag_zero (b ∷ c ∷ w) n e = absurd (omega (arith, n))

pub flag_one : (w : List ℕ) → length w ≡ 1 → get_or w 0 0 ≡ 49 → Some true ≡ flag_of w
unfolding bytes same flag_of
flag_one [] n e = absurd (omega (arith, n))
flag_one (b ∷ []) n e = rw e refl
flag_one (b ∷ c ∷ w) n e = absurd (omega (arith, n))

pub flag_none : (w : List ℕ) → (length w ≡ 1 → get_or w 0 0 ≡ 48 → ⊥) → (length w ≡ 1 → get_or w 0 0 ≡ 49 → ⊥) → None ≡ flag_of w
unfolding bytes same flag_of
flag_none [] h k = refl
flag_none (b ∷ []) h k = rw (ne_eqb 48 b (λ e. h refl (sym e)), ne_eqb 49 b (λ e. k refl (sym e))) refl
flag_none (b ∷ c ∷ w) h k = go (eqb 48 b) (eqb 49 b)
  where
    go : (x y : Bool) → None ≡ pick (x && false) (Some false) (pick (y && false) (Some true) None)
    go true true = refl
    go true false = refl
    go false true = refl
    go false false = refl
