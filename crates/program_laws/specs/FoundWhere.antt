-- The byte at which a 34 or 35 is found, beside the place that the answer names. Assumes nothing.
use Rattle.std.specs.Prelude.{ℕ, suc, ◌+◌, ◌*◌, ◌-◌, ◌≤◌, ◌<◌, ◌≡◌, List, [], ◌∷◌, Bool, true, false, ◌&&◌, ◌||◌, eqb, take, drop, get_or}
use Rattle.listings.specs.Bytes.{pick}
use Rattle.listings.specs.Rows.{is_digit, all}
use Rattle.listings.specs.Scan.{index_of}

-- "Spaces outside quotes are skipped", in numbers too
unfoldable pub digit_or_space : ℕ → Bool
digit_or_space b = is_digit b || eqb b 32

-- the number that digits and spaces make, behind digits that make a
unfoldable pub value_of : ℕ → List ℕ → ℕ
value_of a [] = a
value_of a (b ∷ l) = value_of (pick (eqb b 32) a (a * 10 + (b - 48))) l

-- the bytes of a file from place p up to the one before place m
abbrev pub from_to : List ℕ → ℕ → ℕ → List ℕ
from_to f p m = take (m - p) (drop p f)

-- "A link of 0 ends the reading": whether the link at place q is 0
abbrev pub zero_link : List ℕ → ℕ → Bool
zero_link f q = eqb (get_or f q 0) 0 && eqb (get_or f (suc q) 0) 0

-- "two load address bytes, then per line a link word, a line number word .., the bytes, and a zero": a link stands at place q of the file
pub data LinkAt (f : List ℕ) : ℕ → Type 0 where
  first_link : LinkAt f 2
  next_link : (q : ℕ) → LinkAt f q → zero_link f q ≡ false → LinkAt f (q + 5 + index_of 0 (drop (q + 4) f))

-- of a refusal n at place p: where it is found. "The first offending byte decides and is the place (of 35 a number's first byte, or the one found instead ..)"
pub data FoundAt (f : List ℕ) (n p : ℕ) : ℕ → Type 0 where
  -- at the place itself
  at_place : FoundAt f n p p
  -- a line's own number, whose two bytes stand behind the link at q, is known with the second of them, and is too large
  at_second_byte : (q : ℕ) → n ≡ 35 → LinkAt f q → zero_link f q ≡ false → p ≡ q + 2 → 63999 < get_or f p 0 + 256 * get_or f (suc p) 0 → FoundAt f n p (suc p)
  -- a number that begins at p is too large with its digit at q, and was not before it
  at_digit : (q : ℕ) → n ≡ 35 → is_digit (get_or f p 0) ≡ true → all digit_or_space (from_to f p (suc q)) ≡ true → value_of 0 (from_to f p q) ≤ 63999 → 63999 < value_of 0 (from_to f p (suc q))
      → FoundAt f n p q
