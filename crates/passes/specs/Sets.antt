-- Sets of node ids in words of 64 bits: id i is bit i % 64 of word i / 64. Assumes nothing.
use Rattle.std.specs.Prelude.{◌≡◌, Bool, true, false, ◌&&◌, List, [], ◌∷◌, ◌++◌, ℕ, zero, suc, ◌+◌, ◌*◌, ◌/◌, ◌%◌, ◌^◌, eqb, leb, length, get_or, set, take, drop}
use Rattle.std.specs.Int.Bits.{bit_or}
use Rattle.listings.specs.Bytes.{pick}

unfoldable pub bit : List ℕ → ℕ → ℕ
bit ws i = (get_or ws (i / 64) 0 / 2 ^ (i % 64)) % 2

abbrev pub In : List ℕ → ℕ → Type 0
In ws i = bit ws i ≡ 1

-- one more id
unfoldable pub inserted : List ℕ → ℕ → List ℕ
inserted ws i = set ws (i / 64) (bit_or (get_or ws (i / 64) 0) (2 ^ (i % 64)))

-- a union: the first n words of us go into ws; all of them
unfoldable pub joined_to : List ℕ → List ℕ → ℕ → List ℕ
joined_to ws us zero = ws
joined_to ws us (suc n) = set (joined_to ws us n) n (bit_or (get_or ws n 0) (get_or us n 0))

unfoldable pub joined : List ℕ → List ℕ → List ℕ
joined ws us = joined_to ws us (length ws)

-- ---- the members, ascending

abbrev pub one_if : Bool → ℕ → List ℕ
one_if true i = i ∷ []
one_if false i = []

-- those in the k lowest bits of a word whose lowest bit is the id base
unfoldable pub word_members : ℕ → ℕ → ℕ → List ℕ
word_members base w zero = []
word_members base w (suc k) = word_members base w k ++ one_if (eqb (w / 2 ^ k % 2) 1) (base + k)

-- those in the first q words
unfoldable pub members_to : List ℕ → ℕ → List ℕ
members_to ws zero = []
members_to ws (suc q) = members_to ws q ++ word_members (q * 64) (get_or ws q 0) 64

unfoldable pub members_of : List ℕ → List ℕ
members_of ws = members_to ws (length ws)

-- a set has 64 words: how many members it has; 0 for what is no set
unfoldable pub size_of : List ℕ → ℕ
size_of ws = pick (eqb (length ws) 64) (length (members_of ws)) 0

-- its members, where a part of k entries holds them; else none
unfoldable pub members_within : List ℕ → ℕ → List ℕ
members_within ws k = pick (eqb (length ws) 64 && leb (length (members_of ws)) k) (members_of ws) []

-- l stands in a part behind its first n entries, up to r; what is behind r is as it was
pub record Put (part : List ℕ) (n : ℕ) (part' : List ℕ) (r : ℕ) (l : List ℕ) : Type 0 where
  pub count : r ≡ n + length l
  pub list : take r part' ≡ take n part ++ l
  pub rest : drop r part' ≡ drop r part
