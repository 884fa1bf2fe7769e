-- A stack of frames as marks in words: the opener i is bit i % 64 of word i / 64; openers ascend, so that the highest
-- mark is the top. Assumes nothing.
use Rattle.std.specs.Prelude.{◌≡◌, List, [], ◌∷◌, ◌++◌, ℕ, zero, suc, ◌+◌, ◌-◌, ◌*◌, ◌/◌, ◌%◌, ◌^◌, ◌≤◌, ◌<◌, eqb, length, get_or, set, take, replicate}
use Rattle.std.specs.Int.Count.{count_leading_zeros}
use Rattle.listings.specs.Bytes.{pick}

-- ---- the open ids, newest first

-- one more than the newest, or 0
abbrev pub top_of : List ℕ → ℕ
top_of [] = 0
top_of (i ∷ l) = suc i

-- those under the newest
abbrev pub under_top : List ℕ → List ℕ
under_top [] = []
under_top (i ∷ l) = l

-- ---- the words ("Push and pop hand the changed stack back")

-- no frame is open
unfoldable pub no_frames : List ℕ
no_frames = replicate 64 0

-- with the frame of opener i on top
abbrev pub pushed : List ℕ → ℕ → List ℕ
pushed ws i = set ws (i / 64) (get_or ws (i / 64) 0 + 2 ^ (i % 64))

-- one more than the highest mark of the first n words, or 0
unfoldable pub highest_mark : List ℕ → ℕ → ℕ
highest_mark ws zero = 0
highest_mark ws (suc q) = pick (eqb (get_or ws q 0) 0) (highest_mark ws q) (q * 64 + (64 - count_leading_zeros 64 (get_or ws q 0)))

-- one more than the opener of the frame on top, or 0
unfoldable pub top_mark : List ℕ → ℕ
top_mark ws = highest_mark ws 64

-- without the frame f, one more than its opener or 0
abbrev pub without : List ℕ → ℕ → List ℕ
without ws zero = ws
without ws (suc i) = set ws (i / 64) (get_or ws (i / 64) 0 - 2 ^ (i % 64))

-- without the frame on top
unfoldable pub popped : List ℕ → List ℕ
popped ws = without ws (top_mark ws)

-- without the frame of opener i "and all above": the frames under it
unfoldable pub under : List ℕ → ℕ → List ℕ
under ws i = take (i / 64) ws ++ (get_or ws (i / 64) 0 % 2 ^ (i % 64) ∷ replicate (63 - i / 64) 0)

-- ---- the words hold the open ids

pub data Holds : List ℕ → List ℕ → Type 0 where
  holds[] : {ws : List ℕ} → length ws ≡ 64 → ((q : ℕ) → get_or ws q 0 ≡ 0) → Holds ws []
  holds∷ : {ws us l : List ℕ} {i : ℕ} → Holds ws l → top_of l ≤ i → i < 4096 → us ≡ pushed ws i → Holds us (i ∷ l)

-- the words hold some openers, all below i
pub record HoldsBelow (ws : List ℕ) (i : ℕ) : Type 0 where
  pub openers : List ℕ
  pub held : Holds ws openers
  pub below : top_of openers ≤ i

-- id i may be pushed: no mark at i or above it in its word
abbrev pub Room : List ℕ → ℕ → Type 0
Room ws i = get_or ws (i / 64) 0 < 2 ^ (i % 64)
