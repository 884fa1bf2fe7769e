-- The sets of the RETURNs, 64 words a node: a region's continuations are joined into those of its RETURNs. Assumes
-- nothing.
use Rattle.std.specs.Prelude.{◌≡◌, ◌⊎◌, ◌↔◌, ℕ, ◌*◌, ◌/◌, ◌<◌, length, get_or, take, drop}
use mathlib.Core.List.{List, Memᴰ}
use Rattle.layout.specs.Layout.{return_word}
use Rattle.passes.specs.Sets.{In}

-- one of the n nodes, and a RETURN: its record has 12 entries, of which the first is its opening word
abbrev pub IsReturn : List ℕ → ℕ → ℕ → Type 0
IsReturn stmts n r = (r < n) × (get_or stmts (r * 12) 0 ≡ return_word)

-- a node's own set
unfoldable pub set_of : List ℕ → ℕ → List ℕ
set_of sets i = take 64 (drop (i * 64) sets)

-- a row takes the place of row i
pub record RowPut (i : ℕ) (row rows rows' : List ℕ) : Type 0 where
  pub size : length rows' ≡ length rows
  pub here : set_of rows' i ≡ row
  pub others : (e : ℕ) → (e / 64 ≡ i → ⊥) → get_or rows' e 0 ≡ get_or rows e 0

-- `backs` went into the set of each RETURN of the list; all else is as it was
pub record ReturnsJoined (stmts : List ℕ) (n : ℕ) (l backs sets sets' : List ℕ) : Type 0 where
  pub size : length sets' ≡ length sets
  pub members : (r : ℕ) → IsReturn stmts n r → (k : ℕ) → In (set_of sets' r) k ↔ (In (set_of sets r) k ⊎ (Memᴰ r l × In backs k))
  pub others : (i : ℕ) → (IsReturn stmts n (i / 64) → ⊥) → get_or sets' i 0 ≡ get_or sets i 0
