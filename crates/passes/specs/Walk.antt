-- A walk with a mark for each node and a list of the marked nodes, whose end is the worklist: those whose steps are
-- still to be marked. Lists of steps as tables store them.
-- Assumes nothing.
use Rattle.std.specs.Prelude.{◌≡◌, Bool, true, false, ◌⊎◌, ℕ, suc, ◌+◌, ◌*◌, ◌≤◌, ◌<◌, length, get_or, take, drop}
use mathlib.Core.List.{List, [], ◌∷◌, Memᴰ}
use Rattle.graph_laws.specs.EdgeBounds.{Ids}
use Rattle.graph.specs.Reach.{Reach}

-- ---- what a walk promises

-- the list has exactly the nodes that steps lead to
pub record Reached (step : ℕ → List ℕ) (from : ℕ) (l : List ℕ) : Type 0 where
  pub sound : (v : ℕ) → Memᴰ v l → Reach step from v
  pub complete : (v : ℕ) → Reach step from v → Memᴰ v l

-- a node's list in the tables: of its 4 entries the first says where it begins, the second how long it is
unfoldable pub stored_list : List ℕ → List ℕ → ℕ → List ℕ
stored_list lists edges v = take (get_or lists (v * 4 + 1) 0) (drop (get_or lists (v * 4) 0) edges)

-- the tables hold the steps of n nodes
pub record Stored (lists edges : List ℕ) (n : ℕ) (step : ℕ → List ℕ) : Type 0 where
  pub rows : n * 4 ≤ length lists
  pub within : (v : ℕ) → v < n → get_or lists (v * 4) 0 + get_or lists (v * 4 + 1) 0 ≤ length edges
  pub list : (v : ℕ) → v < n → stored_list lists edges v ≡ step v
  pub ids : (v : ℕ) → v < n → Ids n (step v)

-- the first r entries of the worklist, whichever steps the tables hold
pub record RegionListed (lists edges : List ℕ) (n from : ℕ) (work : List ℕ) (r : ℕ) : Type 0 where
  pub within : r ≤ length work
  pub reached : (step : ℕ → List ℕ) → Stored lists edges n step → Reached step from (take r work)

-- ---- what a walk keeps

-- how many have no mark
unfoldable pub free : List Bool → ℕ
free [] = 0
free (true ∷ bs) = free bs
free (false ∷ bs) = suc (free bs)

-- v stands on the worklist, between n₀ and n
pub record On (w : List ℕ) (n₀ n v : ℕ) : Type 0 where
  pub i : ℕ
  pub above : n₀ ≤ i
  pub below : i < n
  pub stands : get_or w i 0 ≡ v

-- a list can be marked: its nodes have marks, and each free mark has room on the worklist
pub record Markable (size : ℕ) (l : List ℕ) (m : List Bool) (w : List ℕ) (n : ℕ) : Type 0 where
  pub ids : Ids size l
  pub marks-size : length m ≡ size
  pub work_size : length w ≡ size
  pub room : n + free m ≤ size

-- the nodes of l were marked, and those that had no mark stand on the worklist from n₀ on
pub record ListMarked (l : List ℕ) (m₀ : List Bool) (w₀ : List ℕ) (n₀ : ℕ) (m : List Bool) (w : List ℕ) (n : ℕ) : Type 0 where
  pub marks-size : length m ≡ length m₀
  pub work_size : length w ≡ length w₀
  pub count : n + free m ≡ n₀ + free m₀
  pub more : n₀ ≤ n
  pub grows : (v : ℕ) → get_or m₀ v false ≡ true → get_or m v false ≡ true
  pub covers : (v : ℕ) → Memᴰ v l → get_or m v false ≡ true
  pub new : (v : ℕ) → get_or m v false ≡ true → (get_or m₀ v false ≡ true) ⊎ (Memᴰ v l × On w n₀ n v)
  pub kept : (i : ℕ) → i < n₀ → get_or w i 0 ≡ get_or w₀ i 0
  pub listed : (i : ℕ) → n₀ ≤ i → i < n → get_or m (get_or w i 0) false ≡ true

-- the walk's invariant: n nodes are listed, and the steps of the first d of them are marked
pub record Walk (step : ℕ → List ℕ) (size from : ℕ) (m : List Bool) (w : List ℕ) (d n : ℕ) : Type 0 where
  pub marks-size : length m ≡ size
  pub work_size : length w ≡ size
  pub room : n + free m ≤ size
  pub done : d ≤ n
  pub sound : (v : ℕ) → get_or m v false ≡ true → Reach step from v
  pub root : get_or m from false ≡ true
  pub listed : (i : ℕ) → i < n → get_or m (get_or w i 0) false ≡ true
  pub all : (v : ℕ) → get_or m v false ≡ true → On w 0 n v
  pub closed : (i : ℕ) → i < d → (u : ℕ) → Memᴰ u (step (get_or w i 0)) → get_or m u false ≡ true
