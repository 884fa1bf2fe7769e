-- Rows of bits, 64 words a node: where each node leads, and, once they are closed, all that it can reach in one step or
-- more (Warshall). Assumes nothing.
use Rattle.std.specs.Prelude.{◌≡◌, ◌⊎◌, ◌↔◌, ℕ, ◌*◌, ◌/◌, ◌≤◌, ◌<◌, length, get_or}
use mathlib.Core.List.{List, [], Memᴰ}
use Rattle.graph.specs.Reach.{Reach}
use Rattle.passes.specs.Sets.{In}
use Rattle.passes.specs.ReturnSets.{set_of}
use Rattle.layout.specs.Layout.{return_word}
use Rattle.passes.specs.Walk.{Reached}

-- ---- what the closure promises

-- the rows of n nodes hold their steps
pub record RowsHold (step : ℕ → List ℕ) (n : ℕ) (rows : List ℕ) : Type 0 where
  pub row : (i : ℕ) → i < n → (j : ℕ) → In (set_of rows i) j ↔ Memᴰ j (step i)

-- a way of one step or more
pub record Leads (step : ℕ → List ℕ) (i j : ℕ) : Type 0 where
  pub next : ℕ
  pub stepped : Memᴰ next (step i)
  pub reach : Reach step next j

-- the rows of n nodes hold all that their steps lead to
pub record RowsClosed (step : ℕ → List ℕ) (n : ℕ) (rows : List ℕ) : Type 0 where
  pub row : (i : ℕ) → i < n → (j : ℕ) → In (set_of rows i) j ↔ Leads step i j

-- only nodes below n take steps
abbrev pub StepsBelow : ℕ → (ℕ → List ℕ) → Type 0
StepsBelow n step = (i : ℕ) → n ≤ i → step i ≡ []

-- whichever steps the rows held
pub record Closed (n : ℕ) (rows rows' : List ℕ) : Type 0 where
  pub size : length rows' ≡ length rows
  pub closed : (step : ℕ → List ℕ) → StepsBelow n step → RowsHold step n rows → RowsClosed step n rows'
  pub rest : (e : ℕ) → n * 64 ≤ e → get_or rows' e 0 ≡ get_or rows e 0

-- a row holds the nodes of a list
pub record RowIs (l row : List ℕ) : Type 0 where
  pub size : length row ≡ 64
  pub nodes : (j : ℕ) → In row j ↔ Memᴰ j l

-- ---- what it keeps

-- a way of one step or more whose nodes between its ends are all below k
pub data Way (step : ℕ → List ℕ) (k a : ℕ) : ℕ → Type 0 where
  one : {b : ℕ} → Memᴰ b (step a) → Way step k a b
  more : {b c : ℕ} → Way step k a b → b < k → Memᴰ c (step b) → Way step k a c

-- row i took all of row k, `set`, if it has node k
pub record RowJoined (k : ℕ) (set : List ℕ) (i : ℕ) (rows rows' : List ℕ) : Type 0 where
  pub size : length rows' ≡ length rows
  pub here : (j : ℕ) → In (set_of rows' i) j ↔ (In (set_of rows i) j ⊎ (In (set_of rows i) k × In set j))
  pub others : (e : ℕ) → (e / 64 ≡ i → ⊥) → get_or rows' e 0 ≡ get_or rows e 0

-- the first n rows did so
pub record RowsJoined (k : ℕ) (set : List ℕ) (n : ℕ) (rows rows' : List ℕ) : Type 0 where
  pub size : length rows' ≡ length rows
  pub row : (i : ℕ) → i < n → (j : ℕ) → In (set_of rows' i) j ↔ (In (set_of rows i) j ⊎ (In (set_of rows i) k × In set j))
  pub rest : (e : ℕ) → n * 64 ≤ e → get_or rows' e 0 ≡ get_or rows e 0

-- after k rounds: ways whose nodes between their ends are below k
pub record ClosedTo (n k : ℕ) (rows rows' : List ℕ) : Type 0 where
  pub size : length rows' ≡ length rows
  pub ways : (step : ℕ → List ℕ) → RowsHold step n rows → (i : ℕ) → i < n → (j : ℕ) → In (set_of rows' i) j ↔ Way step k i j
  pub rest : (e : ℕ) → n * 64 ≤ e → get_or rows' e 0 ≡ get_or rows e 0

-- ---- a node and its closed row

-- The rows of nodes that are no RETURN hold all that their steps lead to. A RETURN takes no step, and its row may hold
-- anything.
pub record OthersClosed (step : ℕ → List ℕ) (stmts : List ℕ) (n : ℕ) (rows : List ℕ) : Type 0 where
  pub returning : (i : ℕ) → i < n → get_or stmts (i * 12) 0 ≡ return_word → step i ≡ []
  pub row : (i : ℕ) → i < n → (get_or stmts (i * 12) 0 ≡ return_word → ⊥) → (j : ℕ) → In (set_of rows i) j ↔ Leads step i j

-- a set has all that can be reached from a node, whichever steps the rows were closed over
abbrev pub RowReached : (stmts rows : List ℕ) (n from : ℕ) (set : List ℕ) → Type 0
RowReached stmts rows n from set = (step : ℕ → List ℕ) → OthersClosed step stmts n rows → (v : ℕ) → In set v ↔ Reach step from v

abbrev pub RowListed : (stmts rows : List ℕ) (n from : ℕ) (l : List ℕ) → Type 0
RowListed stmts rows n from l = (step : ℕ → List ℕ) → OthersClosed step stmts n rows → Reached step from l
