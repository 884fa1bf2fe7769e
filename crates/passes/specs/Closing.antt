-- What later nodes add to a node's list, from the tables. Assumes nothing.
use Rattle.std.specs.Prelude.{ℕ, zero, suc, ◌+◌, ◌*◌, ◌<◌, ◌≤◌, ◌≡◌, Bool, ◌||◌, List, [], ◌∷◌, ◌++◌, eqb, length, take, get_or}
use Rattle.std.proofs.Math.Option.{some}
use Rattle.std.proofs.Math.ListN.{get_elem?}
use Rattle.layout.specs.Layout.{exit_word, exitif_word, else_word}
use Rattle.listings.specs.Every.{All}
use Rattle.graph.specs.Lists.{each}
use Rattle.graph.specs.Nodes.{Node}
use Rattle.graph.specs.Edges.{node_moves, loop_stack, do_stack}
use Rattle.graph_laws.specs.PerNode.{no_openers, Fact, facts, late}
use Rattle.graph_laws.specs.Adding.{node_number, decode, Added}
use Rattle.graph_laws.specs.Distinct.{Distinct}
use Rattle.passes.specs.Frames.{Worded, frame_table}

-- a list of distinct ids at the front of a part, which is as long as there are ids
pub record FitsPart (part : List ℕ) (n : ℕ) : Type 0 where
  pub within : n ≤ length part
  pub distinct : Distinct (take n part)
  pub below : All (λ (a : ℕ). a < length part) (take n part)

-- ---- falls by the table, three entries to a node

unfoldable pub fall_by : List ℕ → ℕ → List ℕ
fall_by falls j = decode (get_or falls (j * 3) 0)

-- where the node c - 1 falls, where c is not 0
unfoldable pub fall_from : List ℕ → ℕ → List ℕ
fall_from falls zero = []
fall_from falls (suc j) = fall_by falls j

-- the entry is there, and leads to an id below m
abbrev pub FallFits : List ℕ → ℕ → ℕ → Type 0
FallFits falls m j = (j * 3 < length falls) × (get_or falls (j * 3) 0 ≤ m)

abbrev pub FallFitsFrom : List ℕ → ℕ → ℕ → Type 0
FallFitsFrom falls m zero = Unit {0}
FallFitsFrom falls m (suc j) = FallFits falls m j

-- ---- the ELSEs that are linked, from c - 1 on, in ascending order

abbrev pub AboveNode : ℕ → ℕ → Type 0
AboveNode j zero = Unit {0}
AboveNode j (suc k) = j < k

pub data ElseChain (frames : List ℕ) : ℕ → List ℕ → Type 0 where
  chain[] : ElseChain frames 0 []
  chain∷ : {j : ℕ} {l : List ℕ} → j * 3 + 2 < length frames → AboveNode j (get_or frames (j * 3 + 2) 0) → ElseChain frames (get_or frames (j * 3 + 2) 0) l → ElseChain frames (suc j) (j ∷ l)

pub record ElsesFit (frames falls : List ℕ) (m c : ℕ) : Type 0 where
  pub elses : List ℕ
  pub chain : ElseChain frames c elses
  pub fit : All (FallFits falls m) elses

-- of all that the chain visits: where they fall
abbrev pub ElsesAdded : List ℕ → List ℕ → ℕ → List ℕ → ℕ → List ℕ → ℕ → Type 0
ElsesAdded falls frames c part n part' r = (l : List ℕ) → ElseChain frames c l → Added part n part' r (each (fall_by falls) l)

-- ---- a DOIF, and a node that has joined a frame

-- the falls of the ELSEs, or that of the closer
abbrev pub elses_or : ℕ → List ℕ → List ℕ → List ℕ
elses_or zero a b = b
elses_or (suc c) a b = a

-- the entries of the DOIF i
pub record DoifFits (falls frames : List ℕ) (m i : ℕ) : Type 0 where
  pub there : i * 3 + 2 < length frames
  pub elses : ElsesFit frames falls m (get_or frames (i * 3 + 2) 0)
  pub closer : FallFitsFrom falls m (get_or frames (i * 3 + 1) 0)

abbrev pub DoifAdded : List ℕ → List ℕ → ℕ → List ℕ → ℕ → List ℕ → ℕ → Type 0
DoifAdded falls frames i part n part' r =
    (l : List ℕ) → ElseChain frames (get_or frames (i * 3 + 2) 0) l
    → Added part n part' r (elses_or (get_or frames (i * 3 + 2) 0) (each (fall_by falls) l) (fall_from falls (get_or frames (i * 3 + 1) 0)))

-- where the closer of the frame of opener m - 1 falls, where m is not 0
unfoldable pub closer_from : List ℕ → List ℕ → ℕ → List ℕ
closer_from falls frames zero = []
closer_from falls frames (suc o) = fall_from falls (get_or frames (o * 3 + 1) 0)

abbrev pub CloserFits : List ℕ → List ℕ → ℕ → ℕ → Type 0
CloserFits falls frames m zero = Unit {0}
CloserFits falls frames m (suc o) = (o * 3 + 1 < length frames) × FallFitsFrom falls m (get_or frames (o * 3 + 1) 0)

-- EXIT, EXITIF, ELSE
unfoldable pub joins_word : ℕ → Bool
joins_word w = (eqb w exit_word || eqb w exitif_word) || eqb w else_word

-- ---- the whole

-- the tables of statements, falls and frames hold these nodes
pub record ClosingTables (stmts falls frames : List ℕ) (ns : List Node) : Type 0 where
  pub worded : Worded stmts ns
  pub falling : (j : ℕ) (f : Fact) → get_elem? (facts 0 ns no_openers) j ≡ some f → get_or falls (j * 3) 0 ≡ node_number f.fall
  pub framed : frames ≡ frame_table (length frames) (facts 0 ns no_openers)
  pub stmts_fit : length ns * 12 ≤ length stmts
  pub falls_fit : length ns * 3 ≤ length falls
  pub frames_fit : length ns * 3 ≤ length frames

-- they hold some nodes, i is one of them, and where they fall is below m
pub record ClosingReady (stmts falls frames : List ℕ) (i m : ℕ) : Type 0 where
  pub nodes : List Node
  pub tables : ClosingTables stmts falls frames nodes
  pub node : i < length nodes
  pub fall_below : (j : ℕ) → j < length nodes → get_or falls (j * 3) 0 ≤ m

unfoldable pub closing_edges : List Fact → ℕ → Fact → List ℕ
closing_edges F i f = late loop_stack F i (node_moves f.stmt).loops f.loop_met ++ late do_stack F i (node_moves f.stmt).dos f.do_met

-- of all nodes that the tables hold
abbrev pub ClosingAdded : List ℕ → List ℕ → List ℕ → ℕ → List ℕ → ℕ → List ℕ → ℕ → Type 0
ClosingAdded stmts falls frames i part n part' r =
    (ns : List Node) → ClosingTables stmts falls frames ns → (f : Fact) → get_elem? (facts 0 ns no_openers) i ≡ some f → Added part n part' r (closing_edges (facts 0 ns no_openers) i f)
