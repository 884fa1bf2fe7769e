-- The mission (00-mission.md) as one theorem: what holds for every input and all lent tables once `build` has returned, and of every question asked of the tables
-- that it left. `Means L`: the input is one that gives the listing L; a text means the listing that it is the text of, with its names cut (`ListingOf`), a saved program what its definition reads (`FileOf`). Number: what such an input can be refused by. q: what it means, or its refusal. Statements alone, to be read beside 00-mission.md; quotes are its words and document 01's. The proof is in MissionProof. Assumes nothing.
use Rattle.std.specs.Prelude.{ℕ, Result, ◌≡◌, Bool, false, List, [], ◌⊎◌, length, get_or, take}
use Rattle.std.proofs.Math.Option.{some}
use Rattle.std.proofs.Math.ListN.{get_elem?}
use Rattle.listings.specs.Listing.{Name, Listing}
use Rattle.listings.specs.Read.{Answer}
use Rattle.program_files.specs.Inputs.{meaning}
use Rattle.listings.specs.Records.{handler_number}
use Rattle.listings.specs.WordTable.{word_index}
use Rattle.graph.specs.Nodes.{Node, nodes}
use Rattle.graph.specs.NodeWords.{stmt_number}
use Rattle.graph.specs.Graph.{wire, successors, predecessors, continuation, return_targets}
use Rattle.graph.specs.Build.{BuildNumber, edge_count}
use Rattle.graph.specs.Demand3.{Demand3}
use Rattle.graph.specs.Questions.{Reply, answer, refused, ask_successors, ask_predecessors, ask_entry, ask_statement, ask_path, ask_frame}
use Rattle.tables.specs.Columns.{word_of, line_of, continuation_entry, path_in, succ_part, pred_part}
use Rattle.tables.specs.EntryRows.{entries_in}
use Rattle.passes.specs.TableForms.{Sizes, Tables, Written, AllZero}
use Rattle.wiring.specs.GraphTables.{BuildWrote}
use Rattle.wiring.specs.Refusals.{Gives, NumberOf, LongEnough, Refusal}
use Rattle.wiring.specs.BuiltAnswer.{BuiltAnswer}
use Rattle.wiring.specs.BuiltAnswer as built
use Rattle.adjacency.specs.ListsAt.{successors_at, predecessors_at, list_reply, part_of}
use Rattle.adjacency.specs.EntryAt.{entry_at}
use Rattle.statements.specs.StatementAt.{node_statement, path_statement}
use Rattle.frame_lists.specs.FrameAt.{frame_at}
use Rattle.frame_slices.specs.FrameAnswer.{length_of, slice_after, FrameAnswered}
use Rattle.layout.specs.declared.refusals.Refusal.{Refusal as RefusalAnswer}
use Rattle.tables.specs.Told.{told}

-- ---- demand 1

pub record Demand1 (Means : Listing → Type 0) (Number : ℕ → Type 0) (q : Answer) (s : Sizes) (T : Tables) (x : BuiltAnswer) : Type 0 where
  -- "A listing that follows the bracket form and the limits of document 01, with long enough tables lent, is accepted, and its graph is written."
  pub accepts : (L : Listing) → Means L → LongEnough s L → (x ≡ built.Graph) × Written L s T
  -- "A call meets the refusals of document 01 or is carried out"
  pub decides : ((n p : ℕ) × Refusal Means q s n p) ⊎ ((L : Listing) × Means L × LongEnough s L)
  -- "each refusal has the number and place fixed there; a refused build leaves every entry of its tables zero"
  pub refuses : (n p : ℕ) → Refusal Means q s n p → (x ≡ built.Refused n p) × AllZero s T
  -- and no answer has another reason
  pub refused_by : (n p : ℕ) → x ≡ built.Refused n p → Refusal Means q s n p × AllZero s T
  pub graph_of : x ≡ built.Graph → (L : Listing) × Means L × LongEnough s L × Written L s T
  -- no number but those of the input (a text's 1 to 8, a file's 1, 4 to 8 and 33 to 35) and of the tables, 21 to 23
  pub numbers : (n p : ℕ) → x ≡ built.Refused n p → BuildNumber Number n

-- ---- demand 2

-- "Nodes, paths, successors in their order, predecessors .. and continuations": what the tables say of node i, which is n
pub record NodeWritten (L : Listing) (T : Tables) (i : ℕ) (n : Node) : Type 0 where
  -- opening word, line index, line number
  pub word : word_of T.stmts i ≡ stmt_number n.stmt
  pub line : line_of T.stmts i ≡ n.line
  pub number : get_or T.lines n.line 0 ≡ n.number
  -- the path, by holders and indices; 16 is the greatest depth
  pub path : path_in T.stmts 16 i ≡ n.path
  pub succ : succ_part T.lists T.succ i ≡ successors L i
  pub pred : pred_part T.lists T.pred i ≡ predecessors L i
  -- "the node that a GOSUB or ON GOSUB (a call) falls to", by its word and where it falls
  pub continues : continuation_entry T.stmts T.falls i ≡ continuation (wire L) i

-- "They are proved against a definition written from the rules there"
pub record Demand2 (L : Listing) (T : Tables) : Type 0 where
  pub count : get_or T.counts 1 0 ≡ length (nodes L.lines)
  pub node : (i : ℕ) (n : Node) → get_elem? (nodes L.lines) i ≡ some n → NodeWritten L T i n
  -- "Line entry: the node where a jump to a line number starts": each line's number with a node or none
  pub entries : entries_in (get_or T.counts 5 0) T.entries ≡ (wire L).entries.rows
  pub targets : take (get_or T.counts 4 0) T.returns ≡ return_targets (wire L)
  pub edges : get_or T.counts 3 0 ≡ edge_count L
  pub handlers : get_or T.counts 2 0 ≡ handler_number L.handlers

-- ---- the questions: demand 1's "A call meets the refusals of document 01 or is carried out; .. and a refused question writes nothing", and demand 2's
-- "and the frame question equals Cfg::frame_successors"

-- "a statement is answered by its node id and opening word": the word by its number in the table of the 28
unfoldable pub numbered : Reply (ℕ × List ℕ) → Reply (ℕ × ℕ)
numbered (answer d) = answer (d.0, word_index d.1)
numbered (refused n p) = refused n p

-- the list of an answer; none where it is refused
unfoldable pub list_of : Reply (List ℕ) → List ℕ
list_of (answer l) = l
list_of (refused n p) = []

-- "Questions ask for a node's successors, its statement, the statement at a path, a line's entry (a node or none), or the frame list": on the left what the
-- routine's own contract reads off the tables, on the right the answer or the refusal that the listing's graph has
pub record Questions (L : Listing) (T : Tables) : Type 0 where
  pub successors : (i : ℕ) → list_reply (successors_at T.counts T.lists (length T.succ) i) T.succ ≡ ask_successors L i
  pub predecessors : (i : ℕ) → list_reply (predecessors_at T.counts T.lists (length T.pred) i) T.pred ≡ ask_predecessors L i
  -- "that part of the caller's table"
  pub successor_part : (i : ℕ) → part_of (successors_at T.counts T.lists (length T.succ) i) T.succ ≡ list_of (ask_successors L i)
  pub predecessor_part : (i : ℕ) → part_of (predecessors_at T.counts T.lists (length T.pred) i) T.pred ≡ list_of (ask_predecessors L i)
  pub statement : (i : ℕ) → node_statement T.counts T.stmts i ≡ numbered (ask_statement L i)
  pub path : (line : ℕ) (p : List ℕ) → path_statement T.counts T.stmts line p ≡ numbered (ask_path L line p)
  pub entry : (number : ℕ) → entry_at T.counts T.entries number ≡ ask_entry L number
  -- whatever room there is
  pub frame : (header node : ℕ) (v : Name) (flag : Bool) (room : ℕ)
      → frame_at (get_or T.counts 0 0) (get_or T.counts 1 0) T.stmts T.args T.falls T.lists T.succ header node v flag room ≡ ask_frame L header node v flag room
  -- whatever slice is lent, by what the routine promises: the answer is that of the graph for its room; an accepted build "zeroes its tables past the used
  -- parts, and so does the frame question its slice"; "a refused question writes nothing"
  pub slice : (header node : ℕ) (v : Name) (flag : Bool) (out out' : List ℕ) (r : Result ℕ RefusalAnswer)
      → FrameAnswered (frame_at (get_or T.counts 0 0) (get_or T.counts 1 0) T.stmts T.args T.falls T.lists T.succ header node v flag (length out)) out out' r
      → (told r ≡ length_of (ask_frame L header node v flag (length out))) × (out' ≡ slice_after (ask_frame L header node v flag (length out)) out)

-- ---- the mission

pub record Mission (Means : Listing → Type 0) (Number : ℕ → Type 0) (q : Answer) (s : Sizes) (T : Tables) (x : BuiltAnswer) : Type 0 where
  pub first : Demand1 Means Number q s T x
  -- of every listing whose graph is written
  pub second : (L : Listing) → Means L → x ≡ built.Graph → Demand2 L T
  pub questions : (L : Listing) → Means L → x ≡ built.Graph → Questions L T
  -- "For every accepted listing that says that it has no handlers", of the successor lists that stand in the tables
  pub third : (L : Listing) → Means L → x ≡ built.Graph → L.handlers ≡ false → Demand3 L (succ_part T.lists T.succ)
  -- "For a listing in form that is refused its graph, it holds of the lists that the rules give."
  pub third_of_rules : (L : Listing) → Means L → L.handlers ≡ false → Demand3 L (successors L)

-- what `build_input` promises, for every input, a saved program or a text, all tables that may be lent and every answer, is enough
abbrev pub MissionMet : Type 0
MissionMet =
    (program : Bool) (input : List ℕ) (s : Sizes) (T : Tables) (x : BuiltAnswer) → BuildWrote (meaning program input) s T x
    → Mission (Gives program input) (NumberOf program) (meaning program input) s T x
