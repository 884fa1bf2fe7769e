-- What is said of tables one by one, of the nodes with their lists, of the calls among them, and of their sets. Assumes
-- nothing.
use Rattle.std.specs.Prelude.{ℕ, List}
use Rattle.tables.specs.declared.nodes.Nodes.{Nodes}
use Rattle.walks.specs.declared.sets.Sets.{Sets}
use Rattle.walks.specs.declared.spans.Calls.{Calls}
use Rattle.walks.specs.declared.walk.Listed.{Listed}
use Rattle.passes.specs.Walk.{Stored, stored_list}
use Rattle.passes.specs.RegionLaws.{read_stored}
use Rattle.passes.specs.Regions.{RegionJoined, RegionsJoined, SetsFound, EntriesReady}
use Rattle.passes.specs.ByRows.{ByRowsReady}
use Rattle.passes.specs.Closure.{RowReached, RowListed}

-- what it is that the lists can be read
pub stored_in : (w : Listed) → Stored w.lists.now w.edges.now w.nodes.records.n (stored_list w.lists.now w.edges.now)
stored_in w = read_stored w.lists.now w.edges.now w.nodes.records.n w.readable

-- ---- by the stored lists: what the entry e leaves in the sets, the first k entries, and all

abbrev pub EntriesReadyFrom : Listed → Calls → (sets : List ℕ) → Type 0
EntriesReadyFrom w calls sets = EntriesReady w.nodes.records.stmts.now w.nodes.falls.now w.nodes.links.now w.lists.now w.edges.now w.nodes.records.n calls.list.now calls.spans.now sets

abbrev pub RegionJoinedFrom : Listed → (e : ℕ) (sets sets' : List ℕ) → Type 0
RegionJoinedFrom w e sets sets' = RegionJoined w.nodes.records.stmts.now w.nodes.falls.now w.nodes.links.now (stored_list w.lists.now w.edges.now) w.nodes.records.n e sets sets'

abbrev pub RegionsJoinedFrom : Listed → (k : ℕ) (sets sets' : List ℕ) → Type 0
RegionsJoinedFrom w k sets sets' = RegionsJoined w.nodes.records.stmts.now w.nodes.falls.now w.nodes.links.now (stored_list w.lists.now w.edges.now) w.nodes.records.n k sets sets'

abbrev pub SetsFoundFrom : Listed → (sets sets' : List ℕ) → Type 0
SetsFoundFrom w sets sets' = SetsFound w.nodes.records.stmts.now w.nodes.falls.now w.nodes.links.now (stored_list w.lists.now w.edges.now) w.nodes.records.n sets sets'

-- ---- by rows of bits

abbrev pub ByRowsReadyFrom : Nodes → Calls → (rows : List ℕ) → Type 0
ByRowsReadyFrom g calls rows = ByRowsReady g.records.stmts.now g.falls.now g.links.now g.records.n calls.list.now calls.spans.now rows

abbrev pub RowReachedFrom : Sets → (from : ℕ) (set : List ℕ) → Type 0
RowReachedFrom rows from set = RowReached rows.records.stmts.now rows.words.now rows.records.n from set

abbrev pub RowListedFrom : Sets → (from : ℕ) (list : List ℕ) → Type 0
RowListedFrom rows from list = RowListed rows.records.stmts.now rows.words.now rows.records.n from list
