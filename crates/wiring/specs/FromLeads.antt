-- What is said of tables one by one, of the leads that hold them. Assumes nothing.
use Rattle.std.specs.Prelude.{ℕ, List, Bool}
use Rattle.wiring.specs.declared.entries.Entries.{Entries}
use Rattle.wiring.specs.declared.leads.Leads.{Leads}
use Rattle.storing.specs.declared.growing.NodeList.{NodeList}
use Rattle.tables.specs.EntryRows.{entry_column}
use Rattle.passes.specs.NextBodies.{SelectRoom, slot_bodies}
use Rattle.passes.specs.NodeList.{ListReady, ListMade}
use Rattle.passes.specs.SkipLists as skips
use Rattle.passes.specs.SkipLists.{SkipsReady, SkipsDone}
use Rattle.passes.specs.FillRows.{SkipMade, RowReady, RowFilled, PassReady, PassFilled, FillReady, RowsFilled}
use Rattle.passes.specs.ByRows.{ReturnsByRows}
use Rattle.passes.specs.Preparing.{FramesMade}
use Rattle.wiring.specs.FrameRows.{flat}
use Rattle.wiring.specs.CountGraph.{ReturnsReady, ReturnsFound, CountReady, CountedTo}

-- the table of frames, as the passes have it
abbrev pub frames_of : Leads → List ℕ
frames_of g = flat g.frames.now

-- ---- what is added to a node's list

-- the nodes of the line entries: one more each, or 0
abbrev pub nodes_from : Entries → List ℕ
nodes_from w = entry_column 1 w.count w.rows.now

-- the bodies that one slot selects, and that there is room for those of each slot
abbrev pub slot_from : Leads → (args : List ℕ) (key : ℕ) → List ℕ
slot_from g args = slot_bodies args g.nodes.falls.now g.dispatched.now

abbrev pub SelectRoomFrom : Leads → (args : List ℕ) → NodeList → Type 0
SelectRoomFrom g args l = SelectRoom args g.nodes.falls.now g.dispatched.now l.part.now l.n

-- ---- a node's list, for a list that has room for m entries

abbrev pub ListReadyFrom : Leads → (args : List ℕ) (i m : ℕ) → Type 0
ListReadyFrom g args i m = ListReady g.nodes.records.stmts.now args g.entries.rows.now g.nodes.falls.now g.nodes.links.now (frames_of g) g.dispatched.now g.entries.count i m

abbrev pub ListMadeFrom : Leads → (args : List ℕ) (i : ℕ) (part part' : List ℕ) (r : ℕ) → Type 0
ListMadeFrom g args i part part' r = ListMade g.nodes.records.stmts.now args g.entries.rows.now g.nodes.falls.now g.nodes.links.now (frames_of g) g.dispatched.now g.entries.count i part part' r

-- ---- the lists that skipping paths follow, stored

abbrev pub StoreReadyFrom : Leads → (args : List ℕ) (i total at : ℕ) (lists scratch buffer : List ℕ) → Type 0
StoreReadyFrom g args i total at lists scratch buffer = skips.SkipReady g.nodes.records.stmts.now args g.entries.rows.now g.nodes.falls.now g.nodes.links.now (frames_of g) g.dispatched.now g.entries.count i total at lists scratch buffer

abbrev pub StoreDoneFrom : Leads → (args : List ℕ) (i total at : ℕ) (lists lists' scratch scratch' : List ℕ) (total' at' : ℕ) → Type 0
StoreDoneFrom g args i total at lists lists' scratch scratch' total' at' = skips.SkipDone g.nodes.records.stmts.now args g.entries.rows.now g.nodes.falls.now g.nodes.links.now (frames_of g) g.dispatched.now g.entries.count i total at lists lists' scratch scratch' total' at'

abbrev pub StoresReadyFrom : Leads → (args lists scratch buffer : List ℕ) → Type 0
StoresReadyFrom g args lists scratch buffer = SkipsReady g.nodes.records.stmts.now args g.entries.rows.now g.nodes.falls.now g.nodes.links.now (frames_of g) g.dispatched.now g.entries.count g.nodes.records.n lists scratch buffer

abbrev pub StoresDoneFrom : Leads → (args lists lists' scratch scratch' : List ℕ) (r : ℕ) → Type 0
StoresDoneFrom g args lists lists' scratch scratch' r = SkipsDone g.nodes.records.stmts.now args g.entries.rows.now g.nodes.falls.now g.nodes.links.now (frames_of g) g.dispatched.now g.entries.count g.nodes.records.n lists lists' scratch scratch' r

-- ---- the rows of bits

abbrev pub SkipMadeFrom : Leads → (args : List ℕ) (i : ℕ) (part part' : List ℕ) (r : ℕ) → Type 0
SkipMadeFrom g args i part part' r = SkipMade g.nodes.records.stmts.now args g.entries.rows.now g.nodes.falls.now g.nodes.links.now (frames_of g) g.dispatched.now g.entries.count i part part' r

abbrev pub RowReadyFrom : Leads → (args : List ℕ) (i : ℕ) (nexts : Bool) (m : ℕ) → Type 0
RowReadyFrom g args i nexts m = RowReady g.nodes.records.stmts.now args g.entries.rows.now g.nodes.falls.now g.nodes.links.now (frames_of g) g.dispatched.now g.entries.count i nexts m

abbrev pub RowFilledFrom : Leads → (args : List ℕ) (i : ℕ) (nexts : Bool) (args' : List ℕ) → Type 0
RowFilledFrom g args i nexts args' = RowFilled g.nodes.records.stmts.now args g.entries.rows.now g.nodes.falls.now g.nodes.links.now (frames_of g) g.dispatched.now g.entries.count i nexts args'

abbrev pub PassReadyFrom : Leads → (args : List ℕ) (nexts : Bool) (m : ℕ) → Type 0
PassReadyFrom g args nexts m = PassReady g.nodes.records.stmts.now args g.entries.rows.now g.nodes.falls.now g.nodes.links.now (frames_of g) g.dispatched.now g.entries.count g.nodes.records.n nexts m

-- of the first k nodes
abbrev pub PassFilledFrom : Leads → (args : List ℕ) (nexts : Bool) (k : ℕ) (args' : List ℕ) → Type 0
PassFilledFrom g args nexts k args' = PassFilled g.nodes.records.stmts.now args g.entries.rows.now g.nodes.falls.now g.nodes.links.now (frames_of g) g.dispatched.now g.entries.count g.nodes.records.n nexts k args'

abbrev pub FillReadyFrom : Leads → (args : List ℕ) (m : ℕ) → Type 0
FillReadyFrom g args m = FillReady g.nodes.records.stmts.now args g.entries.rows.now g.nodes.falls.now g.nodes.links.now (frames_of g) g.dispatched.now g.entries.count g.nodes.records.n m

abbrev pub RowsFilledFrom : Leads → (args args' : List ℕ) → Type 0
RowsFilledFrom g args args' = RowsFilled g.nodes.records.stmts.now args g.entries.rows.now g.nodes.falls.now g.nodes.links.now (frames_of g) g.dispatched.now g.entries.count g.nodes.records.n args'

abbrev pub ReturnsByRowsFrom : Leads → (args args' : List ℕ) → Type 0
ReturnsByRowsFrom g args args' = ReturnsByRows g.nodes.records.stmts.now args g.entries.rows.now g.nodes.falls.now g.nodes.links.now (frames_of g) g.dispatched.now g.entries.count g.nodes.records.n args'

-- ---- the graph counted

abbrev pub ReturnsReadyFrom : Leads → (own : ℕ) (args lists scratch : List ℕ) (room : ℕ) → Type 0
ReturnsReadyFrom g own args lists scratch room = ReturnsReady own g.nodes.records.stmts.now args g.entries.rows.now g.nodes.falls.now g.nodes.links.now (frames_of g) g.dispatched.now g.entries.count g.nodes.records.n lists scratch room

abbrev pub ReturnsFoundFrom : Leads → (handlers : Bool) (own : ℕ) (args lists scratch args' : List ℕ) → Type 0
ReturnsFoundFrom g handlers own args lists scratch args' = ReturnsFound handlers own g.nodes.records.stmts.now args g.entries.rows.now g.nodes.falls.now g.nodes.links.now (frames_of g) g.dispatched.now g.entries.count g.nodes.records.n lists scratch args'

abbrev pub CountReadyFrom : Leads → (handlers : Bool) (args lists scratch returns : List ℕ) (room : ℕ) → Type 0
CountReadyFrom g handlers args lists scratch returns room = CountReady handlers g.nodes.records.stmts.now args g.entries.rows.now g.nodes.falls.now g.nodes.links.now (frames_of g) g.dispatched.now g.entries.count g.nodes.records.n lists scratch returns room

abbrev pub CountedFrom : Leads → (handlers : Bool) (args args' lists' scratch' returns' : List ℕ) (edges targets : ℕ) → Type 0
CountedFrom g handlers args args' lists' scratch' returns' edges targets = CountedTo handlers g.nodes.records.stmts.now args g.entries.rows.now g.nodes.falls.now g.nodes.links.now (frames_of g) g.dispatched.now g.entries.count g.nodes.records.n args' lists' scratch' returns' edges targets

-- ---- the tables of frames and of dispatched FORs

abbrev pub FramesIn : Leads → Type 0
FramesIn g = FramesMade g.nodes.records.stmts.now g.nodes.falls.now (frames_of g) g.dispatched.now g.nodes.records.n
