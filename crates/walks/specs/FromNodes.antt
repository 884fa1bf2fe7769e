-- What is said of tables one by one, of the nodes that hold them. Assumes nothing.
use Rattle.std.specs.Prelude.{ℕ, List, Bool, Option, length}
use Rattle.tables.specs.declared.nodes.Nodes.{Nodes}
use Rattle.passes.specs.declared.spans.Span.{Span}
use Rattle.passes.specs.Prepared.{link_entries}
use Rattle.passes.specs.Regions.{TargetsFit, CallFits, CallsReady, EntryCalls, ListedJoined, back_from}
use Rattle.passes.specs.Spans.{Spanned}
use Rattle.passes.specs.WalkTables.{CallsRead, call_readable, node_readable}
use Rattle.passes.specs.ByRows.{EntryByRows, EntriesByRows}

-- ---- whether calls can be read

abbrev pub call_readable_from : Nodes → (c : ℕ) → Bool
call_readable_from g c = call_readable g.records.stmts.now g.falls.now g.links.now g.records.n c

abbrev pub node_readable_from : Nodes → (c : ℕ) → Bool
node_readable_from g c = node_readable g.records.stmts.now g.falls.now g.links.now g.records.n c

abbrev pub CallsReadFrom : Nodes → Type 0
CallsReadFrom g = CallsRead g.records.stmts.now g.falls.now g.links.now g.records.n

-- ---- a call: its targets, and where it goes on if e is one of them

abbrev pub TargetsFitFrom : Nodes → (c : ℕ) → Type 0
TargetsFitFrom g c = TargetsFit g.records.stmts.now g.links.now c

abbrev pub CallFitsFrom : Nodes → (c : ℕ) → Type 0
CallFitsFrom g c = CallFits g.records.stmts.now g.falls.now g.links.now c

abbrev pub entries_from : Nodes → (c : ℕ) → List ℕ
entries_from g c = link_entries g.records.stmts.now g.links.now c

abbrev pub continues_from : Nodes → (e c : ℕ) → List ℕ
continues_from g e c = back_from g.records.stmts.now g.falls.now g.links.now e c

-- ---- a list of calls, where in it those of each entry stand, and those of one entry

abbrev pub CallsReadyFrom : Nodes → (calls : List ℕ) → Type 0
CallsReadyFrom g calls = CallsReady g.records.stmts.now g.falls.now g.links.now g.records.n calls

abbrev pub SpannedFrom : Nodes → (calls : List ℕ) (spans : List (Option Span)) → Type 0
SpannedFrom g calls spans = Spanned g.records.stmts.now g.links.now calls (length calls) spans

abbrev pub EntryCallsFrom : Nodes → (e : ℕ) (calls : List ℕ) → Type 0
EntryCallsFrom g e calls = EntryCalls g.records.stmts.now g.falls.now g.links.now g.records.n e calls

-- ---- what the entry e leaves in the sets, with its region listed, or by its row of bits; and the first k entries

abbrev pub ListedJoinedFrom : Nodes → (e : ℕ) (list sets sets' : List ℕ) → Type 0
ListedJoinedFrom g e list sets sets' = ListedJoined g.records.stmts.now g.falls.now g.links.now g.records.n e list sets sets'

abbrev pub EntryByRowsFrom : Nodes → (e : ℕ) (rows rows' : List ℕ) → Type 0
EntryByRowsFrom g e rows rows' = EntryByRows g.records.stmts.now g.falls.now g.links.now g.records.n e rows rows'

abbrev pub EntriesByRowsFrom : Nodes → (k : ℕ) (rows rows' : List ℕ) → Type 0
EntriesByRowsFrom g k rows rows' = EntriesByRows g.records.stmts.now g.falls.now g.links.now g.records.n k rows rows'
