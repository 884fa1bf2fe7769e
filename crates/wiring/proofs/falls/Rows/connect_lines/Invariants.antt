-- `connect_lines`: the lines from l on are connected, `next` is the entry of the first of them and `end` its first
-- node. Assumes nothing.
use Prim.Native.Nat.{◌≤◌}
use Rattle.passes.specs.Connecting.{Ahead}
use Rattle.passes.specs.Falls.{fall_rows}
use Rattle.passes.specs.LineSearch.{EntryTable}
use Rattle.passes.specs.Held.{StmtsHeld}
use Rattle.graph.specs.Nodes as definition
use Rattle.listings.specs.Listing.{Lines}
use Rattle.listings.specs.ListingText.{LinesOk}
use Rattle.wiring.proofs.falls.Rows.connect_lines.Given as goal

abbrev pub invariant-loop-l : goal.invariant-loop-l
invariant-loop-l l =
    (l.end ≤ l.self.records.n)
    × ((ls : Lines) → LinesOk ls → EntryTable (definition.entries ls) l.self.entries.rows.now l.self.entries.count → StmtsHeld ls l.self.records.stmts.now l.self.records.n
    → Ahead (definition.entries ls) (fall_rows (definition.entries ls) (definition.nodes ls)) l.self.entries.rows.now l.self.records.stmts.now l.initial.falls l.falls l.l l.end l.next)
