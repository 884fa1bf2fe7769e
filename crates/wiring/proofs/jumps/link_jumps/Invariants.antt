-- `link_jumps`: the rows of the first i statements are written; the part of row i comes back with its links.
-- Assumes nothing.
use mathlib.Core.Path.{◌≡◌}
use lib.ListN.{take}
use Rattle.passes.specs.Jumps.{linked}
use Rattle.passes.specs.LineSearch.{EntryTable}
use Rattle.passes.specs.Held.{StmtsHeld, ArgsHeld}
use Rattle.graph.specs.Nodes as definition
use Rattle.listings.specs.Listing.{Lines}
use Rattle.listings.specs.ListingText.{LinesOk}
use Rattle.wiring.proofs.jumps.link_jumps.Given as goal

abbrev pub invariant-loop-i : goal.invariant-loop-i
invariant-loop-i l =
    (ls : Lines) → LinesOk ls → EntryTable (definition.entries ls) l.g.entries.rows.now l.g.entries.count → StmtsHeld ls l.g.records.stmts.now l.g.records.n → ArgsHeld ls l.args
    → l.links ≡ linked (definition.entries ls) l.initial.links 0 (take l.i (definition.nodes ls))
