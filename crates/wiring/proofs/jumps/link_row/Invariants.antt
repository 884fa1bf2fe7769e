-- `link_row`: the first j arguments are linked. Assumes nothing.
use mathlib.Core.Path.{◌≡◌}
use lib.Seq.{sets}
use lib.ListN.{take}
use Rattle.passes.specs.Jumps.{link_row}
use Rattle.passes.specs.LineSearch.{EntryTable}
use Rattle.graph.specs.Nodes.{Entries}
use Rattle.wiring.proofs.jumps.link_row.Given as goal

abbrev pub invariant-loop-j : goal.invariant-loop-j
invariant-loop-j l = (es : Entries) → EntryTable es l.w.rows.now l.w.count → l.links ≡ sets l.initial.links 0 (link_row es (take l.j l.args))
