-- `add_links`: the bodies of the first links are added. Assumes nothing.
use Rattle.std.proofs.Common.{take}
use Rattle.graph.specs.Lists.{each}
use Rattle.passes.specs.NextBodies.{link_body}
use Rattle.storing.specs.NodeLists.{AddedTo}
use Rattle.wiring.proofs.nexts.add_links.Given as goal

abbrev pub invariant-loop-t : goal.invariant-loop-t
invariant-loop-t l = AddedTo l.initial.list l.list (each (link_body l.falls) (take l.t-index l.row))
