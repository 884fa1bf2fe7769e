-- `add_targets`: what the first k entries lead to is added. Assumes nothing.
use Rattle.std.proofs.Common.{take}
use Rattle.graph.specs.Lists.{each}
use Rattle.graph_laws.specs.Adding.{decode}
use Rattle.storing.specs.NodeLists.{AddedTo}
use Rattle.storing.proofs.growing.NodeList.add_targets.Given as goal

abbrev pub invariant-loop-t : goal.invariant-loop-t
invariant-loop-t l = AddedTo l.initial.self l.self (each decode (take l.t-index l.row))
