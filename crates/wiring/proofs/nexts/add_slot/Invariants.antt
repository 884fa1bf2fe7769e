-- `add_slot`: the selected bodies of the first FORs are added. Assumes nothing.
use Rattle.std.proofs.Common.{take}
use Rattle.graph.specs.Lists.{each}
use Rattle.passes.specs.NextBodies.{selected_body}
use Rattle.storing.specs.NodeLists.{Grew}
use Rattle.wiring.proofs.nexts.add_slot.Given as goal

abbrev pub invariant-loop-o : goal.invariant-loop-o
invariant-loop-o l = Grew l.initial.list l.list (each (selected_body l.args l.g.nodes.falls.now l.key) (take l.o-index l.g.dispatched.now))
