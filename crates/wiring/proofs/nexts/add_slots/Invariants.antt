-- `add_slots`: what the first k slots select is added. Assumes nothing.
use Rattle.std.proofs.Common.{take}
use Rattle.graph.specs.Lists.{each}
use Rattle.passes.specs.NextBodies.{slot_bodies}
use Rattle.storing.specs.NodeLists.{Grew}
use Rattle.wiring.proofs.nexts.add_slots.Given as goal

abbrev pub invariant-loop-k : goal.invariant-loop-k
invariant-loop-k l = Grew l.initial.list l.list (each (slot_bodies l.args l.g.nodes.falls.now l.g.dispatched.now) (take l.k l.keys))
