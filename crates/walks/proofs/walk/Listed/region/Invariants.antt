-- `region`: the walk's invariant, over the lists that the tables store. Assumes nothing.
use Prim.Native.Nat.{◌-◌}
use Rattle.passes.specs.Walk.{Walk, stored_list}
use Rattle.walks.proofs.walk.Listed.region.Given as goal

abbrev pub invariant-loop-done : goal.invariant-loop-done
invariant-loop-done l = Walk (stored_list l.self.lists.now l.self.edges.now) 4096 l.from l.marks l.work l.done l.count

abbrev pub decreases-loop-done : goal.decreases-loop-done
decreases-loop-done l = 4096 - l.done
