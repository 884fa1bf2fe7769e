-- `mark_all`: the first k nodes of the list are marked. Assumes nothing.
use lib.ListN.{take}
use Rattle.passes.specs.Walk.{ListMarked}
use Rattle.walks.proofs.walk.mark_all.Given as goal

abbrev pub invariant-loop-w : goal.invariant-loop-w
invariant-loop-w l = ListMarked (take l.w-index l.list) l.initial.marks l.initial.work l.count l.marks l.work l.n
