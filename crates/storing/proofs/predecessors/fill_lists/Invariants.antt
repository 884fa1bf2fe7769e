-- `fill_lists`: whatever lists the tables hold, the nodes passed stand in the lists of their successors. Assumes
-- nothing.
use Rattle.storing.specs.PredecessorLists.{FilledTo}
use Rattle.storing.proofs.predecessors.fill_lists.Given as goal

abbrev pub invariant-loop-j : goal.invariant-loop-j
invariant-loop-j l = FilledTo l.nodes l.j l.succ l.initial.lists l.lists l.initial.pred l.pred
