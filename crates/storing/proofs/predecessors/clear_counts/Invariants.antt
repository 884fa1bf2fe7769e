-- `clear_counts`: the first m rows count nothing. Assumes nothing.
use Rattle.storing.specs.Predecessors.{Emptied}
use Rattle.storing.proofs.predecessors.clear_counts.Given as goal

abbrev pub invariant-loop-m : goal.invariant-loop-m
invariant-loop-m l = Emptied l.nodes l.m l.initial.lists l.lists
