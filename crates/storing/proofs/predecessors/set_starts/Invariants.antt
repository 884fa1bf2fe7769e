-- `set_starts`: the rows before m have their starts, the sums of the counts before. Assumes nothing.
use mathlib.Core.Path.{◌≡◌}
use Rattle.tables.specs.Columns.{pred_count}
use Rattle.passes.specs.Counting.{sum_to}
use Rattle.storing.specs.Predecessors.{Starting}
use Rattle.storing.proofs.predecessors.set_starts.Given as goal

abbrev pub invariant-loop-m : goal.invariant-loop-m
invariant-loop-m l = (l.start ≡ sum_to (pred_count l.initial.lists) l.m) × Starting l.nodes l.m l.initial.lists l.lists
