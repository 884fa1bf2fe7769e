-- `clear_returns`: the sets of the first i nodes are done. Assumes nothing.
use Rattle.passes.specs.Clearing.{SetsCleared}
use Rattle.walks.proofs.clearing.clear_returns.Given as goal

abbrev pub invariant-loop-i : goal.invariant-loop-i
invariant-loop-i l = SetsCleared l.records.stmts.now l.i l.initial.sets l.sets
