-- `close_round`: the first i rows are joined. Assumes nothing.
use Rattle.passes.specs.Closure.{RowsJoined}
use Rattle.walks.proofs.closure.close_round.Given as goal

abbrev pub invariant-loop-i : goal.invariant-loop-i
invariant-loop-i l = RowsJoined l.k l.row l.i l.initial.rows l.rows
