-- `close_rows`: after k rounds the rows have the ways whose nodes between their ends are below k. Assumes nothing.
use Rattle.passes.specs.Closure.{ClosedTo}
use Rattle.walks.proofs.closure.close_rows.Given as goal

abbrev pub invariant-loop-k : goal.invariant-loop-k
invariant-loop-k l = ClosedTo l.n l.k l.initial.rows l.rows
