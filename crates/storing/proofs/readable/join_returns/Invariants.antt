-- `join_returns`: the sets among the first i nodes. Assumes nothing.
use Rattle.storing.specs.JoinedReturns.{joined_returns}
use mathlib.Core.Path.{◌≡◌}
use Rattle.storing.proofs.readable.join_returns.Given as goal

abbrev pub invariant-loop-i : goal.invariant-loop-i
invariant-loop-i l = l.all ≡ joined_returns l.sets.records.stmts.now l.sets.words.now l.i
