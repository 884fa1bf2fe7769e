-- `join_returns`: the first k nodes of the list are done. Assumes nothing.
use lib.ListN.{take}
use Rattle.passes.specs.ReturnSets.{ReturnsJoined}
use Rattle.walks.proofs.return_sets.join_returns.Given as goal

abbrev pub invariant-loop-i : goal.invariant-loop-i
invariant-loop-i l = ReturnsJoined l.records.stmts.now l.records.n (take l.i-index l.list) l.backs l.initial.sets l.sets
