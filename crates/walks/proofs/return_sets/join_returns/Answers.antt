-- `join_returns`: the first k nodes of the list are done. Assumes nothing.
use native.Mathlib.Omega.{arith}
use Rattle.passes.specs.ReturnSetLaws.{returns_more}
use Rattle.walks.proofs.return_sets.join_returns.Goals as goal

pub loop-i-preserved : goal.loop-i-preserved
loop-i-preserved c =
    let r = c.args.records.now in
    let a = c.args in
    let l = c.loop-i in
    returns_more r.stmts.now r.n a.backs.now a.list.now l.i-index c.from.result a.sets.now l.sets _ (omega arith) c.from.ensures l.invariant c.join_return.ensures
