-- `sum_returns`: one node more, and the sum stays small. Assumes nothing.
use Prim.Native.Nat.{◌+◌}
use native.Mathlib.Omega.{arith}
use Rattle.passes.specs.ReturnTotals.{sum_where_none, return_sum_next, return_sum_le}
use Rattle.walks.proofs.return_totals.sum_returns.Goals as goal

pub loop-i-init : goal.loop-i-init
loop-i-init c = sum_where_none _ _

pub overflow_add-sum : goal.overflow_add-sum
overflow_add-sum c =
    let r = c.args.sets.now.records in
    let a = c.args in
    let l = c.loop-i in
    omega (arith, return_sum_next a.handlers r.stmts.now a.targets a.sets.now.words.now l.i l.sum c.return_size-sum.result l.invariant c.return_size-sum.ensures, return_sum_le a.handlers r.stmts.now a.targets a.sets.now.words.now (l.i + 1) c.requires)

pub loop-i-preserved : goal.loop-i-preserved
loop-i-preserved c =
    let r = c.args.sets.now.records in
    let a = c.args in
    let l = c.loop-i in
    return_sum_next a.handlers r.stmts.now a.targets a.sets.now.words.now l.i l.sum c.return_size-sum.result l.invariant c.return_size-sum.ensures
