-- `set_starts`: the rows before m have their starts, the sums of the counts before. Assumes nothing.
use Prim.Native.Nat.{◌+◌}
use mathlib.Core.Path.{refl}
use native.Mathlib.Omega.{arith}
use Rattle.tables.specs.Columns.{pred_count}
use Rattle.passes.specs.Counting.{sum_to, sum_next, sum-le}
use Rattle.storing.specs.Predecessors.{starting_none, starting_count, starting_more}
use Rattle.storing.proofs.predecessors.set_starts.Goals as goal

pub loop-m-init : goal.loop-m-init
unfolding sum_to
loop-m-init c =
    (refl, starting_none c.args.nodes c.args.lists.now)

pub overflow_add-start : goal.overflow_add-start
overflow_add-start c =
    let e = starting_count c.args.nodes c.loop-m.m c.args.lists.now c.loop-m.lists (omega arith) c.loop-m.invariant.1 in
    let n = sum_next (pred_count c.args.lists.now) c.loop-m.m in
    omega (arith, sum-le (pred_count c.args.lists.now) (c.loop-m.m + 1) c.args.nodes (omega arith), c.requires.1)

pub loop-m-preserved : goal.loop-m-preserved
loop-m-preserved c =
    let h = c.loop-m in
    let a = c.args in
    let e = starting_count c.args.nodes c.loop-m.m c.args.lists.now c.loop-m.lists (omega arith) c.loop-m.invariant.1 in
    let n = sum_next (pred_count c.args.lists.now) c.loop-m.m in
    (omega arith, starting_more a.nodes h.m h.start a.lists.now h.lists c.requires.0 (omega arith) h.invariant.0 h.invariant.1)
