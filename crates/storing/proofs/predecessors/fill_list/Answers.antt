-- `fill_list`: the node stands in the lists of the first m nodes. Assumes nothing.
use Prim.Native.Nat.{◌+◌}
use native.Mathlib.Omega.{arith}
use Rattle.storing.specs.Predecessors.{placed-none, placed_room, placed-fits, placed_more}
use Rattle.storing.proofs.predecessors.fill_list.Goals as goal

pub loop-v-init : goal.loop-v-init
loop-v-init c =
    let a = c.args in
    placed-none a.nodes a.node a.list.now a.lists.now a.pred.now

pub bounds-pred-at : goal.bounds-pred-at
bounds-pred-at c = omega (arith, placed_room c.loop-v.v-index c.requires (omega arith) c.from-row.ensures c.loop-v.invariant, c.from.ensures, c.from-in-loop-v.ensures)

pub overflow_add-lists : goal.overflow_add-lists
overflow_add-lists c = omega (arith, placed-fits c.loop-v.v-index c.requires (omega arith) c.from-row.ensures c.loop-v.invariant)

pub loop-v-preserved : goal.loop-v-preserved
loop-v-preserved c = placed_more c.loop-v.v-index c.requires (omega arith) c.from-row.ensures c.loop-v.invariant (c.from.result + c.from-in-loop-v.result) (omega (arith, c.from.ensures, c.from-in-loop-v.ensures))
