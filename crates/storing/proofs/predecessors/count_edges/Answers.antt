-- `count_edges`: the first edges are counted. Assumes nothing.
use native.Mathlib.Omega.{arith}
use Rattle.storing.specs.Predecessors.{counted_none, counted-fits, counted_more}
use Rattle.storing.proofs.predecessors.count_edges.Goals as goal

pub loop-v-init : goal.loop-v-init
loop-v-init c = counted_none c.args.nodes c.args.succ.now c.args.lists.now

pub overflow_add-lists-in-loop-v : goal.overflow_add-lists-in-loop-v
overflow_add-lists-in-loop-v c = omega (arith, counted-fits c.loop-v.v-index c.requires (omega arith) c.from.ensures c.loop-v.invariant)

pub loop-v-preserved : goal.loop-v-preserved
loop-v-preserved c = counted_more c.loop-v.v-index c.requires (omega arith) c.from.ensures c.loop-v.invariant
