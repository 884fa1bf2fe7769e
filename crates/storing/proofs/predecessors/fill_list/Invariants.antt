-- `fill_list`: the node stands in the lists of the first m nodes. Assumes nothing.
use lib.ListN.{take}
use Rattle.storing.specs.Predecessors.{Placed}
use Rattle.storing.proofs.predecessors.fill_list.Given as goal

abbrev pub invariant-loop-v : goal.invariant-loop-v
invariant-loop-v l = Placed l.nodes l.node (take l.v-index l.list) l.initial.lists l.lists l.initial.pred l.pred
