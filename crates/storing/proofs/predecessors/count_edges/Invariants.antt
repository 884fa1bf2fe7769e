-- `count_edges`: the first m edges are counted. Assumes nothing.
use Rattle.storing.specs.Predecessors.{Counted}
use Rattle.storing.proofs.predecessors.count_edges.Given as goal

abbrev pub invariant-loop-v : goal.invariant-loop-v
invariant-loop-v l = Counted l.nodes l.v-index l.succ l.initial.lists l.lists
