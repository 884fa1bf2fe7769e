-- `put_targets`: the continuations of the first i nodes are listed. Assumes nothing.
use Prim.Native.Nat.{◌≤◌}
use Rattle.graph.specs.Lists.{each, below}
use Rattle.tables.specs.Columns.{continuation_entry}
use Rattle.wiring.specs.OnLists.{TargetsPut}
use Rattle.wiring.proofs.return_targets.put_targets.Given as goal

abbrev pub invariant-loop-i : goal.invariant-loop-i
invariant-loop-i l = (l.list.n ≤ l.i) × TargetsPut (each (continuation_entry l.g.nodes.records.stmts.now l.g.nodes.falls.now) (below l.i)) l.marks l.initial.list l.list
