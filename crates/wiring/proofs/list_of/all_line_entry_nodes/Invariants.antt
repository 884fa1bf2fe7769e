-- `all_line_entry_nodes`: the nodes of the first rows are added, the entries that are left ascend. Assumes nothing.
use Rattle.std.proofs.Common.{take, drop}
use Rattle.graph.specs.Lists.{each}
use Rattle.graph_laws.specs.Adding.{decode}
use Rattle.passes.specs.EntryOrder.{Rises, LastAdded}
use Rattle.storing.specs.NodeLists.{Grew}
use Rattle.wiring.specs.FromLeads.{nodes_from}
use Rattle.wiring.proofs.list_of.all_line_entry_nodes.Given as goal

abbrev pub invariant-loop-row : goal.invariant-loop-row
invariant-loop-row l = Grew l.initial.list l.list (each decode (take l.row-index (nodes_from l.w))) × LastAdded l.list.part.now l.list.n l.last × Rises l.last (drop l.row-index (nodes_from l.w))
