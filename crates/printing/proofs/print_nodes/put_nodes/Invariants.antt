-- `put_nodes`: the rows of the nodes before i are there. Assumes nothing.
use Rattle.graph.specs.Lists.{each, below}
use Rattle.formatting.specs.Pages.{Wrote}
use Rattle.printing.specs.PrintedTables.{node_text}
use Rattle.printing.proofs.print_nodes.put_nodes.Given as goal

abbrev pub invariant-loop-i : goal.invariant-loop-i
invariant-loop-i l = Wrote l.initial.page l.page (each (node_text l.g.lines.now l.records.stmts.now l.g.lists.now l.g.succ.now l.g.pred.now) (below l.i))
