-- `put_backs`: the rows of the calls before i are there. Assumes nothing.
use Rattle.graph.specs.Lists.{each, below}
use Rattle.formatting.specs.Pages.{Wrote}
use Rattle.printing.specs.PrintedTables.{back_text}
use Rattle.printing.proofs.print.put_backs.Given as goal

abbrev pub invariant-loop-i : goal.invariant-loop-i
invariant-loop-i l = Wrote l.initial.page l.page (each (back_text l.records.stmts.now l.falls) (below l.i))
