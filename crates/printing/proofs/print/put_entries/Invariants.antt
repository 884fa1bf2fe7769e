-- `put_entries`: what the rows before this one say is there. Assumes nothing.
use Rattle.graph.specs.Lists.{each, below}
use Rattle.formatting.specs.Pages.{Wrote}
use Rattle.printing.specs.PrintedTables.{entry_text}
use Rattle.printing.proofs.print.put_entries.Given as goal

abbrev pub invariant-loop-row : goal.invariant-loop-row
invariant-loop-row l = Wrote l.initial.page l.page (each (entry_text l.entries) (below l.row-index))
