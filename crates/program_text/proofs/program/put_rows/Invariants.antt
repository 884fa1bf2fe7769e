-- `put_rows`: what was put and what is due are all rows. Assumes nothing.
use Rattle.std.proofs.Common.{◌∷◌, false, length}
use Rattle.listings.specs.Rows.{module_row}
use Rattle.basic.specs.Rows.{lines_at, contents_from}
use Rattle.program_text.specs.RowTexts.{Going}
use Rattle.program_text.proofs.program.put_rows.Given as goal

abbrev pub invariant-loop-t : goal.invariant-loop-t
invariant-loop-t l = Going l.file (module_row false ∷ lines_at l.file 2) l.s l.initial.page l.page

abbrev pub decreases-loop-t : goal.decreases-loop-t
decreases-loop-t l = length (contents_from l.file l.s)
