-- `put_rows`: a row more. Assumes nothing.
use Rattle.std.proofs.Common.{[], arith}
use Rattle.program_text.specs.RowTexts.{going_start, going_on, going_less, going_end}
use Rattle.std.proofs.Common.{rules, false, ◌∷◌}
use Rattle.listings.specs.Rows.{module_row}
use Rattle.basic.specs.Rows.{lines_at}
use Rattle.formatting.specs.Pages.{Wrote}
use Rattle.program_text.specs.Printable.{rows_text}
use Rattle.program_text.proofs.program.put_rows.Goals as goal

pub loop-t-init : goal.loop-t-init
loop-t-init c = going_start c.args.file.now _ _ _ (c.first_row-s.ensures c.args.file.now) c.requires

pub loop-t-preserved : goal.loop-t-preserved
loop-t-preserved c = going_on c.args.file.now _ c.loop-t.s _ _ _ c.in-Some.t (omega arith) c.loop-t.invariant c.in-Some.ensures c.put_row.ensures

pub loop-t-smaller : goal.loop-t-smaller
loop-t-smaller c = going_less c.args.file.now [] c.loop-t.s c.new-page.result c.in-Some.t c.in-Some.ensures

pub returns : goal.returns
returns c =
    let w : Wrote c.new-page.result c.loop-t.page (rows_text (module_row false ∷ lines_at c.args.file.now 2)) = going_end c.args.file.now _ c.loop-t.s _ _ c.loop-t.invariant c.in_default.ensures in
    search rules
