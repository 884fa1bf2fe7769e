-- `fill_rows`: the two passes. Assumes nothing.
use Rattle.passes.specs.FillRowLaws.{rows_filled}
use Rattle.wiring.proofs.fill_rows.fill_rows.Goals as goal

pub returns : goal.returns
returns c = rows_filled _ _ _ _ _ _ _ _ _ c.fill_pass.new.args c.fill_pass.ensures _ c.fill_pass-2.ensures
