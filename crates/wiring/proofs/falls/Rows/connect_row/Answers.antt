-- `connect_row`: the two branches, each where the record says that it is. Assumes nothing.
use mathlib.Core.Path.{◌∙◌}
use Rattle.passes.specs.Connecting.{row_both}
use Rattle.wiring.proofs.falls.Rows.connect_row.Goals as goal

pub returns : goal.returns
returns c = λ es et f a g b r em ee. c.put_falls.ensures ∙ row_both _ _ _ _ _ _ _ _ _ _ (c.branch_target-first_leads.ensures _ _ c.of_columns-first.ensures) (c.branch_target-second_leads.ensures _ _ c.of_columns-second.ensures) es et f a g b r em ee
