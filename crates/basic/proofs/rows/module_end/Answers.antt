use Rattle.std.proofs.Common.{refl}
use Rattle.listings.specs.Rows.{end_row}
use Rattle.basic.specs.Rows.{contents_from}
use Rattle.basic.proofs.rows.module_end.Goals as goal

pub returns : goal.returns
unfolding contents_from
returns c = λ f z t. record { content = end_row; says = refl; behind = refl }
