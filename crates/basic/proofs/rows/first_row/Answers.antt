use Rattle.std.proofs.Common.{refl}
use Rattle.basic.specs.Rows.{contents_from}
use Rattle.basic.proofs.rows.first_row.Goals as goal

pub returns : goal.returns
unfolding contents_from
returns c = λ f. rw c.uncovered.ensures refl
