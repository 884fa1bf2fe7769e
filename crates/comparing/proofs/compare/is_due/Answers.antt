-- `is_due`: the byte at that place, if there is one. Assumes nothing.
use Rattle.std.proofs.Common.{refl}
use Rattle.comparing.specs.ComparingStates.{due_told}
use Rattle.comparing.proofs.compare.is_due.Goals as goal

pub returns : goal.returns
returns c = due_told c.args.due.now c.args.at c.args.b c.get.result _ c.eq.result c.get.ensures.lookup refl c.eq.ensures
