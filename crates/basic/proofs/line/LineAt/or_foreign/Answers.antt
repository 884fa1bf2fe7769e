-- `or_foreign`: the first 64, if there is one, is one more. Assumes nothing.
use Rattle.std.proofs.Common.{refl}
use Rattle.basic.proofs.line.LineAt.or_foreign.Goals as goal

pub returns-in-Some : goal.returns-in-Some
returns-in-Some c = rw (← c.in-Some.ensures) (rw c.at.ensures at c.sooner.ensures)

pub returns-in-None : goal.returns-in-None
returns-in-None c = rw (← c.in-None.ensures) refl
