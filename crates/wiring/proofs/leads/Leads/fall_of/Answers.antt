-- `fall_of`: nothing, or where the node falls. Assumes nothing.
use Rattle.std.proofs.Common.{refl}
use Rattle.passes.specs.Closing.{fall_from, fall_by}
use Rattle.wiring.proofs.leads.Leads.fall_of.Goals as goal

pub returns-in-Some : goal.returns-in-Some
unfolding fall_from fall_by
returns-in-Some c = rw (c.in-Some.is, c.fall.ensures) refl

pub returns-in-None : goal.returns-in-None
unfolding fall_from
returns-in-None c = rw c.in-None.is refl
