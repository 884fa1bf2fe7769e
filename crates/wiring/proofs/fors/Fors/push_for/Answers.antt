-- `push_for`: a frame of its name is popped with all above it, and the FOR is pushed. Assumes nothing.
use mathlib.Core.Path.{refl}
use Rattle.std.proofs.Common.{sub-one}
use native.Mathlib.Omega.{arith}
use Rattle.passes.specs.FrameStackLaws.{room_below}
use Rattle.passes.specs.ForStackLaws.{sought_fits, push_new, push_cut, cut_open}
use Rattle.wiring.proofs.fors.Fors.push_for.Goals as goal

pub pop_to-requires : goal.pop_to-requires
pop_to-requires c = omega (arith, c.requires.i_bound, sought_fits _ _ _ _ _ c.requires.holds_below c.in-Some.ensures)

pub push-requires-clause-room : goal.push-requires-clause-room
push-requires-clause-room c =
    room_below _ _ (cut_open _ _ _ _ _ _ c.in-Some.ensures (omega arith) (rw sub-one c.pop_to.ensures) c.requires.holds_below)

pub push-requires-in-None-clause-room : goal.push-requires-in-None-clause-room
push-requires-in-None-clause-room c = room_below _ _ c.requires.holds_below

pub returns-in-Some : goal.returns-in-Some
returns-in-Some c =
    push_cut _ _ _ _ _ c.requires.i_bound.0 c.in-Some.ensures _ (omega arith) (rw sub-one c.pop_to.ensures) c.push.ensures

pub returns-in-None : goal.returns-in-None
returns-in-None c = push_new _ _ _ _ _ c.requires.i_bound.0 c.in-None.ensures refl c.push-in-None.ensures
