-- `move_stack`: one law for each move that changes the stack. Assumes nothing.
use mathlib.Core.Path.{ap}
use native.Mathlib.Omega.{arith}
use Rattle.passes.specs.FramePass.{move_of}
use Rattle.passes.specs.FrameStackLaws.{room_below, top_le}
use Rattle.passes.specs.FramePassLaws.{step_opens, step_closes}
use Rattle.wiring.specs.FrameRows.{flat, opener_set}
use Rattle.wiring.proofs.frames.move_stack.Goals as goal

pub returns-in-Opens : goal.returns-in-Opens
returns-in-Opens c = step_opens c.args.i c.args.s.words (flat c.args.frames.now) (move_of c.args.m) c.push.result.words (ap move_of c.in-Opens.is) c.requires.i_bound c.push.ensures

pub number_of-requires : goal.number_of-requires
number_of-requires c = omega (arith, top_le c.args.s.words _ c.args.i c.requires.holds_below c.pop-p.ensures.0, c.requires.i_bound)

pub returns-in-Closes : goal.returns-in-Closes
returns-in-Closes c = rw (opener_set c.args.frames.now c.args.i c.number_of.result (omega arith)) (step_closes c.args.i c.args.s.words (flat c.args.frames.now) (move_of c.args.m) c.pop-p.result.stack.words _ _ (ap move_of c.in-Closes.is) c.pop-p.ensures.1 c.pop-p.ensures.0 c.number_of.ensures)

pub push-requires-clause-room : goal.push-requires-clause-room
push-requires-clause-room c = room_below _ _ c.requires.holds_below
