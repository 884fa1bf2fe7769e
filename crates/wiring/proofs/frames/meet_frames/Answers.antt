-- `meet_frames`: both stacks and the first column before node i. Assumes nothing.
use borrow.Author.Rules.{rules}
use native.Mathlib.Omega.{arith}
use Rattle.passes.specs.FrameStackLaws.{new_held}
use Rattle.passes.specs.FramePassLaws.{meeting_start, meeting_next}
use Rattle.wiring.specs.FrameRows.{length-flat}
use Rattle.wiring.proofs.frames.meet_frames.Goals as goal

pub loop-i-init : goal.loop-i-init
loop-i-init c = (search rules, meeting_start _ _ _ _ _ (new_held _ c.new-loops.ensures) (new_held _ c.new-dos.ensures) c.requires)

pub loop-i-preserved : goal.loop-i-preserved
loop-i-preserved c = (
  search rules,
  meeting_next _ _ _ _ _ _ _ _ _ c.loop-i.i _ _ _ c.loop-i-test.true c.word-word.ensures c.loop_move.ensures c.do_move.ensures (omega (arith, length-flat c.loop-i.frames, c.loop-i.invariant.0, c.args.r.now.few)) c.step.ensures c.step-in-loop-i.ensures c.loop-i.invariant.1,
)
