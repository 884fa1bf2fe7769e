-- `fall_outside`: only a call's fall is read. Assumes nothing.
use Rattle.std.proofs.Common.{rules, sym, ◌∙◌}
use Rattle.frame_lists.specs.FrameChecks.{fall_call}
use Rattle.frame_lists.proofs.frame.FrameTables.fall_outside.Goals as goal

pub returns-then-is_call : goal.returns-then-is_call
returns-then-is_call c = fall_call _ _ _ _ _ _ _ c.word.ensures (sym c.is_call.ensures ∙ c.if-is_call.true) c.fall.ensures (search rules)
