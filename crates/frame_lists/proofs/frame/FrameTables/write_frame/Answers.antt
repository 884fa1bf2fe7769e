-- `write_frame`: one list for each kind of opening word. Assumes nothing.
use Rattle.std.proofs.Common.{sym, ◌∙◌}
use Rattle.frame_slices.specs.FrameSlice.{answered_as}
use Rattle.frame_lists.specs.FrameChecks.{part_is, read-ended, read_kept, read_call, read_all}
use Rattle.frame_lists.proofs.frame.FrameTables.write_frame.Goals as goal

pub returns-then-ends_frame : goal.returns-then-ends_frame
returns-then-ends_frame c = answered_as _ _ _ _ _ (read-ended _ _ _ _ _ _ _ _ _ _ _ c.word-word.ensures c.first_arg.ensures (sym c.ends_frame.ensures ∙ c.if-ends_frame.true)) c.give_nothing.ensures

pub returns-then-keeps_shared : goal.returns-then-keeps_shared
returns-then-keeps_shared c =
    answered_as _ _ _ _ _
    (read_kept _ _ _ _ _ _ _ _ _ _ _ c.word-word.ensures c.first_arg.ensures (sym c.ends_frame.ensures ∙ c.if-ends_frame.false) (sym c.keeps_shared.ensures ∙ c.if-keeps_shared.true) _ _
    (c.successors-own.ensures ∙ part_is _ _ _ _ c.requires.node) (c.successors-shared.ensures ∙ part_is _ _ _ _ c.requires.header))
    c.keep_shared.ensures

pub returns-then-is_call : goal.returns-then-is_call
returns-then-is_call c =
    answered_as _ _ _ _ _
    (read_call _ _ _ _ _ _ _ _ _ _ _ c.word-word.ensures c.first_arg.ensures (sym c.ends_frame.ensures ∙ c.if-ends_frame.false) (sym c.keeps_shared.ensures ∙ c.if-keeps_shared.false)
    (sym c.is_call.ensures ∙ c.if-is_call.true) _ c.fall.ensures)
    c.give_fall.ensures

pub returns : goal.returns
returns c =
    answered_as _ _ _ _ _
    (read_all _ _ _ _ _ _ _ _ _ _ _ c.word-word.ensures c.first_arg.ensures (sym c.ends_frame.ensures ∙ c.if-ends_frame.false) (sym c.keeps_shared.ensures ∙ c.if-keeps_shared.false)
    (sym c.is_call.ensures ∙ c.if-is_call.false) _ (c.successors-own.ensures ∙ part_is _ _ _ _ c.requires.node))
    c.copy_list.ensures
