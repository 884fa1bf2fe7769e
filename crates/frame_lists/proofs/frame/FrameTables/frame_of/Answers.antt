-- `frame_of`: the refusals in their order, then the list. Assumes nothing.
use Rattle.std.proofs.Common.{refl, sym, ◌∙◌, arith}
use Rattle.std.proofs.lemmas.Result.{err_from_is_err_and}
use Rattle.frame_slices.specs.FrameSlice.{answered-refused}
use Rattle.frame_lists.specs.FrameChecks.{in_24_header, in_24_node, in_25, in_26, in_list, inside, answer_as}
use Rattle.frame_lists.proofs.frame.FrameTables.frame_of.Goals as goal

pub returns-then-n-q : goal.returns-then-n-q
returns-then-n-q c = rw c.at.ensures (answered-refused _ _ _ (in_24_header _ _ _ _ _ _ _ _ _ _ _ _ (omega (arith, c.if-n-q.true))))

pub returns-then-n-q-2 : goal.returns-then-n-q-2
returns-then-n-q-2 c = rw c.at-then-n-q-2.ensures (answered-refused _ _ _ (in_24_node _ _ _ _ _ _ _ _ _ _ _ _ (omega arith) (omega arith)))

pub returns-then-frame_outside : goal.returns-then-frame_outside
returns-then-frame_outside c =
    rw c.at-then-frame_outside.ensures (answered-refused _ _ _ (in_25 _ _ _ _ _ _ _ _ _ _ _ _ (omega arith) (omega arith) (sym c.frame_outside.ensures ∙ c.if-frame_outside.true)))

pub returns-in_err-no_statement : goal.returns-in_err-no_statement
returns-in_err-no_statement c =
    let p = err_from_is_err_and c.from_residual.result c.from_residual.ensures.1 in
    rw (p.1, p.2)
    (answered-refused _ _ _
    (rw (← c.nodes-n.ensures.0, ← c.lines.ensures.0)
    (in_26 _ _ _ _ _ _ _ _ _ _ _ _ c.if-n-q.false c.if-n-q-2.false (rw c.nodes-n.ensures.0 (sym c.frame_outside.ensures ∙ c.if-frame_outside.false)) _ _ c.in_err-no_statement.ensures)))

pub write_frame-requires : goal.write_frame-requires
write_frame-requires c = inside _ _ _ _ _ _ _ _ _ refl (omega arith) (omega arith) (sym c.frame_outside.ensures ∙ c.if-frame_outside.false)

pub returns : goal.returns
returns c =
    answer_as _ _ _ _ _
    (rw (← c.nodes-n.ensures.0, ← c.lines.ensures.0)
    (in_list _ _ _ _ _ _ _ _ _ _ _ _ c.if-n-q.false c.if-n-q-2.false (rw c.nodes-n.ensures.0 (sym c.frame_outside.ensures ∙ c.if-frame_outside.false)) c.in_ok-no_statement.ensures))
    c.write_frame.ensures
