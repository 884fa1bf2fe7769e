-- `frame_by`: by one `?` after the other. Assumes nothing.
use Rattle.std.proofs.Common.{rules, ◌≡◌, sym, ◌∙◌, Err, Some}
use Rattle.answers.specs.QuestionWords.{frame_node, frame_header, frame_ok}
use Rattle.answers.proofs.words.frame_by.Goals as goal

pub returns-in_err-node : goal.returns-in_err-node
returns-in_err-node c =
    let a = c.args in
    let f : a.flag ≡ Some c.in_ok-flag.flag = search rules in
    let e : c.from_residual-in_err-node.result ≡ Err c.in_err-node.field-0.0 = search rules in
    rw (e, f) (frame_node a.h a.i a.name c.in_ok-flag.flag _ (sym c.lower.ensures ∙ c.in_err-node.was))

pub returns-in_err-header : goal.returns-in_err-header
returns-in_err-header c = absurd (frame_header c.args.h c.args.i c.in_ok-node.node _ (sym c.lower.ensures ∙ c.in_ok-node.was) c.in_err-header.was)

pub returns : goal.returns
returns c =
    let a = c.args in
    let f : a.flag ≡ Some c.in_ok-flag.flag = search rules in
    rw f (frame_ok a.h a.i _ _ a.name c.in_ok-flag.flag c.in_ok-header.was (sym c.lower.ensures ∙ c.in_ok-node.was))
