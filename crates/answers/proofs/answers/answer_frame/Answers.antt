-- `answer_frame`: by its words. Assumes nothing.
use Rattle.std.proofs.Common.{rules, ◌≡◌, refl, Err}
use Rattle.answers.specs.Flowask.{of_frame}
use Rattle.answers.specs.AnswersAt.{answer_at}
use Rattle.answers.specs.AnswerLaws.{refused_by, asked_frame}
use Rattle.answers.proofs.answers.answer_frame.Goals as goal

pub returns-in_err-w : goal.returns-in_err-w
returns-in_err-w c =
    let e : c.from_residual.result ≡ Err c.in_err-w.field-0.0 = search rules in
    rw e (refl, refused_by _ _ c.in_err-w.ensures)

pub returns : goal.returns
unfolding answer_at
returns c = let w = c.in_ok-w.w in (of_frame w.header w.node w.name.now w.flag, asked_frame _ _ _ _ _ c.in_ok-w.ensures, c.put_frame.ensures)
