-- `put_answer`: opened, and answered by its words. Assumes nothing.
use Rattle.std.proofs.Common.{rules, ◌≡◌, refl, subst, Err, None, Some}
use Rattle.layout.specs.declared.refusals.Reason.TheVariants as reason
use Rattle.answers.specs.AnswersAt.{answer_of, asked_so}
use Rattle.answers.specs.QuestionWords.{RowOpened}
use Rattle.answers.specs.AnswerLaws.{row_refused, row_answered}
use Rattle.answers.proofs.answers.put_answer.Goals as goal

pub returns-in_err-o : goal.returns-in_err-o
returns-in_err-o c =
    let n : c.open_row.result ≡ None = search rules in
    let e : c.from_residual.result ≡ Err reason.NotAForm = search rules in
    rw e (refl, row_refused c.args.w.now (subst (RowOpened c.args.w.now) n c.open_row.ensures))

pub returns : goal.returns
returns c =
    let n : c.open_row.result ≡ Some c.in_ok-o.o = search rules in
    asked_so _ _ c.answer_words.result (answer_of c.args.g.now) (row_answered c.args.w.now _ (subst (RowOpened c.args.w.now) n c.open_row.ensures)) c.answer_words.ensures
