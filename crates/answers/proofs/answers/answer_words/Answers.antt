-- `answer_words`: each kind of question in turn. Assumes nothing.
use Rattle.std.proofs.Common.{rules, arith, ◌≡◌, refl, Err}
use Rattle.answers.specs.Flowask.{form_question}
use Rattle.answers.specs.QuestionWords.{number_question}
use Rattle.answers.specs.AnswerLaws.{number_refused, number_answered}
use Rattle.answers.proofs.answers.answer_words.Goals as goal

pub returns-in-Path : goal.returns-in-Path
unfolding form_question
returns-in-Path c = rw c.in-Path.is c.answer_path.ensures

pub returns-in-Frame : goal.returns-in-Frame
unfolding form_question
returns-in-Frame c = rw c.in-Frame.is c.answer_frame.ensures

pub returns-in_err-n-in-Number : goal.returns-in_err-n-in-Number
returns-in_err-n-in-Number c =
    let e : c.from_residual.result ≡ Err c.in_err-n-in-Number.field-0.0 = search rules in
    rw (e, c.in-Number.is) (refl, number_refused c.args.s.now c.in-Number.word c.single_number.result _ c.single_number.ensures c.in_err-n-in-Number.was)

pub returns-in_ok-n-in-Number : goal.returns-in_ok-n-in-Number
returns-in_ok-n-in-Number c =
    rw c.in-Number.is
    (number_question c.in-Number.word c.in_ok-n-in-Number.n, number_answered c.args.s.now c.in-Number.word c.single_number.result _ c.single_number.ensures (grind arith), c.put_by_number.ensures)
