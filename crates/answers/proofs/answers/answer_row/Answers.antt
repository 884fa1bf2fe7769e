-- `answer_row`: put, or refused, without a question in it by its own number. Assumes nothing.
use Rattle.answers.specs.Flowask.{row_answer}
use Rattle.answers.specs.AnswersAt.{answer_of, row_put, row_turned, row_malformed}
use Rattle.answers.proofs.answers.answer_row.Goals as goal

pub returns-in-Ok-Ok : goal.returns-in-Ok-Ok
unfolding row_answer
returns-in-Ok-Ok c = row_put (answer_of c.args.g.now) c.args.k (rw c.in-Ok-Ok.field-0-is at c.in-Ok-Ok.ensures)

pub returns-in-Ok-Err : goal.returns-in-Ok-Err
unfolding row_answer
returns-in-Ok-Err c = row_turned (answer_of c.args.g.now) c.args.k c.in-Ok-Err.refusal (rw c.in-Ok-Err.field-0-is at c.in-Ok-Err.ensures) c.put_refusal.ensures

pub returns-in-Err : goal.returns-in-Err
unfolding row_answer
returns-in-Err c = row_malformed (answer_of c.args.g.now) c.args.k c.in-Err.reason c.in-Err.ensures (rw c.at.ensures at c.put_refusal-in-Err.ensures)
