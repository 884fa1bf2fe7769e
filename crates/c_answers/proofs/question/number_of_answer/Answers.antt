-- `number_of_answer`: the words of what is answered, or the refusal's. Assumes nothing.
use Rattle.std.proofs.Common.{refl}
use Rattle.c_answers.specs.QuestionNumbers.{code_of, words_of}
use Rattle.c_answers.proofs.question.number_of_answer.Goals as goal

pub returns-in-Ok : goal.returns-in-Ok
unfolding code_of words_of
returns-in-Ok g c = rw c.in-Ok.is (record { number_is = refl; words_are = c.words.ensures })

pub returns-in-Err : goal.returns-in-Err
unfolding code_of words_of
returns-in-Err g c = rw c.in-Err.is (record { number_is = c.number.ensures; words_are = rw c.place.ensures refl })
