-- `flow_frame`: the question, then told; `out` is as the question left it. Assumes nothing.
use Rattle.c_answers.specs.QuestionNumbers.{length_numbered}
use Rattle.flowgraph.proofs.frame.flow_frame.Goals as goal

pub returns : goal.returns
returns c = record { answered = length_numbered _ _ c.frame_successors-framed.ensures.answered c.number_of_answer.ensures; slice = c.frame_successors-framed.ensures.slice }
