-- `flow_entry`: the question, then told. Assumes nothing.
use Rattle.layout.specs.Refusals.{refusal_pair}
use Rattle.c_answers.specs.QuestionNumbers.{entry_numbered}
use Rattle.flowgraph.proofs.entry.flow_entry.Goals as goal

pub returns : goal.returns
returns c = entry_numbered refusal_pair _ _ c.line_first.ensures c.number_of_answer.ensures
