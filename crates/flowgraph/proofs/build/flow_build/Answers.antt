-- `flow_build`: what `build` answers and leaves, then told by number and place. Assumes nothing.
use Rattle.layout.specs.Refusals.{refusal_pair}
use Rattle.c_answers.specs.BuildNumbers.{build-numbered}
use Rattle.flowgraph.proofs.build.flow_build.Goals as goal

pub returns : goal.returns
returns c = build-numbered refusal_pair _ c.build-built.ensures c.number_of_done.ensures
