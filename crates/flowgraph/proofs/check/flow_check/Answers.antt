-- `flow_check`: what `check_graph` says and leaves, then told by number and place. Assumes nothing.
use Rattle.layout.specs.Refusals.{refusal_pair}
use Rattle.flowgraph.specs.CheckNumbers.{check-numbered}
use Rattle.flowgraph.proofs.check.flow_check.Goals as goal

pub returns : goal.returns
returns c = check-numbered refusal_pair _ c.check_graph-verdict.ensures c.number_of_done.ensures
