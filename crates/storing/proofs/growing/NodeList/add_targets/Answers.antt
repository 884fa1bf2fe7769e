-- `add_targets`: what the first k entries lead to is added. Assumes nothing.
use Rattle.graph_laws.specs.Adding.{decode}
use Rattle.storing.specs.NodeLists.{added_start, added_on}
use Rattle.storing.proofs.growing.NodeList.add_targets.Goals as goal

pub loop-t-init : goal.loop-t-init
loop-t-init c = added_start decode c.args.row.now c.args.self.now

pub loop-t-preserved : goal.loop-t-preserved
loop-t-preserved c = added_on decode c.args.row.now c.args.self.now c.loop-t.t-index c.loop-t-test.true c.loop-t.invariant c.add_edge.ensures
