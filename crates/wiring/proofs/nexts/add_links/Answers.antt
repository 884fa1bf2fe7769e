-- `add_links`: the bodies of the first k links are added. Assumes nothing.
use Rattle.passes.specs.NextBodies.{link_body, link_is}
use Rattle.storing.specs.NodeLists.{added_as, added_start, added_on}
use Rattle.wiring.proofs.nexts.add_links.Goals as goal

pub loop-t-init : goal.loop-t-init
loop-t-init c = added_start (link_body c.args.falls.now) c.args.row.now c.args.list.now

pub loop-t-preserved : goal.loop-t-preserved
loop-t-preserved c = added_on (link_body c.args.falls.now) c.args.row.now c.args.list.now c.loop-t.t-index c.loop-t-test.true c.loop-t.invariant (added_as (link_is _ _) c.add_fall.ensures)
