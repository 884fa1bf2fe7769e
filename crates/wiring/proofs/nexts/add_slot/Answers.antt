-- `add_slot`: the selected bodies of the first k FORs are added. Assumes nothing.
use Rattle.passes.specs.NextBodies.{selected_body, slot_bodies, for_room}
use Rattle.storing.specs.NodeLists.{grew_start, grew_on, grew_end}
use Rattle.wiring.proofs.nexts.add_slot.Goals as goal

pub loop-o-init : goal.loop-o-init
loop-o-init c = grew_start (selected_body c.args.args.now c.args.g.now.nodes.falls.now c.args.key) c.args.g.now.dispatched.now c.args.list.now

pub add_selected-requires : goal.add_selected-requires
add_selected-requires c = for_room c.args.args.now c.args.g.now.nodes.falls.now c.args.g.now.dispatched.now _ _ c.args.key _ _ c.loop-o.o-index c.requires c.loop-o.invariant.grows c.loop-o-test.true

pub loop-o-preserved : goal.loop-o-preserved
loop-o-preserved c = grew_on (selected_body c.args.args.now c.args.g.now.nodes.falls.now c.args.key) c.args.g.now.dispatched.now c.args.list.now c.loop-o.o-index c.loop-o-test.true c.loop-o.invariant c.add_selected.ensures

pub returns : goal.returns
unfolding slot_bodies
returns c = grew_end (selected_body c.args.args.now c.args.g.now.nodes.falls.now c.args.key) c.args.g.now.dispatched.now c.args.list.now c.loop-o.o-index c.loop-o-test.false c.loop-o.invariant
