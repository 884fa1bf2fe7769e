-- `add_slots`: what the first k slots select is added. Assumes nothing.
use Rattle.passes.specs.AddedAgain.{grows_in}
use Rattle.passes.specs.NextBodies.{slot_bodies, slot_room}
use Rattle.storing.specs.NodeLists.{grew_start, grew_on, grew_end}
use Rattle.wiring.proofs.nexts.add_slots.Goals as goal

pub loop-k-init : goal.loop-k-init
loop-k-init c = grew_start (slot_bodies c.args.args.now c.args.g.now.nodes.falls.now c.args.g.now.dispatched.now) c.args.keys.now c.args.list.now

pub add_new_slot-requires-clause-select_room : goal.add_new_slot-requires-clause-select_room
add_new_slot-requires-clause-select_room c = slot_room c.args.args.now c.args.g.now.nodes.falls.now c.args.g.now.dispatched.now c.args.keys.now _ _ _ _ c.loop-k.k c.requires c.loop-k.invariant.grows

pub add_new_slot-requires-clause-added : goal.add_new_slot-requires-clause-added
add_new_slot-requires-clause-added c = grows_in _ _ _ _ _ c.loop-k.invariant.grows

pub loop-k-preserved : goal.loop-k-preserved
loop-k-preserved c = grew_on (slot_bodies c.args.args.now c.args.g.now.nodes.falls.now c.args.g.now.dispatched.now) c.args.keys.now c.args.list.now c.loop-k.k c.loop-k-test.true c.loop-k.invariant c.add_new_slot.ensures

pub returns : goal.returns
returns c = grew_end (slot_bodies c.args.args.now c.args.g.now.nodes.falls.now c.args.g.now.dispatched.now) c.args.keys.now c.args.list.now c.loop-k.k c.loop-k-test.false c.loop-k.invariant
