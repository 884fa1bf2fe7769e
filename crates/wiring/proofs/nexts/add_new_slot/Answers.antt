-- `add_new_slot`: what was selected before is in the list already. Assumes nothing.
use Rattle.std.proofs.Common.{sym, ◌∙◌}
use Rattle.passes.specs.NextBodies.{came_grows}
use Rattle.storing.specs.NodeLists.{grew_same}
use Rattle.wiring.proofs.nexts.add_new_slot.Goals as goal

pub returns-then-came_before : goal.returns-then-came_before
returns-then-came_before c = grew_same (came_grows c.args.args.now c.args.g.now.nodes.falls.now c.args.g.now.dispatched.now _ _ _ _ (sym c.came_before.ensures ∙ c.if-came_before.true) c.requires.added)
