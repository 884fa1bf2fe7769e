-- `add_popped`: the row's links, joined, are the FORs that are popped. Assumes nothing.
use Rattle.passes.specs.NextBodies.{links_joined}
use Rattle.storing.specs.NodeLists.{added_as}
use Rattle.wiring.proofs.nexts.add_popped.Goals as goal

pub returns : goal.returns
returns c = added_as (links_joined _ _ _ _) (rw c.targets.ensures at c.add_links.ensures)
