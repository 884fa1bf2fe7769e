-- `add_next`: the bodies, then where it falls. Assumes nothing.
use Rattle.std.proofs.Common.{refl}
use Rattle.passes.specs.NodeListLaws.{next_parts}
use Rattle.storing.specs.NodeLists.{added_as, added_both}
use Rattle.wiring.proofs.list_of.add_next.Goals as goal

pub returns : goal.returns
returns c = added_as (next_parts _ _ _ _ _ refl) (added_both c.add_popped.ensures (rw c.fall.ensures at c.add_edge.ensures))
