-- `add_closer`: nothing, or where the closer falls. Assumes nothing.
use Rattle.std.proofs.Common.{ap, ◌∙◌}
use Rattle.passes.specs.Closing.{closer_from, fall_from}
use Rattle.storing.specs.NodeLists.{added_none, added_as}
use Rattle.wiring.proofs.closing.add_closer.Goals as goal

pub returns-in_default : goal.returns-in_default
unfolding closer_from
returns-in_default c = rw c.in_default.is (added_none _)

pub returns-in-Some : goal.returns-in-Some
unfolding closer_from
returns-in-Some c =
    let q = ap (fall_from c.args.g.now.nodes.falls.now) c.closer.ensures in
    rw c.in-Some.is (added_as (c.fall_of.ensures ∙ q) c.add_edge.ensures)
