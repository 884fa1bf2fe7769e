-- `add_fall`: nothing, or the entry of the node. Assumes nothing.
use Rattle.std.proofs.Common.{◌≡◌, ◌-◌, arith}
use Rattle.storing.specs.NodeLists.{added_none, added_as, fall_none, fall_is}
use Rattle.storing.proofs.growing.NodeList.add_fall.Goals as goal

pub returns-in_default : goal.returns-in_default
returns-in_default c = added_as (fall_none c.args.falls.now c.args.t (omega (arith, c.from.ensures, c.in_default.ensures))) (added_none _)

pub returns : goal.returns
returns c =
    let e : c.in-Some.j ≡ c.args.t - 1 = omega (arith, c.from.ensures, c.in-Some.ensures) in
    added_as (fall_is c.args.falls.now c.args.t (omega (arith, c.from.ensures, c.in-Some.ensures))) (rw (c.entry.ensures, e) at c.add_edge.ensures)
