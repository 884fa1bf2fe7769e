-- `add_until`: nothing, or the body and then where it falls. Assumes nothing.
use Rattle.std.proofs.Common.{ℕ, suc, ◌≡◌, ◌*◌, sym, subst, arith, get_or}
use Rattle.passes.specs.Closing.{fall_from, fall_by}
use Rattle.passes.specs.NextBodies.{link_is}
use Rattle.passes.specs.NodeListLaws.{until_none, until_parts}
use Rattle.storing.specs.NodeLists.{AddedTo, added_as, added_both, added_none}
use Rattle.wiring.specs.FromLeads.{frames_of}
use Rattle.wiring.proofs.list_of.add_until.Goals as goal

pub returns-in_default : goal.returns-in_default
returns-in_default c = added_as (until_none _ _ _ (sym (rw c.in_default.is at c.opener.ensures))) (added_none _)

pub returns-in-Some : goal.returns-in-Some
unfolding fall_from fall_by
returns-in-Some c =
    let g = c.args.g.now in
    let e : suc c.in-Some.o ≡ get_or (frames_of g) (c.args.i * 3) 0 = rw c.in-Some.is at c.opener.ensures in
    let b = subst (λ (x : ℕ). AddedTo c.args.list.now c.add_edge.new.self (fall_from g.nodes.falls.now x)) e (rw c.fall.ensures at c.add_edge.ensures) in
    added_as (until_parts _ _ _ (λ z. omega (arith, e, z))) (added_both (added_as (link_is _ _) b) (rw c.fall-in-Some.ensures at c.add_edge-in-Some.ensures))
