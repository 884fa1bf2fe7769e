-- `list_of`: own edges, late edges, an orphan's targets. Assumes nothing.
use Rattle.std.proofs.Common.{rules, arith, ◌≡◌, ◌≤◌, ◌∙◌, ap, subst, ℕ, List, length}
use Rattle.graph.specs.Graph.{wire, base}
use Rattle.passes.specs.NodeList.{ListIs}
use Rattle.passes.specs.Growing.{Grown}
use Rattle.passes.specs.WholeList.{own_room, after-own, closing_room, after-closing, orphan_room, after_orphan, list_made}
use Rattle.storing.specs.NodeLists.{grew_new}
use Rattle.wiring.proofs.list_of.list_of.Goals as goal
use Rattle.wiring.proofs.list_of.list_of.Goals.{After-add_own, After-add_closing}

-- the list after the node's own edges, and after those that later nodes add
own : (c : After-add_own) → Grown c.requires.ready.nodes c.add_own.new.list.part.now c.add_own.new.list.n
own c =
    let r = c.requires.ready in
    let size : length c.args.part.now ≡ 4096 = search rules in
    let room : r.nodes ≤ length c.args.part.now = omega (arith, size, r.room) in
    after-own r.prepared c.args.args.now c.args.i r.node r.kept r.size c.args.part.now _ _ room (grew_new c.new-list.ensures.empty c.add_own.ensures)

late : (c : After-add_closing) → Grown c.requires.ready.nodes c.add_closing.new.list.part.now c.add_closing.new.list.n
late c =
    let r = c.requires.ready in
    let e = c.add_closing.ensures in
    let size : length c.args.part.now ≡ 4096 = search rules in
    let room : r.nodes ≤ length c.args.part.now = omega (arith, size, r.room) in
    let g = after-own r.prepared c.args.args.now c.args.i r.node r.kept r.size c.args.part.now _ _ room (grew_new c.new-list.ensures.empty c.add_own.ensures) in
    after-closing r.prepared c.args.args.now c.args.i r.node r.kept r.size _ _ _ _ g e.is.0 e.size e.is.1.within

pub add_own-requires-clause-ready : goal.add_own-requires-clause-ready
add_own-requires-clause-ready c =
    let r = c.requires.ready in
    let size : length c.args.part.now ≡ 4096 = search rules in
    let room : r.nodes ≤ length c.args.part.now = omega (arith, size, r.room) in
    rw (c.new-list.ensures.empty.0, c.new-list.ensures.empty.1) (own_room r.prepared c.args.args.now c.args.i r.node r.kept r.size c.args.part.now room)

pub add_closing-requires-clause-ready : goal.add_closing-requires-clause-ready
add_closing-requires-clause-ready c =
    let r = c.requires.ready in
    closing_room r.prepared c.args.args.now c.args.i r.node r.kept r.size _ _ (own (goal.at.add_closing-requires-clause-ready c).After-add_own)

pub add_dispatched_back_edges-requires-clause-slots_counted : goal.add_dispatched_back_edges-requires-clause-slots_counted
add_dispatched_back_edges-requires-clause-slots_counted c =
    let r = c.requires.ready in
    (orphan_room r.prepared c.args.args.now c.args.i r.node r.kept r.size _ _ (late (goal.at.add_dispatched_back_edges-requires-clause-slots_counted c).After-add_closing)).0

pub add_dispatched_back_edges-requires-clause-select_room : goal.add_dispatched_back_edges-requires-clause-select_room
add_dispatched_back_edges-requires-clause-select_room c =
    let r = c.requires.ready in
    (orphan_room r.prepared c.args.args.now c.args.i r.node r.kept r.size _ _ (late (goal.at.add_dispatched_back_edges-requires-clause-select_room c).After-add_closing)).1

pub returns : goal.returns
returns c =
    let a = grew_new c.new-list.ensures.empty c.add_own.ensures in
    let d = c.add_dispatched_back_edges.ensures in
    let r = c.requires.ready in
    let k = after_orphan r.prepared c.args.args.now c.args.i r.node r.kept r.size _ _ _ _ (late (goal.at.returns c).After-add_closing) d.grows in
    λ L ks n P q e lt.
    rw c.len.ensures (subst (λ (z : List ℕ). ListIs (base (wire L) c.args.i) c.args.part.now z c.add_dispatched_back_edges.new.list.n) (search rules) (list_made P c.args.args.now c.args.i lt q e c.args.part.now _ _ _ _ _ _ a.added c.add_closing.ensures.is.0 d.grows.added (d.size ∙ c.add_closing.ensures.size ∙ c.add_own.ensures.size ∙ ap length c.new-list.ensures.empty.0) k.within))
