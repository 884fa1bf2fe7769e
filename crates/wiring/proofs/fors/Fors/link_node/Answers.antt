-- `link_node`: FOR pushes, NEXT pops slot by slot into its row. Assumes nothing.
use native.Mathlib.Omega.{arith}
use mathlib.Core.Path.{◌≡◌, refl, sym, ◌∙◌}
use Prim.Native.Nat.{◌+◌, ◌*◌, ◌≤◌}
use lib.ListN.{get_or}
use Rattle.passes.specs.ListedNodes.{SlotsCounted}
use Rattle.passes.specs.ForStackLaws.{node_for, node_next, must_next}
use Rattle.wiring.proofs.fors.Fors.link_node.Goals as goal
use Rattle.wiring.proofs.fors.Fors.link_node.Goals.{Else-word-eq-FOR}

-- what is no FOR is a NEXT, with at most 64 slots
few : (c : Else-word-eq-FOR) → (get_or c.args.r.now.stmts.now (c.args.i * 12) 0 ≡ 14) × (get_or c.args.r.now.stmts.now (c.args.i * 12 + 10) 0 ≤ 64)
few c =
    let slots : SlotsCounted c.args.r.now.stmts.now c.args.i = c.requires.slots_counted in
    let e = must_next _ c.requires.i_value (rw c.word.ensures at c.if-word-eq-FOR.false) in
    (e, slots e)

pub returns-then-word-eq-FOR-clause-node_linked : goal.returns-then-word-eq-FOR-clause-node_linked
returns-then-word-eq-FOR-clause-node_linked c = node_for c.args.r.now.stmts.now c.args.self.now.args.now c.args.i c.args.self.now.stack.words _ c.args.links.now (sym c.word.ensures ∙ c.if-word-eq-FOR.true) c.open_for.ensures.for_pushed

pub slice_bounds-keys-end : goal.slice_bounds-keys-end
slice_bounds-keys-end c = omega (arith, c.args_of.ensures c.requires.i_bound.0, (few (goal.at.slice_bounds-keys-end c).Else-word-eq-FOR).1, c.requires.i_bound)

pub slice_bounds-pop_slots-end : goal.slice_bounds-pop_slots-end
slice_bounds-pop_slots-end c = omega (arith, c.args_of-2.ensures c.requires.i_bound.0, (few (goal.at.slice_bounds-pop_slots-end c).Else-word-eq-FOR).1, c.requires.i_bound)

pub returns-clause-node_linked : goal.returns-clause-node_linked
returns-clause-node_linked c =
    let w = few (goal.at.returns-clause-node_linked c).Else-word-eq-FOR in
    let s = c.args_of.ensures c.requires.i_bound.0 in
    let v = c.args_of-2.ensures c.requires.i_bound.0 in
    rw (v.0, v.1) (node_next c.args.r.now.stmts.now c.args.self.now.args.now c.args.i c.args.self.now.stack.words _ c.args.links.now _ _ refl (omega (arith, w.1, c.requires.i_bound)) w.0 (rw (s.0, s.1) at c.pop_slots.ensures.slots_popped))
