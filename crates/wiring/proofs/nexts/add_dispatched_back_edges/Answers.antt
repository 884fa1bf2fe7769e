-- `add_dispatched_back_edges`: an orphan NEXT adds what its slots select, any other node nothing. Assumes nothing.
use Rattle.std.proofs.Common.{refl}
use Rattle.passes.specs.NextBodies.{orphan_not_next, orphan_plain, orphan_slots}
use Rattle.storing.specs.NodeLists.{grew_by, grew_same}
use Rattle.wiring.proofs.nexts.add_dispatched_back_edges.Goals as goal
use Rattle.wiring.proofs.nexts.add_dispatched_back_edges.Goals.{then-word-ne-NEXT-via-then-word-ne-NEXT, then-word-ne-NEXT-via-else-word-ne-NEXT+then-detail-ne-ORPHAN}

pub returns-then-word-ne-NEXT : goal.returns-then-word-ne-NEXT
returns-then-word-ne-NEXT c =
    elim c.then-word-ne-NEXT.branch [
      | then-word-ne-NEXT-via-then-word-ne-NEXT w ↦ grew_same (orphan_not_next c.args.g.now.nodes.records.stmts.now c.args.args.now c.args.g.now.nodes.falls.now c.args.g.now.dispatched.now _ _ c.args.i (rw c.word.ensures at w.if-word-ne-NEXT.true))
      | then-word-ne-NEXT-via-else-word-ne-NEXT+then-detail-ne-ORPHAN w ↦ grew_same (orphan_plain c.args.g.now.nodes.records.stmts.now c.args.args.now c.args.g.now.nodes.falls.now c.args.g.now.dispatched.now _ _ c.args.i (rw c.word.ensures at w.if-word-ne-NEXT.false) (rw w.detail.ensures at w.if-detail-ne-ORPHAN.true))
    ]

pub returns : goal.returns
returns c =
    let s = c.args_of.ensures c.requires.i_in_bounds.0 in
    grew_by (orphan_slots c.args.g.now.nodes.records.stmts.now c.args.args.now c.args.g.now.nodes.falls.now c.args.g.now.dispatched.now _ _ c.args.i _ _ _ (rw c.word.ensures at c.if-word-ne-NEXT.false) (rw c.detail.ensures at c.if-detail-ne-ORPHAN.false) refl) (rw (s.0, s.1) at c.add_slots.ensures)
