-- `link_fors`: the rows before node i are done, and the words hold the FORs that are open there. Assumes nothing.
use native.Mathlib.Omega.{arith}
use mathlib.Core.Path.{◌≡◌, refl, sym, subst, ◌∙◌}
use mathlib.Core.List.{List, []}
use Prim.Native.Nat.{ℕ}
use Rattle.passes.specs.ForStack.{NodeLinked}
use Rattle.passes.specs.ForStackLaws.{node_open, node_other}
use Rattle.passes.specs.FrameStackLaws.{new_held}
use Rattle.passes.specs.ForLinkLaws.{going_start, going_on, going_end}
use Rattle.passes.specs.NotedKeys.{none_noted}
use Rattle.wiring.specs.NotedFors.{noted_keys}
use Rattle.wiring.proofs.fors.link_fors.Goals as goal
use Rattle.wiring.proofs.fors.link_fors.Goals.{else-moves_fors, then-moves_fors}

pub invariant_of-fors : goal.invariant_of-fors
invariant_of-fors c = record { noted = noted_keys _ _ _ (none_noted 512 c.args.args.now _ _ refl c.all_of.ensures (new_held _ c.new.ensures)) }

pub loop-i-init : goal.loop-i-init
loop-i-init c =
    let e = new_held _ c.new.ensures in
    record { same_args = refl; below = record { openers = []; held = e; below = omega arith }; going = going_start c.args.r.now.stmts.now c.args.args.now c.args.r.now.n c.args.links.now _ e }

pub loop-i-preserved : goal.loop-i-preserved
loop-i-preserved c =
    let ts = c.args.r.now.stmts.now in
    let a = c.args.args.now in
    let l = c.loop-i in
    let m = c.if-moves_fors in
    let e : NodeLinked ts a l.i l.fors.stack.words m.fors.stack.words l.links m.links × (m.fors.args.now ≡ a) =
    elim m.branch [
      | then-moves_fors w ↦
          let n = w.link_node.ensures in
          rw (w.links-is, w.fors-is) (
            subst (λ (z : List ℕ). NodeLinked ts z l.i l.fors.stack.words w.link_node.new.self.stack.words l.links w.link_node.new.links) l.invariant.same_args n.node_linked,
            n.same_args ∙ l.invariant.same_args,
          )
      | else-moves_fors w ↦ rw (w.links-is, w.fors-is) (node_other _ _ _ _ _ (rw c.word.ensures at (sym c.moves_fors.ensures ∙ w.if-moves_fors.false)), l.invariant.same_args)
    ] in
    record {
      same_args = e.1;
      below = node_open _ _ _ _ _ _ _ l.invariant.below e.0;
      going = going_on ts a c.args.r.now.n c.args.links.now _ _ _ _ l.i c.loop-i-test.true (omega (arith, c.requires.n_bound)) (omega (arith, c.requires.n_bound)) l.invariant.going e.0;
    }

pub returns : goal.returns
returns c = going_end c.args.r.now.stmts.now c.args.args.now c.args.r.now.n c.args.links.now _ _ c.loop-i.i (omega arith) (omega arith) c.loop-i.invariant.going
