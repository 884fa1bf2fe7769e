-- `pop_slots`: the first j slots are popped, the row holds what they pop, and top is what is left open at the top. Assumes nothing.
use borrow.Author.Rules.{rules}
use native.Mathlib.Omega.{arith}
use mathlib.Core.List.{List}
use mathlib.Core.Path.{◌≡◌, refl, sym, ap, subst, ◌∙◌}
use Prim.Native.Nat.{ℕ, suc}
use Rattle.std.proofs.Common.{sub-one}
use lib.ListN.{length, get_or, set}
use Rattle.passes.specs.FrameStacks.{top_mark}
use Rattle.passes.specs.ForStack.{SlotFound, SlotPopped}
use Rattle.passes.specs.ForStackLaws.{open_few, slot-none, slot_cut, slot_open, slot-fits, popping_start, popping_on, popping_none}
use Rattle.passes.specs.NotedKeys.{noted_slot}
use Rattle.layout.specs.Zeroed.{cleared_behind}
use Rattle.tables.specs.OneMore.{one_more}
use Rattle.wiring.specs.Places.{none_zero}
use Rattle.wiring.specs.NotedFors.{keys_noted, noted_keys}
use Rattle.wiring.proofs.fors.Fors.pop_slots.Goals as goal
use Rattle.wiring.proofs.fors.Fors.pop_slots.Goals.{in-Some, in_default}

pub loop-j-init : goal.loop-j-init
loop-j-init c = record { same_args = refl; same_notes = refl; below = c.requires.holds_below; at_top = c.newest-top.ensures; popping = popping_start _ _ _ _ }

pub returns-then-is_none-clause-slots_popped : goal.returns-then-is_none-clause-slots_popped
unfolding cleared_behind
returns-then-is_none-clause-slots_popped c =
    let s = c.args.self.now in
    let l = c.loop-j in
    λ m o. rw c.fill_behind.ensures (popping_none s.args.now c.args.keys.now s.stack.words l.self.stack.words c.args.row.now l.row l.j _ (omega arith) c.requires.i_bound.2 (none_zero l.top c.if-is_none.ensures) l.invariant.at_top l.invariant.popping m o)

pub number_of-requires : goal.number_of-requires
number_of-requires c = slot-fits _ _ _ _ _ (open_few c.loop-j.invariant.below) c.slot_frame-f.ensures

pub below-top-requires : goal.below-top-requires
below-top-requires c = omega (arith, slot-fits _ _ _ _ _ (open_few c.loop-j.invariant.below) c.in-Some.ensures)

pub pop_to-self-requires : goal.pop_to-self-requires
pop_to-self-requires c = omega (arith, slot-fits _ _ _ _ _ (open_few c.loop-j.invariant.below) c.in-Some.ensures)

pub invariant_of-self : goal.invariant_of-self
invariant_of-self c =
    let s = c.loop-j.self in
    let n : length c.args.self.now.notes ≡ 512 = search rules in
    let p = slot_cut s.args.now _ s.stack.words (suc c.in-Some.id) c.in-Some.ensures _ (omega arith) (rw sub-one c.pop_to-self.ensures) in
    record { noted = noted_keys _ _ _ (noted_slot s.args.now s.notes s.stack.words _ _ c.loop-j.invariant.below (keys_noted _ _ _ (ap length c.loop-j.invariant.same_notes ∙ n) s.noted) _ _ p) }

pub loop-j-preserved : goal.loop-j-preserved
loop-j-preserved c =
    let l = c.loop-j in
    let a = c.args.self.now.args.now in
    let f = one_more c.slot_frame-f.result in
    let m = c.match-f in
    let v = get_or c.args.keys.now l.j 0 in
    let x : SlotFound a v l.self.stack.words f = subst (λ (z : List ℕ). SlotFound z v l.self.stack.words f) l.invariant.same_args c.slot_frame-f.ensures in
    let p : SlotPopped a v l.self.stack.words m.self.stack.words f × (one_more m.top ≡ top_mark m.self.stack.words) × (m.self.args.now ≡ a) × (m.self.notes ≡ c.args.self.now.notes) =
    elim m.branch [
      | in-Some w ↦ (
        rw (w.self-is, w.in-Some.is) (slot_cut a v l.self.stack.words (suc w.in-Some.id) (rw w.in-Some.is at x) _ (omega arith) (rw sub-one w.pop_to-self.ensures)),
        rw (w.self-is, w.top-is) (w.below-top.ensures.1 ∙ ap top_mark (sym w.pop_to-self.ensures)),
        rw w.self-is l.invariant.same_args,
        rw w.self-is l.invariant.same_notes,
      )
      | in_default w ↦ (
        rw (w.self-is, w.in_default.is) (slot-none a v l.self.stack.words 0 (rw w.in_default.is at x) refl),
        rw (w.self-is, w.top-is) l.invariant.at_top,
        rw w.self-is l.invariant.same_args,
        rw w.self-is l.invariant.same_notes,
      )
    ] in
    let r : set l.row l.j c.number_of.result ≡ set l.row l.j f = ap (set l.row l.j) c.number_of.ensures in
    record {
      same_args = p.2;
      same_notes = p.3;
      below = slot_open _ _ _ _ _ _ l.invariant.below p.0;
      at_top = p.1;
      popping = popping_on _ _ _ _ _ _ _ _ l.j _ (omega (arith, c.requires.i_bound)) c.requires.i_bound.2 r l.invariant.popping p.0;
    }
