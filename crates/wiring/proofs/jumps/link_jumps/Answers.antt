-- `link_jumps`: the rows of the first i statements are written; the part of row i comes back with its links.
-- Assumes nothing.
use Rattle.std.proofs.Common.{ℕ, ◌≡◌, ◌≤◌, ◌+◌, ◌-◌, ◌*◌, ◌∙◌, sym, ap, arith, List, length, get_or, take, drop, length-take, length-drop}
use Rattle.std.proofs.Math.Seq.{take-length, take-take}
use Rattle.passes.specs.JumpLaws.{count_few, jumps-start, jumps-lent, jumps_end}
use Rattle.graph.specs.Nodes as definition
use Rattle.wiring.proofs.jumps.link_jumps.Goals as goal

-- the first k arguments, of the part that has no more, and of the whole row
first_ones : (xs : List ℕ) (at k w : ℕ) → k ≤ w → take (length (take (at + k - at) (drop at xs))) (take (at + k - at) (drop at xs)) ≡ take k (take w (drop at xs))
first_ones xs at k w h =
    let e : at + k - at ≡ k = omega arith in
    rw e (take-length (take k (drop at xs)) ∙ sym (take-take k w (drop at xs) h))

pub loop-i-init : goal.loop-i-init
loop-i-init c = λ ls ok et sh ah. jumps-start (definition.entries ls) _ (definition.nodes ls)

pub overflow_add-end : goal.overflow_add-end
overflow_add-end c =
    let few : c.jump_count.result ≤ 64 = rw c.jump_count.ensures (count_few _ _) in
    omega (arith, few, c.args.g.now.records.few)

pub slice_bounds-link_row-end : goal.slice_bounds-link_row-end
slice_bounds-link_row-end c =
    let few : c.jump_count.result ≤ 64 = rw c.jump_count.ensures (count_few _ _) in
    omega (arith, few, c.requires.0)

pub link_row-requires : goal.link_row-requires
link_row-requires c =
    let few : c.jump_count.result ≤ 64 = rw c.jump_count.ensures (count_few _ _) in
    let v = c.words_of.ensures (omega (arith, c.args.g.now.records.few)) in
    simp (length-take, length-drop) (omega (arith, few, v, c.requires, c.loop-i.auto.links))

pub loop-i-preserved : goal.loop-i-preserved
loop-i-preserved c =
    let l = c.loop-i in
    let g = c.args.g.now in
    let few : c.jump_count.result ≤ 64 = rw c.jump_count.ensures (count_few _ _) in
    let v = c.words_of.ensures (omega (arith, g.records.few)) in
    let w : c.words_of.result.end - l.i * 64 ≡ 64 = omega (arith, v) in
    let z : l.i * 12 ≡ l.i * 12 + 0 = omega arith in
    let room : l.i * 64 + 64 ≤ length l.links = omega (arith, c.requires.1, l.auto.links) in
    let e = first_ones c.args.args.now (l.i * 64) c.jump_count.result (c.words_of.result.end - l.i * 64) (omega (arith, few, w)) in
    rw v.0 (λ ls ok et sh ah.
    jumps-lent g.entries.rows.now g.entries.count g.records.stmts.now c.args.args.now g.records.n ls ok et sh ah _ l.links _ l.i _ _ w c.loop-i-test.true room
    (rw (c.word.ensures ∙ ap (λ (k : ℕ). get_or g.records.stmts.now k 0) z, c.count.ensures) at c.jump_count.ensures) (λ es t. rw (v.0, e) at (c.link_row.ensures es t)) (l.invariant ls ok et sh ah))

pub returns : goal.returns
returns c = λ ls ok et sh ah. jumps_end ls _ _ _ _ sh.counted c.loop-i-test.false (c.loop-i.invariant ls ok et sh ah)
