-- Each turn writes the entry of one word. Assumes nothing.
use Rattle.std.proofs.Common.{◌≡◌, ◌<◌, length, get_or, ◌∙◌, arith, rules, tests}
use Rattle.std.proofs.lemmas.Iterator.Consumers.{YieldsList-at, YieldsList-turn, YieldsList-end}
use Rattle.std.proofs.lemmas.List.{length_push}
use Rattle.listings.specs.Rows.{split}
use Rattle.listing_laws.specs.Pieces.{YieldsList-from_pieces, split_fits}
use Rattle.tokens.specs.Arguments.{are_slots}
use Rattle.reader.specs.Operands.{entry_by, filled_next, filled_put}
use Rattle.reader.proofs.operands.put_words.Goals.{In-Some}
use Rattle.reader.proofs.operands.put_words.Goals as goal

-- the word of this turn
turn : (c : In-Some) → (c.loop-w.count < length (split 32 c.args.s.now)) × (c.in-Some.w.now ≡ get_or (split 32 c.args.s.now) c.loop-w.count c.in-Some.w.now)
turn c =
    let p = c.split-w-items.ensures in
    let i = c.into_iter-w-iterator.ensures.into_iter_gives in
    rw (c.loop-w.invariant.0) (YieldsList-turn (YieldsList-at i (YieldsList-from_pieces _ 32 c.args.s.now p.rest p.done p.closure (λ x r q k. search (rules, tests)))) c.loop-w.yielded _ c.loop-w.yielded_by _ _ c.in-Some.w c.in-Some.is c.next.ensures.steps)

pub bounds-part-count : goal.bounds-part-count
bounds-part-count c = omega (arith, (turn (goal.at.bounds-part-count c).In-Some).0, c.loop-w.auto.part, c.requires)

pub offset_bounds-part-count : goal.offset_bounds-part-count
offset_bounds-part-count c = omega (arith, (turn (goal.at.offset_bounds-part-count c).In-Some).0, c.loop-w.auto.part, c.requires)

pub overflow_add-count : goal.overflow_add-count
overflow_add-count c = omega (arith, (turn (goal.at.overflow_add-count c).In-Some).0, split_fits 32 c.args.s.now)

pub loop-w-preserved : goal.loop-w-preserved
loop-w-preserved c =
    let l = c.loop-w in
    let u = turn (goal.at.loop-w-preserved c).In-Some in (
      omega (arith, l.invariant.0, length_push l.yielded c.in-Some.w),
      rw (l.invariant.1, c.operand_of.ensures) (filled_next (entry_by (are_slots c.args.arguments)) (split 32 c.args.s.now) c.args.part.now l.count c.in-Some.w.now u.0 c.requires u.1),
    )

pub returns : goal.returns
returns c =
    let p = c.split-w-items.ensures in
    let i = c.into_iter-w-iterator.ensures.into_iter_gives in
    let t = YieldsList-end (YieldsList-at i (YieldsList-from_pieces _ 32 c.args.s.now p.rest p.done p.closure (λ x r q k. search (rules, tests)))) c.loop-w.yielded _ c.loop-w.yielded_by _ _ c.in-None.is c.next.ensures.steps in
    filled_put (entry_by (are_slots c.args.arguments)) (split 32 c.args.s.now) c.args.part.now c.loop-w.part c.loop-w.count c.loop-w.invariant.1 (c.loop-w.invariant.0 ∙ t.1)
