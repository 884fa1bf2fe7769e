-- `check_all`: refusal and count of the pieces so far, to be joined with those left. Assumes nothing.
use Rattle.std.proofs.Common.{◌≡◌, ℕ, ◌+◌, ◌<◌, List, ◌∷◌, length, get_or, drop, sym, ap, ◌∙◌, refl, arith, rules, tests}
use Rattle.std.proofs.lemmas.Iterator.Consumers.{YieldsList-at, YieldsList-turn, YieldsList-end}
use Rattle.std.proofs.lemmas.List.{at_drop_more, at_drop_all, length_push}
use Rattle.listings.specs.Rows.{split}
use Rattle.listing_laws.specs.Pieces.{YieldsList-from_pieces, split_fits}
use Rattle.tokens.specs.Arguments.{Verdict, are_slots, checked, refusal_by, lowest, lowest_next, lowest_of, lowest_of_none}
use Rattle.tokens.proofs.arguments.check_all.Goals.{In-Some}
use Rattle.tokens.proofs.arguments.check_all.Goals as goal

-- the word of this turn
turn : (c : In-Some) → (c.loop-w.count < length (split 32 c.args.s.now)) × (c.in-Some.w.now ≡ get_or (split 32 c.args.s.now) c.loop-w.count c.in-Some.w.now)
turn c =
    let p = c.split-w-items.ensures in
    let i = c.into_iter-w-iterator.ensures.into_iter_gives in
    rw (c.loop-w.invariant.0) (YieldsList-turn (YieldsList-at i (YieldsList-from_pieces _ 32 c.args.s.now p.rest p.done p.closure (λ x r q k. search (rules, tests)))) c.loop-w.yielded _ c.loop-w.yielded_by _ _ c.in-Some.w c.in-Some.is c.next.ensures.steps)

pub loop-w-init : goal.loop-w-init
unfolding lowest
loop-w-init c = (refl, refl)

pub overflow_add-count : goal.overflow_add-count
overflow_add-count c = omega (arith, (turn (goal.at.overflow_add-count c).In-Some).0, split_fits 32 c.args.s.now)

pub loop-w-preserved : goal.loop-w-preserved
loop-w-preserved c =
    let l = c.loop-w in
    let w = c.in-Some.w.now in
    let n = l.count in
    let f = refusal_by (are_slots c.args.arguments) in
    let u = turn (goal.at.loop-w-preserved c).In-Some in
    let all = split 32 c.args.s.now in
    let ws = drop (n + 1) all in
    let x = c.lower-verdict.ensures ∙ ap (lowest l.verdict) c.argument_refusal.ensures in (
      omega (arith, l.invariant.0, length_push l.yielded c.in-Some.w),
      ap (λ (z : Verdict). lowest z (lowest_of f ws)) x ∙ lowest_next f l.verdict w ws ∙ ap (λ (z : List ℕ). lowest l.verdict (lowest_of f (z ∷ ws))) u.1 ∙ sym (at_drop_more (λ z. lowest l.verdict (lowest_of f z)) all n w u.0) ∙ l.invariant.1,
    )

pub returns : goal.returns
unfolding lowest_of
returns c =
    let l = c.loop-w in
    let s = c.args.s.now in
    let f = refusal_by (are_slots c.args.arguments) in
    let p = c.split-w-items.ensures in
    let i = c.into_iter-w-iterator.ensures.into_iter_gives in
    let t = YieldsList-end (YieldsList-at i (YieldsList-from_pieces _ 32 s p.rest p.done p.closure (λ x r q k. search (rules, tests)))) l.yielded _ l.yielded_by _ _ c.in-None.is c.next.ensures.steps in
    let n : l.count ≡ length (split 32 s) = l.invariant.0 ∙ t.1 in
    let g = sym (lowest_of_none l.verdict) ∙ sym (at_drop_all (λ z. lowest l.verdict (lowest_of f z)) (split 32 s) l.count (omega (arith, n))) ∙ l.invariant.1 in
    ap (λ z. checked z l.verdict) n ∙ ap (checked (length (split 32 s))) g
