-- `fill_numbers`: the numbers of the words so far stand at the front. Assumes nothing.
use Rattle.std.proofs.Common.{◌≡◌, ◌<◌, ◌≤◌, false, map, length, get_or, sym, ap, ◌∙◌, arith, rules, tests, take_all}
use Rattle.std.proofs.lemmas.Iterator.Consumers.{YieldsList-at, YieldsList-from_enumerate, YieldsList-turn, YieldsList-end}
use Rattle.std.proofs.lemmas.List.{length_push, length-map, get_or-map}
use Rattle.std.proofs.lemmas.List.FromFn.{length-enumerate_from}
use Rattle.listings.specs.Rows.{split, parse_number}
use Rattle.listing_laws.specs.Pieces.{YieldsList-from_pieces}
use Rattle.reader.specs.Operands.{entry_by, or_zero, number_or_zero}
use Rattle.layout.specs.Fronts.{numbered, front_next}
use Rattle.answers.proofs.answers.fill_numbers.Goals as goal

pub bounds-part-n : goal.bounds-part-n
bounds-part-n c =
    let ws = split 32 c.args.s.now in
    let p = c.split.ensures in
    let e = c.enumerate-n-items.ensures in
    let i = c.into_iter-n-iterator.ensures.into_iter_gives in
    let t = YieldsList-turn (YieldsList-at i (YieldsList-from_enumerate (YieldsList-at e.source (YieldsList-from_pieces _ 32 c.args.s.now p.rest p.done p.closure (λ x r q k. search (rules, tests)))) e.count)) c.loop-n.yielded _ c.loop-n.yielded_by _ _ _ c.in-Some.is c.next.ensures.steps in
    let g = numbered ws (length c.loop-n.yielded) c.in-Some.n c.in-Some.w.now t.0 t.1 in
    omega (arith, g.0, g.1, c.requires, c.loop-n.auto.part)

pub loop-n-preserved : goal.loop-n-preserved
unfolding entry_by
loop-n-preserved c =
    let l = c.loop-n in
    let f = entry_by false in
    let ws = split 32 c.args.s.now in
    let w = c.in-Some.w.now in
    let n = length l.yielded in
    let p = c.split.ensures in
    let e = c.enumerate-n-items.ensures in
    let i = c.into_iter-n-iterator.ensures.into_iter_gives in
    let t = YieldsList-turn (YieldsList-at i (YieldsList-from_enumerate (YieldsList-at e.source (YieldsList-from_pieces _ 32 c.args.s.now p.rest p.done p.closure (λ x r q k. search (rules, tests)))) e.count)) l.yielded _ l.yielded_by _ _ _ c.in-Some.is c.next.ensures.steps in
    let g = numbered ws n c.in-Some.n w t.0 t.1 in
    let u : c.unwrap_or.result ≡ or_zero c.number.result = search rules in
    let v : c.unwrap_or.result ≡ f w = u ∙ ap or_zero c.number.ensures ∙ number_or_zero (parse_number w) in
    let same : f w ≡ get_or (map f ws) n (f w) = ap f g.2 ∙ sym (get_or-map f ws n w (f w) g.0) in
    let k : n < length (map f ws) = omega (arith, g.0, length-map ws f) in
    let room : length (map f ws) ≤ length c.args.part.now = omega (arith, c.requires, length-map ws f) in
    rw (length_push l.yielded (c.in-Some.n, c.in-Some.w), g.1, v, l.invariant) (front_next (map f ws) c.args.part.now n (f w) k room same)

pub returns : goal.returns
returns c =
    let l = c.loop-n in
    let ws = split 32 c.args.s.now in
    let p = c.split.ensures in
    let e = c.enumerate-n-items.ensures in
    let i = c.into_iter-n-iterator.ensures.into_iter_gives in
    let t = YieldsList-end (YieldsList-at i (YieldsList-from_enumerate (YieldsList-at e.source (YieldsList-from_pieces _ 32 c.args.s.now p.rest p.done p.closure (λ x r q k. search (rules, tests)))) e.count)) l.yielded _ l.yielded_by _ _ c.in-None.is c.next.ensures.steps in
    let n : length l.yielded ≡ length ws = t.1 ∙ length-enumerate_from 0 ws in
    l.invariant ∙ rw (n, take_all (length ws) (map (entry_by false) ws) (omega (arith, length-map ws (entry_by false))))
