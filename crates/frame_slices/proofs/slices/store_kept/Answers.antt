-- `store_kept`: the first of those kept stand at the front. Assumes nothing.
use Rattle.std.proofs.Common.{ℕ, ◌≡◌, ◌<◌, List, ap, ◌∙◌, arith, rules, tests, length, get_or, take_all}
use Rattle.std.proofs.lemmas.Iterator.{YieldsList-from_slice}
use Rattle.std.proofs.lemmas.Iterator.Consumers.{YieldsList-at, YieldsList-from_filter, YieldsList-from_enumerate, YieldsList-turn, YieldsList-end}
use Rattle.std.proofs.lemmas.List.{length_push}
use Rattle.std.proofs.lemmas.List.FromFn.{length-enumerate_from}
use Rattle.std.specs.List.{filter}
use Rattle.graph.specs.Lists.{has}
use Rattle.graph.specs.Questions.{kept}
use Rattle.frame_slices.specs.FrameLaws.{kept_filter}
use Rattle.layout.specs.Fronts.{numbered, front_next}
use Rattle.frame_slices.proofs.slices.store_kept.Goals as goal

pub bounds-out-len : goal.bounds-out-len
bounds-out-len c =
    let l = c.loop-len in
    let hs = c.args.header.now in
    let ks = kept hs c.args.list.now in
    let same = kept_filter hs c.args.list.now in
    let p = c.filter.ensures in
    let e = c.enumerate-len-items.ensures in
    let i = c.into_iter-len-iterator.ensures.into_iter_gives in
    let t = YieldsList-turn (YieldsList-at i (YieldsList-from_enumerate (YieldsList-at e.source (YieldsList-from_filter _ (λ s. has s hs) (YieldsList-at p.source (YieldsList-from_slice c.args.list.now c.iter.ensures.rest)) p.closure (λ x b q k. search (rules, tests)))) e.count)) l.yielded _ l.yielded_by _ _ _ c.in-Some.is c.next.ensures.steps in
    let g = numbered (filter (λ s. has s hs) c.args.list.now) (length l.yielded) c.in-Some.len c.in-Some.field-0-1.now t.0 t.1 in
    omega (arith, g.0, g.1, ap length same, c.requires, l.auto.out)

pub loop-len-preserved : goal.loop-len-preserved
loop-len-preserved c =
    let l = c.loop-len in
    let hs = c.args.header.now in
    let ks = kept hs c.args.list.now in
    let same = kept_filter hs c.args.list.now in
    let p = c.filter.ensures in
    let e = c.enumerate-len-items.ensures in
    let i = c.into_iter-len-iterator.ensures.into_iter_gives in
    let t = YieldsList-turn (YieldsList-at i (YieldsList-from_enumerate (YieldsList-at e.source (YieldsList-from_filter _ (λ s. has s hs) (YieldsList-at p.source (YieldsList-from_slice c.args.list.now c.iter.ensures.rest)) p.closure (λ x b q k. search (rules, tests)))) e.count)) l.yielded _ l.yielded_by _ _ _ c.in-Some.is c.next.ensures.steps in
    let x = c.in-Some.field-0-1.now in
    let n = length l.yielded in
    let g = numbered (filter (λ s. has s hs) c.args.list.now) n c.in-Some.len x t.0 t.1 in
    let k : n < length ks = omega (arith, g.0, ap length same) in
    rw (length_push l.yielded (c.in-Some.len, c.in-Some.field-0-1), g.1, l.invariant) (front_next ks c.args.out.now n x k c.requires (g.2 ∙ ap (λ (z : List ℕ). get_or z n x) same))

pub returns : goal.returns
returns c =
    let l = c.loop-len in
    let hs = c.args.header.now in
    let ks = kept hs c.args.list.now in
    let same = kept_filter hs c.args.list.now in
    let p = c.filter.ensures in
    let e = c.enumerate-len-items.ensures in
    let i = c.into_iter-len-iterator.ensures.into_iter_gives in
    let t = YieldsList-end (YieldsList-at i (YieldsList-from_enumerate (YieldsList-at e.source (YieldsList-from_filter _ (λ s. has s hs) (YieldsList-at p.source (YieldsList-from_slice c.args.list.now c.iter.ensures.rest)) p.closure (λ x b q k. search (rules, tests)))) e.count)) l.yielded _ l.yielded_by _ _ c.in-None.is c.next.ensures.steps in
    let n : length l.yielded ≡ length ks = t.1 ∙ length-enumerate_from 0 (filter (λ s. has s hs) c.args.list.now) ∙ ap length same in
    l.invariant ∙ rw (n, take_all (length ks) ks (omega arith))
