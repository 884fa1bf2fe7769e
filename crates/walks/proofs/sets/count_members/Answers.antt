-- `count_members`: the members of its words. Assumes nothing.
use Rattle.std.proofs.Common.{rules, ◌≡◌, ℕ, zero, suc, ◌+◌, ◌≤◌, ◌<◌, ◌^◌, List, length, take, refl, sym, ap, ◌∙◌, arith, add-one}
use Rattle.std.specs.Prelude.{get_or}
use Rattle.std.specs.List.{sum_by}
use Rattle.std.specs.Int.Count.{ones}
use Rattle.std.proofs.lemmas.Iterator.{YieldsList-from_slice, YieldsList-from_map}
use Rattle.std.proofs.lemmas.Iterator.Consumers.{fits_by_from_yields_list}
use Rattle.std.proofs.lemmas.List.Sums.{sum_by_more}
use Rattle.std.proofs.Math.Seq.{take-length}
use Rattle.passes.specs.Sets.{members_to, members_of}
use Rattle.passes.specs.ReturnTotals.{members_few}
use Rattle.passes.specs.SetLaws.{size_none, size_more, set_end}
use Rattle.walks.proofs.sets.count_members.Goals as goal

-- a sum of words is taken word by word, as members are
module _ (ws : List ℕ) (fits : (q : ℕ) → get_or ws q 0 < 2 ^ 64) where
  -- those in the first q words
  counted : (q : ℕ) → q ≤ length ws → sum_by ones (take q ws) ≡ length (members_to ws q)
  counted zero h = size_none ws
  counted (suc q) h =
      ap (λ (k : ℕ). sum_by ones (take k ws)) (sym (add-one q)) ∙ sum_by_more ones ws q 0 (omega (arith, h)) ∙ ap (λ (k : ℕ). k + ones (get_or ws q 0)) (counted q (omega (arith, h)))
      ∙ size_more ws q (fits q) ∙ ap (λ (k : ℕ). length (members_to ws k)) (add-one q)

  all_counted : sum_by ones ws ≡ length (members_of ws)
  all_counted = ap (sum_by ones) (sym (take-length ws)) ∙ counted (length ws) (omega arith) ∙ ap length (set_end ws (length ws) refl)

pub sum-requires-clause-fits : goal.sum-requires-clause-fits
sum-requires-clause-fits c =
    let ws = c.args.set.now in
    let few : sum_by ones ws < 4294967296 = omega (arith, all_counted ws c.fits-set, members_few ws, c.told-set) in
    fits_by_from_yields_list ones ws c.map.result _ (YieldsList-from_map _ ones (YieldsList-from_slice ws cc) c.map.ensures.closure (λ x r q k. search rules)) few

pub returns : goal.returns
returns c =
    let e : c.sum.result ≡ sum_by ones c.args.set.now = search rules in
    e ∙ all_counted c.args.set.now c.fits-set
