-- The first i entries stand in front. Assumes nothing.
use Rattle.std.proofs.Common.{◌∙◌, ap, set, length, arith, rules}
use Rattle.std.proofs.Math.Nat.{min-le_left, min-le_right}
use Rattle.layout.specs.Fronts.{front_more, front_end}
use Rattle.layout.proofs.fronts.put_front.Goals as goal

pub loop-i-init : goal.loop-i-init
loop-i-init g c = search rules

pub loop-i-preserved : goal.loop-i-preserved
loop-i-preserved g c =
    let i = c.loop-i.i in
    let x = c.index-list-i.result in
    let l = c.args.list.now in
    let t = c.args.part.now in
    let h = c.loop-i-test.true in
    let e = c.min-n.ensures in (
      omega (arith, h),
      ap (λ z. set z i x) c.loop-i.invariant.1 ∙ front_more l t i x (omega (arith, h, e, min-le_right (length t) (length l))) (omega (arith, h, e, min-le_left (length t) (length l))) c.index-list-i.is,
    )

pub returns : goal.returns
returns g c = c.loop-i.invariant.1 ∙ front_end c.args.list.now c.args.part.now c.loop-i.i (omega (arith, c.loop-i.invariant.0, c.loop-i-test.false) ∙ c.min-n.ensures)
