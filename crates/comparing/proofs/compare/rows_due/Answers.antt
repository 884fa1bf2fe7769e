-- `rows_due`: the first i bytes are those due, and m of them are whole rows. Assumes nothing.
use mathlib.Core.Path.{refl, sym, ◌∙◌}
use native.Mathlib.Omega.{arith}
use Rattle.comparing.specs.Feeding.{matched_none, rows_none, matched_next, rows_next_due}
use Rattle.comparing.proofs.compare.rows_due.Goals as goal

pub returns-then-at-due : goal.returns-then-at-due
returns-then-at-due c = rows_none _ _ _

pub loop-i-init : goal.loop-i-init
loop-i-init c = (omega arith, omega arith, matched_none c.args.due.now c.args.at c.args.piece.now, rows_none c.args.due.now c.args.at c.args.piece.now)

pub loop-i-preserved : goal.loop-i-preserved
loop-i-preserved c =
    let t = c.if-not-is_due.false in
    let e = sym c.is_due.ensures.0 ∙ t in
    let l = c.is_due.ensures.1 t in (
      omega (arith, c.loop-i-test.true),
      omega (arith, l),
      matched_next c.args.due.now c.args.at c.args.piece.now c.loop-i.i c.loop-i-test.true c.loop-i.invariant.2 _ refl e,
      rows_next_due c.args.due.now c.args.at c.args.piece.now c.loop-i.i c.loop-i-test.true c.loop-i.invariant.2 _ refl e c.loop-i.m _ (omega (arith, l)) c.loop-i.invariant.3 c.row_behind-m.ensures,
    )
