-- `differ_on`: the first i bytes are of the row that differs. Assumes nothing.
use mathlib.Core.Path.{refl}
use borrow.Author.Tests.{ne_eqb, eq-eqb}
use Rattle.comparing.specs.JudgeStates.{reading_of}
use Rattle.comparing.specs.ComparingStates.{standing_as}
use Rattle.comparing.specs.Feeding.{differing_none, differing_on, differing_ends, differing_all}
use Rattle.comparing.proofs.compare.Reached.differ_on.Goals as goal

pub loop-i-init : goal.loop-i-init
loop-i-init g c = differing_none c.args.self.at (reading_of c.args.self.judge) c.args.piece.now

pub returns-then-b-eq10 : goal.returns-then-b-eq10
unfolding standing_as
returns-then-b-eq10 g c =
    let a = c.args in
    let l = c.loop-i in
    rw (c.refused.ensures, c.row_reason.ensures) (differing_ends a.self.at (reading_of a.self.judge) a.piece.now l.i (reading_of l.judge) c.loop-i-test.true l.invariant _ refl (eq-eqb _ _ c.if-b-eq10.true))

pub loop-i-preserved : goal.loop-i-preserved
loop-i-preserved g c =
    let a = c.args in
    let l = c.loop-i in
    rw c.judge_byte-judge.ensures (differing_on a.self.at (reading_of a.self.judge) a.piece.now l.i (reading_of l.judge) c.loop-i-test.true l.invariant _ refl (ne_eqb _ _ c.if-b-eq10.false))

pub returns : goal.returns
unfolding standing_as
returns g c =
    let a = c.args in
    let l = c.loop-i in
    differing_all a.self.at (reading_of a.self.judge) a.piece.now l.i (reading_of l.judge) c.requires c.loop-i-test.false l.invariant

pub returns-in-Lost : goal.returns-in-Lost
unfolding reading_of
returns-in-Lost g c = rw c.in-Lost.is c.lost_on.ensures
