-- `lost_on`: the first i bytes are of the row in no form. Assumes nothing.
use mathlib.Core.Path.{refl}
use borrow.Author.Tests.{ne_eqb, eq-eqb}
use Rattle.comparing.specs.Judging.{lost, good, met}
use Rattle.comparing.specs.Comparing.{rows_number}
use Rattle.comparing.specs.JudgeStates.{reading_of}
use Rattle.comparing.specs.ComparingStates.{standing_as}
use Rattle.comparing.specs.Feeding.{differing_none, differing_on, differing_ends, differing_all}
use Rattle.comparing.proofs.compare.lost_on.Goals as goal

pub loop-i-init : goal.loop-i-init
loop-i-init g c = differing_none c.args.at lost c.args.piece.now

pub returns-then-b-eq10 : goal.returns-then-b-eq10
unfolding standing_as rows_number good
returns-then-b-eq10 g c = rw c.refused.ensures (differing_ends c.args.at lost c.args.piece.now c.loop-i.i lost c.loop-i-test.true c.loop-i.invariant _ refl (eq-eqb _ _ c.if-b-eq10.true))

pub loop-i-preserved : goal.loop-i-preserved
unfolding met
loop-i-preserved g c = differing_on c.args.at lost c.args.piece.now c.loop-i.i lost c.loop-i-test.true c.loop-i.invariant _ refl (ne_eqb _ _ c.if-b-eq10.false)

pub returns : goal.returns
unfolding standing_as reading_of
returns g c = differing_all c.args.at lost c.args.piece.now c.loop-i.i lost c.requires c.loop-i-test.false c.loop-i.invariant
