-- `split_questions`: no row before `left` is the one looked for. Assumes nothing.
use mathlib.Core.Path.{sym}
use Rattle.listings.specs.Bytes.{bytes}
use Rattle.answers.specs.TextLaws.{cut_alone, cut_here, cut_next}
use Rattle.answers.proofs.text.split_questions.Goals as goal

pub returns-then-equal : goal.returns-then-equal
unfolding bytes
returns-then-equal c = cut_here c.args.text.now c.loop-row.left.now c.loop-row.invariant c.in-Some.row.now c.in-Some.rest.now c.in-Some.ensures.0 (sym c.if-equal.ensures)

pub loop-row-preserved : goal.loop-row-preserved
unfolding bytes
loop-row-preserved c = cut_next c.args.text.now c.loop-row.left.now c.loop-row.invariant c.in-Some.row.now c.in-Some.rest.now c.in-Some.ensures.0 c.in-Some.ensures.1 (sym c.if-equal.ensures)

pub returns : goal.returns
returns c = cut_alone c.args.text.now c.loop-row.left.now c.loop-row.invariant c.in_default.ensures
