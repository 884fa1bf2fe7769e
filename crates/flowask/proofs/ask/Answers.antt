-- `ask`: by the length of the text, and of the answers. Assumes nothing.
use Rattle.std.proofs.Common.{arith, ◌∙◌}
use Rattle.flowask.specs.Limits.{too_long, too_many, all-answered}
use Rattle.flowask.proofs.ask.Goals as goal

pub returns-then-text-gt-MAX_TEXT : goal.returns-then-text-gt-MAX_TEXT
returns-then-text-gt-MAX_TEXT c = rw c.at.ensures at c.refuse.ensures ∙ too_long c.args.text.now (omega (arith, c.if-text-gt-MAX_TEXT.true))

pub returns-then-r-gt-MAX_ANSWERS : goal.returns-then-r-gt-MAX_ANSWERS
returns-then-r-gt-MAX_ANSWERS c =
    rw c.at-then-r-gt-MAX_ANSWERS.ensures at c.refuse-then-r-gt-MAX_ANSWERS.ensures
    ∙ too_many c.args.text.now (omega (arith, c.if-text-gt-MAX_TEXT.false)) c.args.out.now _ c.told-out _ c.ask_at_limits-r.ensures c.if-r-gt-MAX_ANSWERS.true

pub returns : goal.returns
returns c = (all-answered c.args.text.now (omega (arith, c.if-text-gt-MAX_TEXT.false)) c.args.out.now _ c.told-out _ c.ask_at_limits-r.ensures c.if-r-gt-MAX_ANSWERS.false).bytes
