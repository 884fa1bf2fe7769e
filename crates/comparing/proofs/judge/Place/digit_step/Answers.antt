-- `digit_step`: the value with one digit more, if it is a number of document 01's. Assumes nothing.
use Rattle.std.proofs.Common.{arith, sym, ◌∙◌, ◌*◌, ◌+◌, ◌-◌}
use Rattle.listing_laws.specs.NumberText.{digit_range}
use Rattle.tokens.specs.Numbers.{most_found, most_lacks}
use Rattle.comparing.specs.JudgeStates.{left_of, reading_of, digit_zero, digit_large, digit_fits}
use Rattle.comparing.proofs.judge.Place.digit_step.Goals as goal

pub returns-then-value-eq0 : goal.returns-then-value-eq0
unfolding reading_of
returns-then-value-eq0 c = digit_zero c.args.value c.args.b (left_of c.args.self) c.if-value-eq0.true

pub overflow_sub-b : goal.overflow_sub-b
overflow_sub-b c = omega (arith, digit_range c.args.b c.requires)

pub returns-in-Some : goal.returns-in-Some
unfolding reading_of
returns-in-Some c =
    let e = sym c.with_digit.ensures ∙ c.in-Some.is in
    let m = most_found 65535 (c.args.value * 10 + (c.args.b - 48)) c.in-Some.value (rw c.from.ensures at e) in
    rw m.0 (digit_fits c.args.value c.args.b (left_of c.args.self) (omega arith) m.1)

pub returns-in-None : goal.returns-in-None
unfolding reading_of
returns-in-None c =
    let e = sym c.with_digit.ensures ∙ c.in-None.is in
    digit_large c.args.value c.args.b (left_of c.args.self) (most_lacks 65535 (c.args.value * 10 + (c.args.b - 48)) (rw c.from.ensures at e))
