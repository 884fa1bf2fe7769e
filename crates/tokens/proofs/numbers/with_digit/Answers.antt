-- `with_digit`: above the bound, or not. Assumes nothing.
use Rattle.std.proofs.Common.{◌≡◌, ◌∙◌, ◌+◌, ◌*◌, ap, sym, arith}
use Rattle.std.specs.Prelude.{Some}
use Rattle.tokens.specs.Numbers.{most_none, most_some}
use Rattle.tokens.proofs.numbers.with_digit.Goals as goal

pub returns-then-from-n : goal.returns-then-from-n
returns-then-from-n c = sym (most_none c.args.most (c.args.value * 10 + c.args.digit) (omega arith))

pub returns : goal.returns
returns c =
    let n : c.from.result * 10 + c.from-2.result ≡ c.args.value * 10 + c.args.digit = omega arith in
    ap Some n ∙ sym (most_some c.args.most (c.args.value * 10 + c.args.digit) (omega arith))
