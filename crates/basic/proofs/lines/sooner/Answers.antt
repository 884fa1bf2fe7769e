-- `sooner`: the definition's choice, case by case. Assumes nothing.
use Rattle.layout.specs.Refusals.{number_of}
use Rattle.basic.specs.OffenceLaws.{least_alone, least_second, least_stays}
use Rattle.basic.proofs.lines.sooner.Goals as goal

pub returns-in_default : goal.returns-in_default
returns-in_default c = rw c.in_default.is (least_alone c.args.a.place (number_of c.args.a.reason) 0 0)

pub returns-then-lt : goal.returns-then-lt
returns-then-lt c =
    let h = rw (c.number.ensures, c.number-2.ensures) at c.if-lt.ensures in
    rw c.in-Some.is (least_second c.args.a.place (number_of c.args.a.reason) c.in-Some.b.place (number_of c.in-Some.b.reason) h)

pub returns : goal.returns
returns c =
    let h = rw (c.number.ensures, c.number-2.ensures) at c.if-lt.ensures in
    rw c.in-Some.is (least_stays c.args.a.place (number_of c.args.a.reason) c.in-Some.b.place (number_of c.in-Some.b.reason) h)
