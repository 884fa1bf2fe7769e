-- `put_decimal`, which calls itself with a hundredth. Assumes nothing.
use Rattle.std.proofs.Common.{refl}
use Rattle.formatting.specs.Printing.{puts_small, puts_digit}
use Rattle.formatting.proofs.parts.+put_decimal.Goals as goal

pub returns-then-x-lt10 : goal.returns-then-x-lt10
returns-then-x-lt10 t c = puts_small c.args.x _ c.if-x-lt10.true refl c.put_byte.ensures

pub returns-then-tenth-lt10 : goal.returns-then-tenth-lt10
returns-then-tenth-lt10 t c = puts_digit c.args.x _ c.if-x-lt10.false refl (puts_small _ _ c.if-tenth-lt10.true refl c.put_byte-next.ensures) c.put_byte-then-tenth-lt10.ensures

pub returns : goal.returns
returns t c = puts_digit c.args.x _ c.if-x-lt10.false refl (puts_digit _ _ c.if-tenth-lt10.false refl c.put_decimal-front.ensures c.put_byte-next-2.ensures) c.put_byte-2.ensures
