-- `line_number`: value was read up to `at`, where t stands. Assumes nothing.
use Rattle.std.proofs.Common.{length}
use Rattle.basic.specs.Cursors.{tokens_at, IsNext}
use Rattle.basic.specs.Numbers.{IsRead}
use Rattle.basic.proofs.numbers.line_number.Given as goal

abbrev pub invariant-loop-next : goal.invariant-loop-next
invariant-loop-next l = IsNext (tokens_at l.file) l.next l.t × IsRead (tokens_at l.file l.fn.c) (tokens_at l.file l.next) l.value

abbrev pub decreases-loop-next : goal.decreases-loop-next
decreases-loop-next l = length (tokens_at l.file l.next)
