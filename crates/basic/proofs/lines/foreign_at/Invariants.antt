-- `foreign_at`: the first 64 from `at` on is the first from c on. Assumes nothing.
use Rattle.std.proofs.Common.{◌≡◌, length}
use Rattle.basic.specs.Cursors.{raw_at}
use Rattle.basic.specs.Lines.{first_foreign}
use Rattle.basic.proofs.lines.foreign_at.Given as goal

abbrev pub invariant-loop-at : goal.invariant-loop-at
invariant-loop-at l = first_foreign (raw_at l.file l.at) ≡ first_foreign (raw_at l.file l.fn.c)

abbrev pub decreases-loop-at : goal.decreases-loop-at
decreases-loop-at l = length (raw_at l.file l.at)
