-- `items_end`: the DATA goes on at `at`. Assumes nothing.
use Rattle.std.proofs.Common.{◌-◌, length}
use Rattle.program_files.specs.Program.{items}
use Rattle.basic.specs.Covered.{Leads}
use Rattle.basic.proofs.covered.items_end.Given as goal

abbrev pub invariant-loop-at : goal.invariant-loop-at
invariant-loop-at l = Leads l.file items l.fn.from items l.at

abbrev pub decreases-loop-at : goal.decreases-loop-at
decreases-loop-at l = length l.file - l.at
