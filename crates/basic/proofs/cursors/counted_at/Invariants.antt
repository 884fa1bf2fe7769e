-- `counted_at`: from `at` on, where nothing covers, the same bytes count. Assumes nothing.
use Rattle.std.proofs.Common.{◌-◌, length}
use Rattle.program_files.specs.Program.{uncovered}
use Rattle.basic.specs.Covered.{Leads}
use Rattle.basic.specs.Covers.{cover_of}
use Rattle.basic.proofs.cursors.counted_at.Given as goal

abbrev pub invariant-loop-at : goal.invariant-loop-at
invariant-loop-at l = Leads l.file (cover_of l.fn.c.cover) l.fn.c.at uncovered l.at

abbrev pub decreases-loop-at : goal.decreases-loop-at
decreases-loop-at l = length l.file - l.at
