-- `judge`: the state stands for a reading from which the rest is read as the whole is. Assumes nothing.
use Prim.Native.Nat.{◌+◌, ◌≤◌}
use lib.ListN.{length}
use Rattle.reader.specs.Judge.{Follows}
use Rattle.reader.specs.States.{state_of}
use Rattle.reader.proofs.judge.judge.Given as goal

abbrev pub invariant-loop-row : goal.invariant-loop-row
invariant-loop-row l = (l.i + length l.left ≤ length l.text) × Follows l.text (state_of l.s) l.i l.left

abbrev pub decreases-loop-row : goal.decreases-loop-row
decreases-loop-row l = length l.left
