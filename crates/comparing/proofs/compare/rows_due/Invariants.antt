-- `rows_due`: the first i bytes are those due, and m of them are whole rows. Assumes nothing.
use Prim.Native.Nat.{◌+◌, ◌≤◌}
use lib.ListN.{length}
use Rattle.comparing.specs.Feeding.{Matched, RowsDue}
use Rattle.comparing.proofs.compare.rows_due.Given as goal

abbrev pub invariant-loop-i : goal.invariant-loop-i
invariant-loop-i l = (l.i ≤ length l.piece) × (l.at + l.i ≤ length l.due) × Matched l.due l.at l.piece l.i × RowsDue l.due l.at l.piece l.m
