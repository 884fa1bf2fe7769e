-- Each entry met has the value. Assumes nothing.
use Rattle.std.proofs.Common.{◌≡◌, ◌++◌, ◌≤◌, length, replicate, drop}
use Rattle.layout.proofs.zeroing.fill_behind.Given as goal

abbrev pub invariant-loop-x : goal.invariant-loop-x
invariant-loop-x g l = (l.x-index ≤ length l.initial.x-items) × (l.x-items ≡ replicate l.x-index l.value ++ drop l.x-index l.initial.x-items)
