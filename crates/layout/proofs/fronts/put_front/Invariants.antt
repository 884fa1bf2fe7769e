-- The first i entries stand in front. Assumes nothing.
use Rattle.std.proofs.Common.{◌≡◌, ◌++◌, ◌≤◌, take, drop}
use Rattle.layout.proofs.fronts.put_front.Given as goal

abbrev pub invariant-loop-i : goal.invariant-loop-i
invariant-loop-i g l = (l.i ≤ l.n) × (l.part ≡ take l.i l.list ++ drop l.i l.initial.part)
