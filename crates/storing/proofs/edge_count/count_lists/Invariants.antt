-- `count_lists`: the sizes of the first i nodes. Assumes nothing.
use Prim.Native.Nat.{◌≤◌, ◌*◌}
use mathlib.Core.Path.{◌≡◌}
use Rattle.passes.specs.Counting.{sum_to}
use Rattle.storing.specs.FromSource.{size_from}
use Rattle.storing.proofs.edge_count.count_lists.Given as goal

abbrev pub invariant-loop-i : goal.invariant-loop-i
invariant-loop-i l = (l.sum ≡ sum_to (size_from l.source l.args l.lists) l.i) × (l.sum ≤ l.i * 65536)
