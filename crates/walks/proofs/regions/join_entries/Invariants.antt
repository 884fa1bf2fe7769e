-- `join_entries`: the entries before e are done. Assumes nothing.
use mathlib.Core.Path.{◌≡◌}
use lib.ListN.{length}
use Rattle.walks.specs.FromListed.{RegionsJoinedFrom}
use Rattle.walks.proofs.regions.join_entries.Given as goal

abbrev pub invariant-loop-e : goal.invariant-loop-e
invariant-loop-e l = (length l.sets ≡ length l.initial.sets) × RegionsJoinedFrom l.w l.e l.initial.sets l.sets
