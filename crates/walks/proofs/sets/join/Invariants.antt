-- `join`: the first q words are joined. Assumes nothing.
use mathlib.Core.Path.{◌≡◌}
use lib.ListN.{length}
use Rattle.passes.specs.Sets.{joined_to}
use Rattle.walks.proofs.sets.join.Given as goal

abbrev pub invariant-loop-q : goal.invariant-loop-q
invariant-loop-q l = (length l.set ≡ length l.initial.set) × (l.set ≡ joined_to l.initial.set l.more l.q)
