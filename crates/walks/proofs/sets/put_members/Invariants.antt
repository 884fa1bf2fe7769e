-- `put_members`: those in the first q words are put. Assumes nothing.
use mathlib.Core.Path.{◌≡◌}
use lib.ListN.{length}
use Rattle.passes.specs.Sets.{members_to, Put}
use Rattle.walks.proofs.sets.put_members.Given as goal

abbrev pub invariant-loop-q : goal.invariant-loop-q
invariant-loop-q l = (length l.part ≡ length l.initial.part) × Put l.initial.part 0 l.part l.n (members_to l.set l.q)
