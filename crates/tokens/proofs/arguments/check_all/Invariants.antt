-- `check_all`: refusal and count of the pieces so far, to be joined with those left. Assumes nothing.
use mathlib.Core.Path.{◌≡◌}
use lib.ListN.{drop, length}
use Rattle.listings.specs.Rows.{split}
use Rattle.tokens.specs.Arguments.{are_slots, refusal_by, lowest, lowest_of}
use Rattle.tokens.proofs.arguments.check_all.Given as goal

abbrev pub invariant-loop-w : goal.invariant-loop-w
invariant-loop-w l =
    (l.count ≡ length l.yielded)
    × (lowest l.verdict (lowest_of (refusal_by (are_slots l.arguments)) (drop l.count (split 32 l.s))) ≡ lowest_of (refusal_by (are_slots l.arguments)) (split 32 l.s))
