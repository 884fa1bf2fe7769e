-- `feed`: what is left comes to what the whole piece does. Assumes nothing.
use mathlib.Core.Path.{◌≡◌}
use lib.ListN.{length}
use Rattle.comparing.specs.Comparing.{fed}
use Rattle.comparing.specs.ComparingStates.{standing_as}
use Rattle.comparing.proofs.compare.Comparing.feed.Given as goal

abbrev pub invariant-loop-left : goal.invariant-loop-left
invariant-loop-left g l =
    let told = standing_as g.R.Refused.as_pair in
    fed l.due (told l.s) l.left ≡ fed l.due (told l.initial.s) l.piece

abbrev pub decreases-loop-left : goal.decreases-loop-left
decreases-loop-left g l = length l.left
