-- `lost_on`: the first i bytes are of the row in no form. Assumes nothing.
use Rattle.comparing.specs.Judging.{lost}
use Rattle.comparing.specs.Feeding.{Differing}
use Rattle.comparing.proofs.compare.lost_on.Given as goal

abbrev pub invariant-loop-i : goal.invariant-loop-i
invariant-loop-i g l = Differing l.at lost l.piece l.i lost
