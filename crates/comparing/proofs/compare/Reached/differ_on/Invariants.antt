-- `differ_on`: the first i bytes are of the row that differs. Assumes nothing.
use Rattle.comparing.specs.JudgeStates.{reading_of}
use Rattle.comparing.specs.Feeding.{Differing}
use Rattle.comparing.proofs.compare.Reached.differ_on.Given as goal

abbrev pub invariant-loop-i : goal.invariant-loop-i
invariant-loop-i g l = Differing l.self.at (reading_of l.self.judge) l.piece l.i (reading_of l.judge)
