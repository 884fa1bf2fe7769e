-- `judge_program`: some lines are counted so, and the rest is read behind them as the whole is. Assumes nothing.
use Rattle.std.proofs.Common.{◌-◌, ◌≤◌, suc, length}
use Rattle.basic.specs.ReadLaws.{Follows}
use Rattle.basic.proofs.judge.judge_program.Given as goal

abbrev pub invariant-loop-at : goal.invariant-loop-at
invariant-loop-at l = (l.at ≤ suc (suc (length l.file))) × Follows l.file l.s l.at

abbrev pub decreases-loop-at : goal.decreases-loop-at
decreases-loop-at l = suc (suc (length l.file)) - l.at
