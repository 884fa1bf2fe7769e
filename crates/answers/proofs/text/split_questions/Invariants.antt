-- `split_questions`: no row before `left` is the one looked for. Assumes nothing.
use lib.ListN.{length}
use Rattle.answers.specs.TextLaws.{Cutting}
use Rattle.answers.proofs.text.split_questions.Given as goal

abbrev pub invariant-loop-row : goal.invariant-loop-row
invariant-loop-row l = Cutting l.text l.left

abbrev pub decreases-loop-row : goal.decreases-loop-row
decreases-loop-row l = length l.left
