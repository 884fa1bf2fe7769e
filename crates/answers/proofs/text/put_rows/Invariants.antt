-- `put_rows`: the rows before `left` are answered. Assumes nothing.
use Rattle.std.proofs.Common.{◌+◌, ◌≤◌, length}
use Rattle.answers.specs.AnswersAt.{answer_of}
use Rattle.answers.specs.TextLaws.{Answering}
use Rattle.answers.proofs.text.put_rows.Given as goal

abbrev pub invariant-loop-row : goal.invariant-loop-row
invariant-loop-row l = (l.k + length l.left ≤ length l.text) × Answering (answer_of l.g) l.text l.initial.page l.page l.k l.left

abbrev pub decreases-loop-row : goal.decreases-loop-row
decreases-loop-row l = length l.left
