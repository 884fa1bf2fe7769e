use Rattle.std.proofs.Common.{◌≡◌, length}
use Rattle.basic.specs.Cursors.{tokens_at}
use Rattle.basic.specs.RowLaws.{Passed}
use Rattle.basic.proofs.rows.statement_row_at.Given as goal

abbrev pub invariant-loop-at : goal.invariant-loop-at
invariant-loop-at l =
    record {
      passed : Passed l.file l.s l.at;
      same : l.part ≡ l.initial.part;
    }

abbrev pub decreases-loop-at : goal.decreases-loop-at
decreases-loop-at l = length (tokens_at l.file l.at)
