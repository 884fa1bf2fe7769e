-- `first_entry`: the first among the rows to come is the first of all. Assumes nothing.
use Rattle.adjacency.specs.EntryAtLaws.{FirstFrom}
use Rattle.adjacency.proofs.entry.first_entry.Given as goal

abbrev pub invariant-loop-row : goal.invariant-loop-row
invariant-loop-row l = FirstFrom l.n l.number l.entries l.row-items l.row-index
