-- `join_entries_by_rows`: the entries before e are done, whichever steps the rows are closed over. Assumes nothing.
use mathlib.Core.Path.{◌≡◌}
use lib.ListN.{length}
use Rattle.walks.specs.FromNodes.{EntriesByRowsFrom}
use Rattle.walks.proofs.by_rows.join_entries_by_rows.Given as goal

abbrev pub invariant-loop-e : goal.invariant-loop-e
invariant-loop-e l = (length l.rows ≡ length l.initial.rows) × EntriesByRowsFrom l.g l.e l.initial.rows l.rows
