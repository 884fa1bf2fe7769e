-- `sum_returns`: the edges of the first i nodes are counted. Assumes nothing.
use mathlib.Core.Path.{◌≡◌}
use lib.Dec.{eqb}
use Rattle.tables.specs.Columns.{word_of}
use Rattle.passes.specs.ReturnTotals.{sum_where, return_size}
use Rattle.walks.proofs.return_totals.sum_returns.Given as goal

abbrev pub invariant-loop-i : goal.invariant-loop-i
invariant-loop-i l = l.sum ≡ sum_where (λ i. eqb (word_of l.sets.records.stmts.now i) 9) (λ i. return_size l.handlers l.targets l.sets.words.now i) l.i
