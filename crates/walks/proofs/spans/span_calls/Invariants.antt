-- `span_calls`: the first k calls are done. Assumes nothing.
use mathlib.Core.Path.{◌≡◌}
use lib.ListN.{length}
use Rattle.passes.specs.Spans.{Spanned}
use Rattle.walks.proofs.spans.span_calls.Given as goal

abbrev pub invariant-loop-k : goal.invariant-loop-k
invariant-loop-k l = (length l.spans ≡ 4096) × Spanned l.g.records.stmts.now l.g.links.now l.calls l.k l.spans
