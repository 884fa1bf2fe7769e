-- `span_row`: the entries of the first i links are done. Assumes nothing.
use lib.ListN.{take}
use Rattle.graph.specs.Lists.{each}
use Rattle.graph_laws.specs.Adding.{decode}
use Rattle.passes.specs.Spans.{SpansGrow}
use Rattle.walks.proofs.spans.span_row.Given as goal

abbrev pub invariant-loop-t : goal.invariant-loop-t
invariant-loop-t l = SpansGrow l.k (each decode (take l.t-index l.row)) l.initial.spans l.spans
