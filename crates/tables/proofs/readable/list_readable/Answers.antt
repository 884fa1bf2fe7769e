-- `list_readable`: outside the edge table, or by its ids. Assumes nothing.
use Rattle.std.proofs.Common.{arith, ◌∙◌}
use Rattle.std.proofs.lemmas.Bool.{lt-leb}
use Rattle.tables.specs.Readable.{list-outside, list_inside}
use Rattle.tables.proofs.readable.list_readable.Goals as goal

pub returns-then-ends-edges : goal.returns-then-ends-edges
returns-then-ends-edges c =
    let a = c.args in
    list_inside a.lists.now a.edges.now a.n a.v c.list_ends-ends.result.start _ c.list_ends-ends.ensures.start (omega (arith, c.list_ends-ends.ensures.start, c.list_ends-ends.ensures.end)) c.if-ends-edges.true c.ids_below.result c.ids_below.ensures

pub returns-else-ends-edges : goal.returns-else-ends-edges
returns-else-ends-edges c =
    let a = c.args in
    lt-leb _ _ c.if-ends-edges.false ∙ list-outside a.lists.now a.edges.now a.n a.v c.list_ends-ends.result.start _ c.list_ends-ends.ensures.start (omega (arith, c.list_ends-ends.ensures.start, c.list_ends-ends.ensures.end)) c.if-ends-edges.false
