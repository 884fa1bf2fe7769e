-- `add_first`: nothing, or one entry. Assumes nothing.
use Rattle.passes.specs.EntryColumn.{column_none, column_one}
use Rattle.storing.specs.NodeLists.{added_as, added_none}
use Rattle.wiring.proofs.list_of.add_first.Goals as goal

pub returns-then-w-eq0 : goal.returns-then-w-eq0
returns-then-w-eq0 c = added_as (column_none _ _ c.if-w-eq0.true) (added_none _)

pub returns : goal.returns
returns c = added_as (column_one _ _ c.if-w-eq0.false) (rw c.node.ensures at c.add_edge.ensures)
