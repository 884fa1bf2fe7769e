-- `first_entry`: the first among the rows to come is the first of all. Assumes nothing.
use Rattle.std.proofs.Common.{ap, ◌∙◌, take}
use Rattle.tables.specs.Columns.{entry_node}
use Rattle.adjacency.specs.EntryAtLaws.{from_first, row_found, row_passed, none_found, entry_less}
use Rattle.adjacency.proofs.entry.first_entry.Goals as goal

pub loop-row-init : goal.loop-row-init
loop-row-init c = from_first c.args.n c.args.number c.args.entries.now _ c.requires (ap (take c.args.n) c.as_chunks.ensures.front)

pub loop-row-preserved : goal.loop-row-preserved
loop-row-preserved c = row_passed _ _ _ _ _ c.loop-row.invariant c.loop-row-test.true c.if-row-number.false

pub returns-then-row-number : goal.returns-then-row-number
returns-then-row-number c = entry_less _ _ c.checked_sub.ensures ∙ ap entry_node c.from.ensures ∙ row_found _ _ _ _ _ c.loop-row.invariant c.loop-row-test.true c.if-row-number.true

pub returns : goal.returns
returns c = none_found _ _ _ _ _ c.loop-row.invariant c.loop-row-test.false
