-- `put_entry`: the row of that line entry. Assumes nothing.
use Rattle.listings.specs.Bytes.{bytes}
use Rattle.printing.specs.PrintedTables.{some_read, wrote_entry}
use Rattle.printing.proofs.print.put_entry.Goals as goal

pub returns : goal.returns
unfolding bytes
returns c = wrote_entry c.args.row.now 0 _ c.from-number.ensures (some_read _ _ _ _ _ c.from.ensures c.checked_sub-node.ensures c.put_some.ensures)
