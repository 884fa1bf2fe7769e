-- `put_returns`: the two pieces. Assumes nothing.
use Rattle.listings.specs.Bytes.{bytes}
use Rattle.printing.specs.PrintedTables.{wrote_returns}
use Rattle.printing.proofs.print.put_returns.Goals as goal

pub returns : goal.returns
unfolding bytes
returns c = wrote_returns _ c.put_list.ensures c.put_bytes.ensures
