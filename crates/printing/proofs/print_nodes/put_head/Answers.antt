-- `put_head`: the three pieces. Assumes nothing.
use Rattle.listings.specs.Bytes.{bytes}
use Rattle.printing.specs.PrintedTables.{wrote_head}
use Rattle.printing.proofs.print_nodes.put_head.Goals as goal

pub returns : goal.returns
unfolding bytes
returns c = wrote_head c.args.i c.args.number c.args.line c.put_pair.ensures c.put_number.ensures c.put_bytes.ensures
