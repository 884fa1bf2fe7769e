-- `put_pair_row`: both pieces. Assumes nothing.
use Rattle.listings.specs.Bytes.{bytes}
use Rattle.formatting.specs.Pages.{wrote_row}
use Rattle.formatting.proofs.page.Page.put_pair_row.Goals as goal

pub returns : goal.returns
unfolding bytes
returns c = wrote_row c.args.word.now c.args.a c.args.b c.put_pair.ensures c.put_bytes.ensures
