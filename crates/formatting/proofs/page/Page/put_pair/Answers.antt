-- `put_pair`: the three pieces. Assumes nothing.
use Rattle.formatting.specs.Pages.{wrote_pair}
use Rattle.formatting.proofs.page.Page.put_pair.Goals as goal

pub returns : goal.returns
returns c = wrote_pair c.args.word.now c.args.a c.args.b c.put_bytes.ensures c.put_number.ensures c.put_number-2.ensures
