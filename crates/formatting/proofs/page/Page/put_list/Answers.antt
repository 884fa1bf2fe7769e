-- `put_list`: the word, then the list. Assumes nothing.
use Rattle.formatting.specs.Pages.{wrote_both}
use Rattle.formatting.proofs.page.Page.put_list.Goals as goal

pub returns : goal.returns
returns c = wrote_both c.put_bytes.ensures c.put_spaced.ensures
