-- `put_list_row`: the word and the list, then the end. Assumes nothing.
use Rattle.listings.specs.Bytes.{bytes}
use Rattle.answers.specs.RowLaws.{wrote_list}
use Rattle.answers.proofs.print.put_list_row.Goals as goal

pub returns : goal.returns
unfolding bytes
returns c = wrote_list c.args.word.now c.args.list.now c.put_list.ensures c.put_bytes.ensures
