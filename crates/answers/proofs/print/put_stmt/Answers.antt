-- `put_stmt`: the five pieces. Assumes nothing.
use Rattle.std.proofs.Common.{[], get_or}
use Rattle.listings.specs.Bytes.{bytes}
use Rattle.listings.specs.WordTable.{words}
use Rattle.answers.specs.RowLaws.{wrote_stmt}
use Rattle.answers.proofs.print.put_stmt.Goals as goal

pub returns : goal.returns
unfolding bytes
returns c = wrote_stmt c.args.node (get_or words c.args.word []) c.put_bytes.ensures c.put_number.ensures c.put_byte.ensures c.put_word.ensures c.put_bytes-2.ensures
