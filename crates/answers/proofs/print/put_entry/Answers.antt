-- `put_entry`: the three pieces, or one. Assumes nothing.
use Rattle.std.proofs.Common.{sym, ap, ◌∙◌}
use Rattle.listings.specs.Bytes.{bytes}
use Rattle.formatting.specs.Pages.{wrote_is}
use Rattle.answers.specs.AnswersAt.{entry_row}
use Rattle.answers.specs.RowLaws.{wrote_one, no_entry}
use Rattle.answers.proofs.print.put_entry.Goals as goal

pub returns-in-Some : goal.returns-in-Some
unfolding bytes
returns-in-Some c =
    wrote_is (sym (ap entry_row c.in-Some.is)) (wrote_one (bytes "(entry") c.in-Some.id c.put_bytes.ensures c.put_number.ensures c.put_bytes-in-Some.ensures)

pub returns-in-None : goal.returns-in-None
unfolding bytes
returns-in-None c = wrote_is (no_entry ∙ sym (ap entry_row c.in-None.is)) c.put_bytes-in-None.ensures
