-- `put_back`: a row for a call, none for another node. Assumes nothing.
use mathlib.Core.Path.{sym, ap, ◌∙◌}
use Rattle.listings.specs.Bytes.{bytes}
use Rattle.tables.specs.Columns.{call_word, word_of}
use Rattle.printing.specs.PrintedTables.{some_read, wrote_back, wrote_no_back}
use Rattle.printing.proofs.print.put_back.Goals as goal

pub returns-then-is_call : goal.returns-then-is_call
unfolding bytes word_of
returns-then-is_call c = wrote_back c.args.records.now.stmts.now c.args.falls.now c.args.i (ap call_word (sym c.word.ensures) ∙ sym c.is_call.ensures ∙ c.if-is_call.true) (some_read _ _ _ _ _ c.from.ensures c.checked_sub-fall.ensures c.put_some.ensures)

pub returns-else-is_call : goal.returns-else-is_call
unfolding word_of
returns-else-is_call c = wrote_no_back c.args.page.now c.args.records.now.stmts.now c.args.falls.now c.args.i (ap call_word (sym c.word.ensures) ∙ sym c.is_call.ensures ∙ c.if-is_call.false)
