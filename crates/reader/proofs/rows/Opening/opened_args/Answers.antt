-- `opened_args`: the module, a line, or no form. Assumes nothing.
use Rattle.std.proofs.Common.{rules, ◌≡◌, ◌∙◌, ap}
use Rattle.listings.specs.Rows.{single, split}
use Rattle.reader.specs.CodedRows.{opened_args, row_by_number, line_by_number}
use Rattle.reader.specs.declared.rows.Row.TheVariants as row
use Rattle.reader.proofs.rows.Opening.opened_args.Goals as goal

pub returns-in-Line : goal.returns-in-Line
unfolding opened_args
returns-in-Line c =
    let m : c.map.result ≡ row_by_number row.Line c.due_number.result = search rules in
    rw c.in-Line.is (m ∙ ap (row_by_number row.Line) c.due_number.ensures ∙ line_by_number (single (split 32 c.args.s.now)))
