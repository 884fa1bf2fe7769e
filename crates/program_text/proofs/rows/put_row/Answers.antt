-- `put_row`: by the row. Assumes nothing.
use Rattle.listings.specs.Bytes.{bytes}
use Rattle.program_text.specs.RowTexts.{wrote_module, wrote_line, wrote_if, wrote_to, wrote_stmts, wrote_end}
use Rattle.program_text.proofs.rows.put_row.Goals as goal

pub returns-in-Module : goal.returns-in-Module
unfolding bytes
returns-in-Module c = wrote_module c.args.part.now c.args.row c.in-Module.is c.put_bytes.ensures

pub returns-in-Line : goal.returns-in-Line
unfolding bytes
returns-in-Line c = wrote_line c.args.part.now c.args.row _ c.in-Line.is c.put_numbered.ensures

pub returns-in-If : goal.returns-in-If
unfolding bytes
returns-in-If c = wrote_if c.args.part.now c.args.row c.in-If.is c.put_bytes-in-If.ensures

pub returns-in-To : goal.returns-in-To
unfolding bytes
returns-in-To c = wrote_to c.args.part.now c.args.row _ c.in-To.is c.put_numbered-in-To.ensures

pub returns-in-Stmts : goal.returns-in-Stmts
unfolding bytes
returns-in-Stmts c = wrote_stmts c.args.part.now c.args.row c.in-Stmts.is c.put_bytes-in-Stmts.ensures

pub returns-in-End : goal.returns-in-End
unfolding bytes
returns-in-End c = wrote_end c.args.part.now c.args.row c.in-End.is c.put_bytes-in-End.ensures
