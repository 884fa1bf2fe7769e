-- By the stage, what is due; then its first.
use Rattle.basic.specs.Rows.{ends_then, lines_at, lines_behind, statements_at}
use Rattle.basic.specs.RowLaws.{due_line, due_statements, due_ends, due_ended, module_first, to_first, stmts_first, due_yields}
use Rattle.basic.proofs.rows.row_at.Goals as goal

pub returns-in-Module : goal.returns-in-Module
returns-in-Module c = module_first c.args.file.now c.args.s c.staged.result c.in-Module.is c.staged.ensures

pub returns-in-Line : goal.returns-in-Line
returns-in-Line c =
    let f = c.args.file.now in
    due_yields f c.args.s (lines_at f c.args.s.at.at) c.line_row_at.result (due_line f c.args.s c.in-Line.is) (c.line_row_at.ensures _ _)

pub returns-in-Statements : goal.returns-in-Statements
returns-in-Statements c =
    let f = c.args.file.now in
    due_yields f c.args.s (statements_at f c.args.s.at c.args.s.ends) c.statement_row_at.result (due_statements f c.args.s c.in-Statements.is) c.statement_row_at.ensures

pub returns-in-To : goal.returns-in-To
returns-in-To c = to_first c.args.file.now c.args.s c.staged-in-To.result c.in-To.number c.in-To.is c.staged-in-To.ensures

pub returns-in-Stmts : goal.returns-in-Stmts
returns-in-Stmts c = stmts_first c.args.file.now c.args.s c.staged-in-Stmts.result c.in-Stmts.is c.staged-in-Stmts.ensures

pub returns-in-Ends : goal.returns-in-Ends
returns-in-Ends c =
    let f = c.args.file.now in
    due_yields f c.args.s (ends_then c.args.s.ends (lines_behind f c.args.s.at)) c.end_row_at.result (due_ends f c.args.s c.in-Ends.is) (c.end_row_at.ensures _ _)

pub returns-in-Ended : goal.returns-in-Ended
returns-in-Ended c = due_ended c.args.file.now c.args.s c.in-Ended.is
