-- `ask_path`: too few records, no such line, or the statement of the node at the path. Assumes nothing.
use Rattle.std.proofs.Common.{◌∙◌, arith}
use Rattle.statements.specs.StatementLaws.{path_rows, path_line, path_found}
use Rattle.statements.proofs.statement.ask_path.Goals as goal

pub returns-then-stmts-n : goal.returns-then-stmts-n
returns-then-stmts-n c =
    let a = c.args in
    rw c.at.ensures (path_rows a.counts.now a.stmts.now a.line a.path.now _ _ c.lines-lines.ensures.0 c.nodes-n.ensures.0 c.if-stmts-n.true)

pub returns-then-lines-line : goal.returns-then-lines-line
returns-then-lines-line c =
    let a = c.args in
    rw c.at-then-lines-line.ensures (path_line a.counts.now a.stmts.now a.line a.path.now _ _ c.lines-lines.ensures.0 c.nodes-n.ensures.0 (omega arith) c.if-lines-line.true)

pub returns : goal.returns
returns c =
    let a = c.args in
    c.follow.ensures ∙ path_found a.counts.now a.stmts.now a.line a.path.now _ _ c.lines-lines.ensures.0 c.nodes-n.ensures.0 (omega arith) (omega arith)
