-- `ask_statement`: no such node, too few records, no path, or the node. Assumes nothing.
use Rattle.std.proofs.Common.{◌∙◌, arith}
use Rattle.std.proofs.lemmas.Result.{err_from_is_err_and}
use Rattle.statements.specs.StatementLaws.{no_node, node_rows_lem, by_record, refusal_passes, answer_passes}
use Rattle.statements.proofs.statement.ask_statement.Goals as goal

pub returns-then-n-node : goal.returns-then-n-node
returns-then-n-node c = rw c.at.ensures (no_node c.args.counts.now c.args.stmts.now c.args.node _ c.nodes-n.ensures.0 c.if-n-node.true)

pub returns-then-stmts-n : goal.returns-then-stmts-n
returns-then-stmts-n c = rw c.at-then-stmts-n.ensures (node_rows_lem c.args.counts.now c.args.stmts.now c.args.node _ c.nodes-n.ensures.0 (omega arith) c.if-stmts-n.true)

pub returns-in_err-check_record : goal.returns-in_err-check_record
returns-in_err-check_record c =
    let a = c.args in
    let p = err_from_is_err_and c.from_residual.result c.from_residual.ensures.1 in
    rw (p.1, p.2) (refusal_passes _ _ _ _ c.in_err-check_record.ensures ∙ by_record a.counts.now a.stmts.now a.node _ c.nodes-n.ensures.0 (omega arith) (omega arith) _ c.lines-lines.ensures.0)

pub returns : goal.returns
returns c =
    let a = c.args in
    rw (c.from.ensures, c.word.ensures) (answer_passes _ _ c.in_ok-check_record.ensures ∙ by_record a.counts.now a.stmts.now a.node _ c.nodes-n.ensures.0 (omega arith) (omega arith) _ c.lines-lines.ensures.0)
