-- `no_statement`: no such node, no such record, or what the record says. Assumes nothing.
use Rattle.std.proofs.Common.{ap, ◌∙◌}
use Rattle.statements.specs.StatementAt.{refused_by}
use Rattle.statements.specs.StatementLaws.{is_refused, no_record_node, no_record_rows, record_inside}
use Rattle.statements.proofs.statement.no_statement.Goals as goal
use Rattle.statements.proofs.statement.no_statement.Goals.{then-n-node-via-then-n-node, then-n-node-via-else-n-node+then-stmts-n}

pub returns-then-n-node : goal.returns-then-n-node
returns-then-n-node c =
    let a = c.args in
    rw c.at.ensures (is_refused _ 24 (elim c.then-n-node.branch [
      | then-n-node-via-then-n-node w ↦ no_record_node a.lines a.stmts.now a.n a.node w.if-n-node.true
      | then-n-node-via-else-n-node+then-stmts-n w ↦ no_record_rows a.lines a.stmts.now a.n a.node w.if-n-node.false w.if-stmts-n.true
    ]))

pub returns : goal.returns
returns c = c.check_record.ensures ∙ ap refused_by (record_inside c.args.lines c.args.stmts.now c.args.n c.args.node c.if-n-node.false c.if-stmts-n.false)
