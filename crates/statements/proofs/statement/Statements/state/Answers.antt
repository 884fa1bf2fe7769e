-- `state`: none, or the statement. Assumes nothing.
use Rattle.std.proofs.Common.{refl, ap}
use Rattle.std.proofs.lemmas.Result.{err_from_is_err_and}
use Rattle.tables.specs.OneMore.{one_more}
use Rattle.statements.specs.StatementLaws.{refused_none, passed_some, no_stmt, the_stmt}
use Rattle.statements.proofs.statement.Statements.state.Goals as goal

pub returns-in_err-node : goal.returns-in_err-node
returns-in_err-node c =
    let p = err_from_is_err_and c.from_residual.result c.from_residual.ensures.1 in
    let n = refused_none c.args.at c.at.result c.in_err-node.field-0.0 c.ok_or.result c.ok_or.ensures.value c.in_err-node.was in
    rw (p.1, p.2, n.1, c.at.ensures, n.0) (no_stmt c.args.self.now.stmts.now 0 refl)

pub returns : goal.returns
returns c =
    let s = passed_some c.args.at c.at.result c.in_ok-node.node c.ok_or.result c.ok_or.ensures.value c.in_ok-node.was in
    rw (c.from.ensures, c.word.ensures) (the_stmt c.args.self.now.stmts.now (one_more c.args.at) c.in_ok-node.node _ (ap one_more s) refl)
