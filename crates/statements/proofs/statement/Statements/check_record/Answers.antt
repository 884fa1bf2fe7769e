-- `check_record`: its own record, then the holders. Assumes nothing.
use Rattle.std.proofs.Common.{sym, ap, ◌∙◌}
use Rattle.statements.specs.StatementAt.{refused_by}
use Rattle.statements.specs.StatementLaws.{is_refused, own-outside, own-inside}
use Rattle.statements.proofs.statement.Statements.check_record.Goals as goal

pub returns-then-record_outside : goal.returns-then-record_outside
returns-then-record_outside c = rw c.at.ensures (is_refused _ 24 (own-outside c.args.self.now.lines c.args.self.now.stmts.now c.args.self.now.n c.args.node (sym c.record_outside.ensures ∙ c.if-record_outside.true)))

pub returns : goal.returns
returns c = c.climb.ensures ∙ ap refused_by (own-inside c.args.self.now.lines c.args.self.now.stmts.now c.args.self.now.n c.args.node _ (sym c.record_outside.ensures ∙ c.if-record_outside.false) c.holder.ensures)
