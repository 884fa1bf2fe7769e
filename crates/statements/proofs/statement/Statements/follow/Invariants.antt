-- `follow`: on from the node found, by the numbers that are left. Assumes nothing.
use Rattle.std.proofs.Common.{◌≡◌, ◌≤◌, drop}
use Rattle.tables.specs.OneMore.{one_more}
use Rattle.statements.specs.StatementAt.{statement_from}
use Rattle.statements.proofs.statement.Statements.follow.Given as goal

abbrev pub invariant-loop-index : goal.invariant-loop-index
invariant-loop-index l = (one_more l.at ≤ l.self.n) × (statement_from l.self.lines l.self.stmts.now l.self.n l.line 0 l.path ≡ statement_from l.self.lines l.self.stmts.now l.self.n l.line (one_more l.at) (drop l.index-index l.path))
