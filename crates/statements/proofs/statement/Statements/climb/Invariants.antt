-- `climb`: from the holder reached, by the holders that are left, as from the first. Assumes nothing.
use Rattle.std.proofs.Common.{◌≡◌}
use Rattle.tables.specs.OneMore.{one_more}
use Rattle.statements.specs.StatementAt.{climb}
use Rattle.statements.proofs.statement.Statements.climb.Given as goal

abbrev pub invariant-loop-at : goal.invariant-loop-at
invariant-loop-at l = climb l.self.lines l.self.stmts.now l.self.n 16 (one_more l.fn.holder) ≡ climb l.self.lines l.self.stmts.now l.self.n l.left (one_more l.at)

abbrev pub decreases-loop-at : goal.decreases-loop-at
decreases-loop-at l = l.left
