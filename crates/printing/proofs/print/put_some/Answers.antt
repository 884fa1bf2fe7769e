-- `put_some`: a row, or nothing. Assumes nothing.
use Rattle.std.proofs.Common.{rules}
use Rattle.printing.specs.PrintedTables.{no_row, one_row}
use Rattle.printing.proofs.print.put_some.Goals as goal

pub returns-in_default : goal.returns-in_default
returns-in_default c = let a = c.args in no_row a.page.now a.word.now a.a a.node (search rules)

pub returns-in-Some : goal.returns-in-Some
returns-in-Some c = let a = c.args in one_row a.word.now a.a a.node _ c.in-Some.is c.put_pair_row.ensures
