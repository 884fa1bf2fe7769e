-- `put_backs`: the rows of the calls before i are there. Assumes nothing.
use Rattle.formatting.specs.Pages.{below-start, below_on}
use Rattle.printing.specs.PrintedTables.{back_text}
use Rattle.printing.proofs.print.put_backs.Goals as goal

pub loop-i-init : goal.loop-i-init
loop-i-init c = let a = c.args in below-start (back_text a.records.now.stmts.now a.falls.now) a.page.now

pub loop-i-preserved : goal.loop-i-preserved
loop-i-preserved c = let a = c.args in below_on (back_text a.records.now.stmts.now a.falls.now) a.page.now c.loop-i.i c.loop-i.invariant c.put_back.ensures
