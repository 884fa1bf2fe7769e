-- `branch_target`: each arm is one kind of branch. Assumes nothing.
use borrow.Author.Rules.{rules}
use Rattle.wiring.specs.Branches.{led_absent, led_stmts, led_to}
use Rattle.wiring.proofs.falls.Rows.branch_target.Goals as goal

pub returns-in-None : goal.returns-in-None
returns-in-None c = led_absent _ _ _ _ _ _ c.in-None.is

pub returns-in-Some-Stmts : goal.returns-in-Some-Stmts
returns-in-Some-Stmts c = led_stmts _ _ _ _ _ _ _ (search rules) c.target_of.ensures

pub returns-in-Some-To : goal.returns-in-Some-To
returns-in-Some-To c = led_to _ _ _ _ _ _ _ _ (search rules) c.entry_of.ensures
