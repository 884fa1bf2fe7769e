-- `ask_at_limits`: the tables suffice at all limits. Assumes nothing.
use Rattle.std.proofs.Common.{rules}
use Rattle.flowask.specs.Limits.{asked-limits}
use Rattle.flowask.proofs.ask_at_limits.Goals as goal

pub returns : goal.returns
returns c =
    asked-limits c.args.text.now _ _ _ _ _ _ _ _ _ _ _ _ _ _ _
    (search rules) (search rules) (search rules) (search rules) (search rules) (search rules) (search rules) (search rules) (search rules) (search rules)
    c.with_tables.ensures
