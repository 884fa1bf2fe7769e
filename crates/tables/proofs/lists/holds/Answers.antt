-- `holds`: whether some element is the node. Assumes nothing.
use Rattle.std.proofs.Common.{◌∙◌}
use Rattle.tables.specs.Words.{has_any}
use Rattle.tables.proofs.lists.holds.Goals as goal

pub returns : goal.returns
returns c = c.contains.ensures.value ∙ has_any c.args.a c.args.l.now
