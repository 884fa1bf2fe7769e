-- `calls_readable`: whether there are such nodes. Assumes nothing.
use mathlib.Core.Path.{◌∙◌}
use Rattle.passes.specs.Tested.{tested_some}
use Rattle.walks.proofs.readable.calls_readable.Goals as goal

pub returns : goal.returns
returns c = c.is_some.ensures ∙ tested_some _ _ c.nodes_of.ensures
