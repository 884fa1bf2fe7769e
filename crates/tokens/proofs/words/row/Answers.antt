-- `row`: the table's row. Assumes nothing.
use Rattle.std.proofs.Common.{◌∙◌}
use Rattle.tokens.specs.Kinds.{get_row}
use Rattle.tokens.proofs.words.row.Goals as goal

pub returns : goal.returns
returns c = c.copied.ensures ∙ get_row c.args.table.now c.args.k c.get.result c.get.ensures.lookup
