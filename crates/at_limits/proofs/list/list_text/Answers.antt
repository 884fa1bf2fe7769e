-- `list_text`: by what `list_input` says of a text. Assumes nothing.
use Rattle.printing.specs.Limits.{listed_text}
use Rattle.at_limits.proofs.list.list_text.Goals as goal

pub returns : goal.returns
returns c = listed_text c.args.text.now _ _ _ _ c.list_input.ensures
