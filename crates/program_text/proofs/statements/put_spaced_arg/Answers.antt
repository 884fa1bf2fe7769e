-- `put_spaced_arg`: the two pieces. Assumes nothing.
use Rattle.formatting.specs.Pages.{wrote_both}
use Rattle.program_text.proofs.statements.put_spaced_arg.Goals as goal

pub returns : goal.returns
returns c = wrote_both c.put_byte.ensures c.put_arg.ensures
