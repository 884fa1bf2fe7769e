-- `list_input`: the tables suffice at all limits, and so does the room for the graph. Assumes nothing.
use Rattle.reader.specs.Inputs.{is_program, bytes_of}
use borrow.Author.Rules.{rules}
use Rattle.printing.specs.Limits.{input_limits}
use Rattle.at_limits.proofs.list.list_input.Goals as goal

pub returns : goal.returns
returns c =
    input_limits (is_program c.args.input) (bytes_of c.args.input) _ _ _ _ _ _ _ _ _ _ _ _ _ _ _ _
    (search rules) (search rules) (search rules) (search rules) (search rules) (search rules) (search rules) (search rules) (search rules) (search rules) (search rules)
    c.list_input.ensures
