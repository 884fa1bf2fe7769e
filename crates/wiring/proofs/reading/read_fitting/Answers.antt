-- `read_fitting`: the front parts as the reader leaves them, zeros behind. Assumes nothing.
use Rattle.reader.specs.Inputs.{is_program, bytes_of}
use Rattle.program_files.specs.Inputs.{meaning}
use Rattle.reader.specs.FileLoop.{input_within}
use Rattle.layout.specs.Zeroed.{cleared_behind, filled_behind_lem}
use Rattle.passes.specs.Reading.{fitting_read}
use Rattle.wiring.proofs.reading.read_fitting.Goals as goal

pub returns : goal.returns
unfolding cleared_behind
returns c = fitting_read (meaning (is_program c.args.input) (bytes_of c.args.input)) (input_within (is_program c.args.input) (bytes_of c.args.input)) c.args.line_room c.args.stmt_room c.args.lines.now c.args.stmts.now c.args.args.now c.requires.0 c.requires.1 c.requires.2 _ _ _ (filled_behind_lem 0 _ _ _ c.requires.0 (c.fill.ensures.after (λ y e. e))) (filled_behind_lem 0 _ _ _ c.requires.1 (c.fill-2.ensures.after (λ y e. e))) (filled_behind_lem 0 _ _ _ c.requires.2 (c.fill-3.ensures.after (λ y e. e))) _ _ _ _ _ c.read_input.ensures
