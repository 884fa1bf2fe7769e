-- `list_program`: the rows, or the refusal. Assumes nothing.
use Rattle.formatting.specs.Printing.{puts_is}
use Rattle.program_text.specs.RowTexts.{accepted_prints, accepted_text, refused_text}
use Rattle.program_text.proofs.program.list_program.Goals as goal

pub put_rows-requires : goal.put_rows-requires
put_rows-requires c = accepted_prints c.args.file.now _ c.judge_program.ensures _ c.in-Ok.is

pub returns-in-Err : goal.returns-in-Err
returns-in-Err c = puts_is (refused_text c.args.file.now _ c.judge_program.ensures _ c.in-Err.is) c.print_refusal.ensures

pub returns-in-Ok : goal.returns-in-Ok
returns-in-Ok c = puts_is (accepted_text c.args.file.now _ c.judge_program.ensures _ c.in-Ok.is) c.put_rows.ensures
