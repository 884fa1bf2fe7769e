-- `put_simple`: its arguments stand at the front of the room for them. Assumes nothing.
use Rattle.program_text.specs.RowTexts.{too_many_lem, wrote_simple}
use Rattle.program_text.proofs.rows.put_simple.Goals as goal

pub returns-then-s-gt-MAX_ARGS : goal.returns-then-s-gt-MAX_ARGS
returns-then-s-gt-MAX_ARGS c = too_many_lem c.args.part.now c.args.s c.if-s-gt-MAX_ARGS.true

pub returns : goal.returns
returns c = wrote_simple c.args.part.now c.args.s c.put_stmt.ensures
