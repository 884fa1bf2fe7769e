-- `put_arg`: a name or a number, by the word. Assumes nothing.
use Rattle.std.proofs.Common.{arith}
use Rattle.std.proofs.Math.Decide.{dec_le}
use Rattle.formatting.specs.Pages.{wrote_is}
use Rattle.program_text.specs.StmtText.{arg_for, arg_next, arg_number}
use Rattle.program_text.proofs.statements.put_arg.Goals as goal

pub returns-in-13 : goal.returns-in-13
returns-in-13 c = elim (dec_le c.args.word 13) [
  | yes h ↦ wrote_is (arg_for c.args.word c.args.v (omega arith)) c.put_slot.ensures
  | no h ↦ wrote_is (arg_next c.args.word c.args.v (omega arith)) c.put_slot.ensures
]

pub returns-in_default : goal.returns-in_default
returns-in_default c = wrote_is (arg_number c.args.word c.args.v (grind arith) (grind arith)) c.put_decimal.ensures
