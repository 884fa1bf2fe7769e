-- `put_args`: those before v are there. Assumes nothing.
use Rattle.std.proofs.Common.{take}
use Rattle.formatting.specs.Pages.{Wrote}
use Rattle.program_text.specs.StmtText.{arg_texts}
use Rattle.program_text.proofs.statements.put_args.Given as goal

abbrev pub invariant-loop-v : goal.invariant-loop-v
invariant-loop-v l = Wrote l.initial.page l.page (arg_texts l.word (take l.v-index l.args))
