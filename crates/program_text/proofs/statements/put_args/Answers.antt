-- `put_args`: those before v are there. Assumes nothing.
use Rattle.std.proofs.Common.{◌∷◌}
use Rattle.formatting.specs.Pages.{each_start, each_on}
use Rattle.program_text.specs.StmtText.{arg_text, arg_texts}
use Rattle.program_text.proofs.statements.put_args.Goals as goal

pub loop-v-init : goal.loop-v-init
unfolding arg_texts
loop-v-init c = each_start (λ v. 32 ∷ arg_text c.args.word v) c.args.args.now _

pub loop-v-preserved : goal.loop-v-preserved
unfolding arg_texts
loop-v-preserved c = each_on (λ v. 32 ∷ arg_text c.args.word v) c.args.args.now _ c.loop-v.v-index c.loop-v-test.true c.loop-v.invariant c.put_spaced_arg.ensures
