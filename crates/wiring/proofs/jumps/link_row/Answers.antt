-- `link_row`: the first j arguments are linked. Assumes nothing.
use native.Mathlib.Omega.{arith}
use Rattle.passes.specs.JumpLaws.{link_step}
use Rattle.wiring.proofs.jumps.link_row.Goals as goal

pub loop-j-preserved : goal.loop-j-preserved
loop-j-preserved c = λ es et. link_step es c.args.args.now _ _ c.loop-j.j _ (omega (arith, c.loop-j-test.true, c.requires)) (c.entry_of_argument.ensures es et) (c.loop-j.invariant es et)
