-- `compute_line_after`: line by line, from behind the last one. Assumes nothing.
use Rattle.std.proofs.Common.{arith}
use Rattle.passes.specs.LinePass.{pass_starts, pass_goes, pass_computes}
use Rattle.wiring.proofs.line_pass.compute_line_after.Goals as goal

pub loop-l-init : goal.loop-l-init
loop-l-init c = record { few = omega arith; passed = pass_starts _ _ _ _ }

pub loop-l-preserved : goal.loop-l-preserved
loop-l-preserved c =
    record {
      few = omega (arith, c.meet_line-met.ensures.few, c.loop-l.invariant.few);
      passed = pass_goes _ _ _ c.loop-l.l _ _ _ _ _ _ _ c.loop-l-test.true c.loop-l.invariant.passed c.meet_line-met.ensures.met;
    }

pub returns : goal.returns
returns c = pass_computes _ _ _ c.loop-l.l _ _ _ _ (omega arith) c.loop-l.invariant.passed
