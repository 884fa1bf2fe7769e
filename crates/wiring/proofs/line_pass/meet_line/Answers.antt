-- `meet_line`: the line's statements are found, and its row is put. Assumes nothing.
use Rattle.std.proofs.Common.{arith}
use Rattle.passes.specs.LinePass.{step_met}
use Rattle.wiring.proofs.line_pass.meet_line.Goals as goal

pub returns-clause-met : goal.returns-clause-met
returns-clause-met c ls t lh sh f = step_met _ _ _ _ _ c.target_of-next.result lh sh (omega arith) f c.start_of-first.ensures c.target_of-next.ensures
