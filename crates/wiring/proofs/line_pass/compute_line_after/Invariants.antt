-- `compute_line_after`: the lines from l on are met. Assumes nothing.
use Rattle.std.proofs.Common.{◌≤◌}
use Rattle.passes.specs.LinePass.{PassedTo}
use Rattle.wiring.proofs.line_pass.compute_line_after.Given as goal

abbrev pub invariant-loop-l : goal.invariant-loop-l
invariant-loop-l l =
    record {
      few : l.met.from ≤ l.r.n;
      passed : PassedTo l.lines l.r.stmts.now l.r.n l.l l.met.from l.met.next l.initial.entries l.entries;
    }
