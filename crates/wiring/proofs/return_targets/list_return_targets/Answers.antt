-- `list_return_targets`: at first there is no mark and no target. Assumes nothing.
use Rattle.std.proofs.Common.{rules, subst, ℕ, List}
use Rattle.passes.specs.ReturnTargets.{marking_none, TargetsListed}
use Rattle.wiring.proofs.return_targets.list_return_targets.Goals as goal

pub put_targets-requires-clause-marking : goal.put_targets-requires-clause-marking
put_targets-requires-clause-marking c = rw c.new-list.ensures.empty.1 (marking_none 4096 c.no_marks-marks.result c.new-list.result.part.now c.no_marks-marks.ensures)

pub returns : goal.returns
returns c =
    let m = rw c.new-list.ensures.empty.0 at c.put_targets.ensures.is in
    rw c.len.ensures (subst (λ (z : List ℕ). TargetsListed c.args.g.now.nodes.records.stmts.now c.args.g.now.nodes.falls.now c.args.g.now.nodes.records.n c.args.returns.now z c.put_targets.new.list.n) (search rules) m)
