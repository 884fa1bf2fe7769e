-- `add_run`: the first line's entry, or the target. Assumes nothing.
use Rattle.std.proofs.Common.{◌≡◌, ◌+◌, ◌-◌, ◌*◌, arith}
use Rattle.passes.specs.NodeListLaws.{run-first, run_target}
use Rattle.storing.specs.NodeLists.{added_as}
use Rattle.wiring.proofs.list_of.add_run.Goals as goal

pub returns-then-count-eq0 : goal.returns-then-count-eq0
returns-then-count-eq0 c = added_as (run-first _ _ _ _ _ _ c.count.ensures c.if-count-eq0.true) c.add_first.ensures

pub returns : goal.returns
returns c =
    let i = c.args.i in
    let n = c.count.result in
    let z : i * 64 + n - i * 64 ≡ n = omega arith in
    let e = rw z at (run_target c.args.g.now.nodes.records.stmts.now c.args.g.now.entries.rows.now c.args.g.now.nodes.links.now c.args.g.now.entries.count i n c.count.ensures c.if-count-eq0.false) in
    added_as e (rw (c.targets.ensures, ← c.count.ensures) at c.add_targets.ensures)
