-- `add_back`: the continuation, where the row has the entry. Assumes nothing.
use mathlib.Core.Path.{refl}
use Rattle.passes.specs.RegionLaws.{targets_row, back_yes, back_no}
use Rattle.walks.proofs.regions.add_back.Goals as goal

pub returns-else-holds : goal.returns-else-holds
returns-else-holds c =
    let g = c.args.g.now in
    let a = c.args in
    back_no g.records.stmts.now g.falls.now g.links.now a.e a.c _ _ c.holds.result refl
    (targets_row _ _ _ _ c.targets.ensures) c.holds.ensures _ c.if-holds.false

pub returns-then-holds : goal.returns-then-holds
returns-then-holds c =
    let g = c.args.g.now in
    let a = c.args in
    back_yes g.records.stmts.now g.falls.now g.links.now a.e a.c _ _ c.holds.result refl
    (targets_row _ _ _ _ c.targets.ensures) c.holds.ensures _ _ c.if-holds.true (rw c.fall.ensures at c.insert_some.ensures)
