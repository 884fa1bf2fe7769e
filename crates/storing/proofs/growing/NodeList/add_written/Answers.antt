-- `add_written`: the targets, and then where an ON falls. Assumes nothing.
use Rattle.passes.specs.NodeListLaws.{jump_only, jump_falls}
use Rattle.storing.specs.NodeLists.{added_both, added_as}
use Rattle.storing.proofs.growing.NodeList.add_written.Goals as goal

pub returns-then-stmts-i-lt-ONGOTO : goal.returns-then-stmts-i-lt-ONGOTO
returns-then-stmts-i-lt-ONGOTO c =
    let a = c.args in
    added_as (jump_only a.stmts.now a.falls.now a.links.now a.i c.from.result c.from.ensures c.if-stmts-i-lt-ONGOTO.true) c.add_targets.ensures

pub returns : goal.returns
returns c =
    let a = c.args in
    added_as (jump_falls a.stmts.now a.falls.now a.links.now a.i c.from.result c.from.ensures c.if-stmts-i-lt-ONGOTO.false) (added_both c.add_targets.ensures c.add_edge.ensures)
