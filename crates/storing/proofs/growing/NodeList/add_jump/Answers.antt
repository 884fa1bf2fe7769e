-- `add_jump`: the jump where it can be read, else nothing. Assumes nothing.
use Rattle.std.proofs.Common.{sym, ◌∙◌}
use Rattle.storing.specs.AddWithin.{jump_none}
use Rattle.storing.specs.NodeLists.{added_none, added_as}
use Rattle.storing.proofs.growing.NodeList.add_jump.Goals as goal

pub returns-else-jump_readable : goal.returns-else-jump_readable
returns-else-jump_readable c =
    let a = c.args in
    added_as (sym (jump_none a.stmts.now a.falls.now a.links.now a.i (sym c.jump_readable.ensures ∙ c.if-jump_readable.false))) (added_none _)
