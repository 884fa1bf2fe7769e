-- `add_selected`: the body, or nothing. Assumes nothing.
use Rattle.std.proofs.Common.{sym, ◌∙◌}
use Rattle.passes.specs.NextBodies.{for_fit, for_selected, for_left_out}
use Rattle.storing.specs.NodeLists.{grew_by, grew_one, grew_same}
use Rattle.wiring.proofs.nexts.add_selected.Goals as goal

pub returns-then-selects : goal.returns-then-selects
returns-then-selects c =
    let a = c.args in
    let g = grew_one (for_fit a.args.now a.g.now.nodes.falls.now _ _ a.key a.o _ c.from-k.ensures c.requires) (rw (c.fall.ensures) at c.add_edge.ensures) in
    grew_by (for_selected a.args.now a.g.now.nodes.falls.now _ _ a.key a.o _ c.from-k.ensures _ _ (sym c.selects.ensures ∙ c.if-selects.true)) g

pub returns-else-selects : goal.returns-else-selects
returns-else-selects c =
    let a = c.args in
    grew_same (for_left_out a.args.now a.g.now.nodes.falls.now _ _ a.key a.o _ c.from-k.ensures (sym c.selects.ensures ∙ c.if-selects.false))
