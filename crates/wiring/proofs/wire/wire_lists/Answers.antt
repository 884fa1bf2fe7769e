-- `wire_lists`: counted, then written where the edges fit. Assumes nothing.
use mathlib.Core.Path.{refl}
use native.Mathlib.Omega.{arith}
use Rattle.wiring.specs.WireLaws.{ready_count, wired_yes, wired_no}
use Rattle.wiring.proofs.wire.wire_lists.Goals as goal

pub count_graph-c-requires : goal.count_graph-c-requires
count_graph-c-requires c = ready_count c.requires.wire_ready c.requires.frames_made _ 36864 c.all_of-scratch.ensures refl

pub returns-then-edges_fit : goal.returns-then-edges_fit
returns-then-edges_fit c = wired_yes c.count_graph-c.ensures c.requires.frames_made c.edges_fit.result c.edges_fit.ensures c.if-edges_fit.true c.write_graph.auto.succ c.write_graph.auto.pred (omega (arith, c.requires.wire_ready.lists_fit, c.count_graph-c.auto.lists)) c.write_graph.ensures

pub returns : goal.returns
returns c = wired_no c.count_graph-c.ensures c.requires.frames_made c.edges_fit.result c.at.result c.edges_fit.ensures c.if-edges_fit.false c.at.ensures
