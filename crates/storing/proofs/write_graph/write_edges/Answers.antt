-- `write_edges`: the predecessors follow from the lists as they were just written. Assumes nothing.
use Rattle.storing.specs.StoredGraph.{writes_ready, preds_ready, edges_inside, edges_stored}
use Rattle.std.proofs.Common.{arith, length-take-le}
use Rattle.storing.proofs.write_graph.write_edges.Goals as goal

pub write_lists-total-requires : goal.write_lists-total-requires
write_lists-total-requires c = writes_ready c.requires.read c.args.succ.now c.args.pred.now c.requires.fits

pub slice_bounds-write_predecessors-end : goal.slice_bounds-write_predecessors-end
slice_bounds-write_predecessors-end c = omega (arith, edges_inside c.requires.read c.args.succ.now c.args.pred.now c.requires.fits c.write_lists-total.ensures)

pub slice_bounds-write_predecessors-end-2 : goal.slice_bounds-write_predecessors-end-2
slice_bounds-write_predecessors-end-2 c =
    let h = edges_inside c.requires.read c.args.succ.now c.args.pred.now c.requires.fits c.write_lists-total.ensures in
    omega (arith, h, length-take-le c.write_lists-total.result c.write_lists-total.new.succ h)

pub write_predecessors-requires : goal.write_predecessors-requires
write_predecessors-requires c = preds_ready c.requires.read c.args.succ.now c.args.pred.now c.requires.fits c.write_lists-total.ensures

pub returns : goal.returns
returns c = edges_stored c.requires.read c.args.succ.now c.args.pred.now c.requires.fits c.write_lists-total.ensures c.write_predecessors.ensures
