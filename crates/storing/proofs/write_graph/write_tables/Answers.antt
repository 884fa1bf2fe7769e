-- `write_tables`: the lists, then the arguments as read, then the counts. Assumes nothing.
use Rattle.storing.specs.StoredGraph.{graph_stored}
use Rattle.storing.proofs.write_graph.write_tables.Goals as goal

pub returns : goal.returns
returns c = graph_stored c.requires.read c.args.succ.now c.args.pred.now c.requires.fits c.write_edges-total.ensures c.clear_sets.ensures c.put_edge_counts.ensures
