-- `return_edges_by_filled_rows`: the rows are filled, then closed. Assumes nothing.
use Rattle.passes.specs.ByRowsLaws.{by_rows_to}
use Rattle.wiring.specs.FromLeads.{frames_of}
use Rattle.wiring.proofs.by_rows.return_edges_by_filled_rows.Goals as goal

pub returns : goal.returns
returns c = by_rows_to c.args.g.now.nodes.records.stmts.now c.args.args.now c.args.g.now.entries.rows.now c.args.g.now.nodes.falls.now c.args.g.now.nodes.links.now (frames_of c.args.g.now) c.args.g.now.dispatched.now c.args.g.now.entries.count c.args.g.now.nodes.records.n _ c.requires _ _ c.fill_rows.ensures c.return_edges_by_rows.result c.return_edges_by_rows.ensures
