-- `write_fitting`: counted, then written where the edges fit. Assumes nothing.
use Rattle.storing.specs.StoredGraph.{counted, fits_all, answered-fits, answered_many, nothing}
use Rattle.storing.proofs.write_graph.write_fitting.Goals as goal

pub write_tables-requires : goal.write_tables-requires
write_tables-requires c =
    let e = counted c.requires c.count_lists-edges.result c.count_lists-edges.ensures in
    record { read = c.requires; fits = fits_all _ _ _ _ e c.edges_fit.result c.edges_fit.ensures c.if-not-edges_fit.false }

pub returns : goal.returns
returns c =
    let e = counted c.requires c.count_lists-edges.result c.count_lists-edges.ensures in
    record { answer = answered-fits _ _ _ _ e c.edges_fit.result c.edges_fit.ensures c.if-not-edges_fit.false; tables = c.write_tables.ensures }

pub returns-then-not-edges_fit : goal.returns-then-not-edges_fit
returns-then-not-edges_fit c =
    let e = counted c.requires c.count_lists-edges.result c.count_lists-edges.ensures in
    record { answer = answered_many _ _ _ _ e c.edges_fit.result c.edges_fit.ensures c.at.ensures c.if-not-edges_fit.true; tables = nothing _ _ _ _ _ }
