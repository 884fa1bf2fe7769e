-- `return_edges_by_rows`: the rows of RETURNs are cleared, all closed, and the regions joined. Assumes nothing.
use mathlib.Core.Path.{sym}
use native.Mathlib.Omega.{arith}
use Rattle.passes.specs.Connecting.{no}
use Rattle.passes.specs.WalkTables.{calls_read, calls_sets}
use Rattle.passes.specs.ByRowsLaws.{sets_by_rows}
use Rattle.walks.proofs.by_rows.return_edges_by_rows.Goals as goal

pub clear_returns-requires : goal.clear_returns-requires
clear_returns-requires c =
    let a = c.args in
    let t = c.in-Some.ensures in
    omega (arith, t.1.count_is, calls_sets a.stmts.now a.falls.now a.links.now a.n a.rows.now t.0)

pub close_rows-requires : goal.close_rows-requires
close_rows-requires c =
    let a = c.args in
    let t = c.in-Some.ensures in
    ((calls_read a.stmts.now a.falls.now a.links.now a.n a.rows.now t.0).few, omega (arith, c.clear_returns.ensures.size, calls_sets a.stmts.now a.falls.now a.links.now a.n a.rows.now t.0))

pub join_regions_by_rows-requires : goal.join_regions_by_rows-requires
join_regions_by_rows-requires c =
    let a = c.args in
    let t = c.in-Some.ensures in
    rw (t.1.stmts_are, t.1.falls_are, t.1.links_are, t.1.count_is) (calls_read a.stmts.now a.falls.now a.links.now a.n a.rows.now t.0, omega (arith, c.close_rows.ensures.size, c.clear_returns.ensures.size, calls_sets a.stmts.now a.falls.now a.links.now a.n a.rows.now t.0))

pub returns : goal.returns
returns c =
    let a = c.args in
    let t = c.in-Some.ensures in
    let cleared = rw (t.1.stmts_are, t.1.count_is) at c.clear_returns.ensures in
    let joined = rw (t.1.stmts_are, t.1.falls_are, t.1.links_are, t.1.count_is) at c.join_regions_by_rows.ensures in
    record {
      answer = sym t.0;
      refused = λ e. no e;
      found = λ e. sets_by_rows a.stmts.now a.falls.now a.links.now a.n a.rows.now _ _ (calls_sets a.stmts.now a.falls.now a.links.now a.n a.rows.now t.0) cleared c.close_rows.ensures _ (calls_read a.stmts.now a.falls.now a.links.now a.n a.rows.now t.0) joined;
    }
