-- `write_graph`: from a source, where there is one. Assumes nothing.
use mathlib.Core.Path.{sym}
use Rattle.std.proofs.Common.{◌≡◌, rules}
use Rattle.std.specs.Prelude.{Err}
use Rattle.storing.specs.StoredGraph.{answered-outside, answered_as, nothing}
use Rattle.storing.specs.FromSource.{read_from, answered_from}
use Rattle.storing.proofs.write_graph.write_graph.Goals as goal

pub write_fitting-requires : goal.write_fitting-requires
write_fitting-requires c =
    let t = rw c.in_ok-source.was at c.source_of.ensures in
    read_from t.0 t.1

pub returns : goal.returns
returns c =
    let t = rw c.in_ok-source.was at c.source_of.ensures in
    answered_from t.0 t.1 c.write_fitting.ensures

pub returns-in_err-source : goal.returns-in_err-source
returns-in_err-source c =
    let t = rw c.in_err-source.was at c.source_of.ensures in
    let e : c.from_residual.result ≡ Err c.in_err-source.field-0.0 = search rules in
    rw e (answered_as (sym t.0) (record { answer = answered-outside _ _ t.1; tables = nothing _ _ _ _ _ }))
