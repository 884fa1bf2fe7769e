-- `graph_of`: prepared, then wired; a graph with too many edges is refused. Assumes nothing.
use Rattle.std.proofs.Common.{◌≡◌, refl, true, false, rules}
use Rattle.std.specs.Prelude.{is_err}
use Rattle.wiring.specs.Found.{none_refused, one_refused}
use Rattle.wiring.specs.GraphOf.{made_graph, made_refused}
use Rattle.wiring.proofs.build.graph_of.Goals as goal

pub returns-else-is_err : goal.returns-else-is_err
returns-else-is_err c =
    let k = c.prepare.auto in
    let l = c.wire_graph-wired.auto in
    let x : is_err c.wire_graph-wired.result ≡ false = search rules in
    let e = none_refused c.wire_graph-wired.result x in
    rw e (made_graph c.requires c.prepare.ensures c.wire_graph-wired.ensures k.entries k.falls k.links l.lists l.returns l.succ l.pred e)

pub returns-then-is_err : goal.returns-then-is_err
returns-then-is_err c =
    let k = c.prepare.auto in
    let l = c.wire_graph-wired.auto in
    let x : is_err c.wire_graph-wired.result ≡ true = search rules in
    let e = one_refused c.wire_graph-wired.result x in
    rw e.1 (made_refused c.requires c.prepare.ensures c.wire_graph-wired.ensures k.entries k.falls k.links l.lists l.returns l.succ l.pred e.1 l.args refl c.clear_records.ensures c.clear_links.ensures c.clear_lists.ensures)
