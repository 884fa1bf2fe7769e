-- `print_graph`: the rows are those of the tables, so those of the graph that they hold. Assumes nothing.
use lib.ListN.{get_or, take}
use Rattle.std.proofs.Common.{arith, ap, ℕ}
use Rattle.graph.specs.Lists.{each, below}
use Rattle.listings.specs.Bytes.{bytes}
use Rattle.formatting.specs.Pages.{wrote_is}
use Rattle.passes.specs.GraphReads.{nodes_readable}
use Rattle.printing.specs.PrintedTables.{node_text, back_text}
use Rattle.printing.specs.PrintLaws.{graph_text_lem, wrote_graph}
use Rattle.printing.proofs.print.print_graph.Goals as goal

pub put_nodes-requires : goal.put_nodes-requires
put_nodes-requires c = (c.nodes-n.ensures.0, nodes_readable c.requires.1)

pub put_entries-requires : goal.put_entries-requires
put_entries-requires c = omega (arith, c.requires.1.entries_fit)

pub put_returns-requires : goal.put_returns-requires
put_returns-requires c = omega (arith, c.requires.1.returns_fit)

pub put_backs-requires : goal.put_backs-requires
put_backs-requires c = omega (arith, c.requires.1.falls_fit, c.nodes-n.ensures.0)

pub returns : goal.returns
unfolding bytes
returns c = λ L g.
    let t = c.args.g.now in
    let n = c.nodes-n.ensures.0 in
    wrote_is (graph_text_lem g)
    (wrote_graph (get_or t.counts.now 1 0) (take (get_or t.counts.now 4 0) t.returns.now) (rw n at c.put_pair.ensures) c.put_bytes.ensures
    (wrote_is (ap (λ (x : ℕ). each (node_text t.lines.now t.stmts.now t.lists.now t.succ.now t.pred.now) (below x)) n) c.put_nodes.ensures)
    (rw c.rows.ensures.0 at c.put_entries.ensures) (rw c.targets.ensures.0 at c.put_returns.ensures)
    (wrote_is (ap (λ (x : ℕ). each (back_text t.stmts.now t.falls.now) (below x)) n) c.put_backs.ensures) c.put_bytes-2.ensures)
