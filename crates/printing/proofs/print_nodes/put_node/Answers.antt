-- `put_node`: the four pieces of the row. Assumes nothing.
use native.Mathlib.Omega.{arith}
use Rattle.std.proofs.Common.{◌<◌}
use Rattle.printing.specs.FromGraph.{nodes_from}
use Rattle.printing.specs.PrintedTables.{wrote_node}
use Rattle.printing.proofs.print_nodes.put_node.Goals as goal

pub bounds-g-line : goal.bounds-g-line
bounds-g-line c =
    let h : c.args.i < nodes_from c.args.g.now = omega (arith, c.requires.0, c.requires.1.0) in
    omega (arith, c.requires.1.1.numbered c.args.i h, c.line-line.ensures)

pub put_lists-requires : goal.put_lists-requires
put_lists-requires c =
    let p = c.requires.1.1 in
    let i = c.args.i in
    let h : i < nodes_from c.args.g.now = omega (arith, c.requires.0, c.requires.1.0) in
    (h, p.rows, p.succ_in i h, p.pred_in i h)

pub returns : goal.returns
returns c = let g = c.args.g.now in wrote_node g.lines.now c.args.records.now.stmts.now g.lists.now g.succ.now g.pred.now c.args.i _ _ c.line-line.ensures c.from.ensures c.put_head.ensures c.put_path.ensures c.put_holder.ensures c.put_lists.ensures
