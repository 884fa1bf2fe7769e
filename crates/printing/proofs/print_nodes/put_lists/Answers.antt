-- `put_lists`: the parts that the successors and the predecessors are. Assumes nothing.
use mathlib.Core.Path.{◌∙◌}
use Rattle.listings.specs.Bytes.{bytes}
use Rattle.adjacency.specs.ListsAtLaws.{successors_part, predecessors_part}
use Rattle.printing.specs.PrintedTables.{wrote_lists}
use Rattle.printing.proofs.print_nodes.put_lists.Goals as goal

pub returns : goal.returns
unfolding bytes
returns c =
    let g = c.args.g.now in
    wrote_lists g.lists.now g.succ.now g.pred.now c.args.i _ _ (c.successors-own.ensures ∙ successors_part g.counts.now g.lists.now g.succ.now c.args.i c.requires.0 c.requires.1 c.requires.2) (c.predecessors-before.ensures ∙ predecessors_part g.counts.now g.lists.now g.pred.now c.args.i c.requires.0 c.requires.1 c.requires.3) c.put_list.ensures c.put_list-2.ensures c.put_bytes.ensures
