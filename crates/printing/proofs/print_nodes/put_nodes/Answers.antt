-- `put_nodes`: the rows of the nodes before i are there. Assumes nothing.
use Rattle.std.proofs.Common.{arith}
use Rattle.formatting.specs.Pages.{below-start, below_on}
use Rattle.printing.specs.FromGraph.{node_text_from}
use Rattle.printing.proofs.print_nodes.put_nodes.Goals as goal

pub loop-i-init : goal.loop-i-init
loop-i-init c = below-start (node_text_from c.args.g.now c.args.records.now) c.args.page.now

pub put_node-requires : goal.put_node-requires
put_node-requires c = (omega arith, c.requires)

pub loop-i-preserved : goal.loop-i-preserved
loop-i-preserved c = below_on (node_text_from c.args.g.now c.args.records.now) c.args.page.now c.loop-i.i c.loop-i.invariant c.put_node.ensures
