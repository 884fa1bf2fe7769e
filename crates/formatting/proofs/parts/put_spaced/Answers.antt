-- `put_spaced`: the first numbers are there. Assumes nothing.
use Rattle.std.proofs.Common.{arith, rules, refl}
use Rattle.graph.specs.Lists.{each}
use Rattle.graph.specs.Print.{spaced}
use Rattle.formatting.specs.Printing.{puts_none, number_next}
use Rattle.formatting.proofs.parts.put_spaced.Goals as goal

pub loop-x-init : goal.loop-x-init
unfolding spaced each
loop-x-init c = (omega arith, refl, puts_none c.args.part.now c.args.at)

pub loop-x-preserved : goal.loop-x-preserved
loop-x-preserved c = (omega arith, search rules, number_next c.args.list.now c.loop-x.x-index (omega arith) _ c.from.ensures c.loop-x.invariant.2 c.put_number-next.ensures)
