-- `count_lists`: the sizes of the first i nodes. Assumes nothing.
use native.Mathlib.Omega.{arith}
use Rattle.passes.specs.Counting.{sum_next}
use Rattle.storing.specs.FinalLists.{sized_turn, total-none}
use Rattle.storing.specs.FromSource.{size_from}
use Rattle.storing.proofs.edge_count.count_lists.Goals as goal

pub loop-i-init : goal.loop-i-init
loop-i-init c = (total-none _, omega arith)

pub list_size-sum-requires : goal.list_size-sum-requires
list_size-sum-requires c = (omega arith, sized_turn c.requires c.loop-i.i (omega arith))

pub loop-i-preserved : goal.loop-i-preserved
loop-i-preserved c =
    let f = size_from c.args.source.now c.args.args.now c.args.lists.now in
    (omega (arith, c.loop-i.invariant.0, c.list_size-sum.ensures.0, sum_next f c.loop-i.i), omega (arith, c.loop-i.invariant.1, c.list_size-sum.ensures.1))
