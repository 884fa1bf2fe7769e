-- `write_lists`: the lists of the first i nodes are written, and the rows of the others are as they were. Assumes
-- nothing.
use native.Mathlib.Omega.{arith}
use Rattle.storing.specs.FinalLists.{writes_none, turn_ready, turn_done}
use Rattle.storing.specs.FromSource.{list_from}
use Rattle.storing.proofs.final_lists.write_lists.Goals as goal

pub loop-i-init : goal.loop-i-init
loop-i-init c =
    let a = c.args in
    writes_none (list_from a.source.now a.args.now a.lists.now) a.lists.now a.succ.now

pub write_list-at-requires : goal.write_list-at-requires
write_list-at-requires c = (omega arith, turn_ready c.requires c.loop-i.invariant (omega arith) _ c.loop-i.auto.lists c.loop-i.auto.succ)

pub loop-i-preserved : goal.loop-i-preserved
loop-i-preserved c = turn_done c.requires c.loop-i.invariant (omega arith) c.write_list-at.ensures
