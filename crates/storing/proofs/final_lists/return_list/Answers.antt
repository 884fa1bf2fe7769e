-- `return_list`: the return targets, or the members of the set in its row. Assumes nothing.
use native.Mathlib.Omega.{arith}
use Rattle.storing.specs.FinalLists.{back_done}
use Rattle.storing.proofs.final_lists.return_list.Goals as goal

pub returns : goal.returns
returns c =
    let s = c.args.source.now in
    (back_done s.handlers c.args.args.now c.args.i s.returns.now s.targets c.if-source.false c.requires.1 (rw c.set_at.ensures.is_set at c.members-n.ensures) (omega (arith, c.requires.2, c.told-buffer))).1
