-- `join`: the first q words are joined. Assumes nothing.
use mathlib.Core.Path.{refl, ◌∙◌}
use native.Mathlib.Omega.{arith}
use lib.ListN.{length-set}
use Rattle.passes.specs.SetLaws.{joined-none, joined_more, joined_end}
use Rattle.walks.proofs.sets.join.Goals as goal

pub loop-q-init : goal.loop-q-init
loop-q-init c = (refl, joined-none _ _)

pub loop-q-preserved : goal.loop-q-preserved
loop-q-preserved c =
    let l = c.loop-q in
    (length-set l.set l.q _ ∙ l.invariant.0, joined_more c.args.set.now c.args.more.now l.set l.q _ l.invariant.1 refl)

pub returns : goal.returns
returns c = c.loop-q.invariant.1 ∙ joined_end _ _ _ (omega arith)
