-- `put_members`: those in the first q words are put. Assumes nothing.
use mathlib.Core.Path.{refl, ◌∙◌}
use native.Mathlib.Omega.{arith}
use Rattle.passes.specs.SetLaws.{set-none, set_room, set_put, set_end}
use Rattle.walks.proofs.sets.put_members.Goals as goal

pub loop-q-init : goal.loop-q-init
loop-q-init c = (refl, set-none _ _)

pub put_word-n-requires : goal.put_word-n-requires
put_word-n-requires c =
    let r = set_room c.args.set.now c.loop-q.q (omega arith) in
    (omega arith, omega (arith, r, c.loop-q.invariant.1.count, c.loop-q.invariant.0, c.requires))

pub loop-q-preserved : goal.loop-q-preserved
loop-q-preserved c = (c.put_word-n.auto.part ∙ c.loop-q.invariant.0, set_put c.args.set.now c.loop-q.q c.args.part.now c.loop-q.part c.put_word-n.new.part 0 c.loop-q.n c.put_word-n.result c.loop-q.invariant.1 c.put_word-n.ensures)

pub returns : goal.returns
returns c = rw (set_end c.args.set.now c.loop-q.q (omega arith)) at c.loop-q.invariant.1
