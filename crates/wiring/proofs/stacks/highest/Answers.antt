-- `highest`: the words from q on are passed over. Assumes nothing.
use Rattle.passes.specs.FrameStackLaws.{search_here, search_on, search_end}
use Rattle.wiring.specs.FrameWords.{height_is, height_some}
use native.Mathlib.Omega.{arith}
use Rattle.wiring.proofs.stacks.highest.Goals as goal

pub returns-in-Some : goal.returns-in-Some
returns-in-Some c =
    let l = c.loop-q in
    let e = c.in-Some.ensures in
    omega (arith, search_here _ _ l.q _ c.loop-q-test.true (height_some _ _ e.power_le) (height_is _ _ e.bound e.power_le e.next_power_gt) l.invariant)

pub loop-q-preserved : goal.loop-q-preserved
loop-q-preserved c =
    let l = c.loop-q in
    let s = c.args in
    search_on s.words.now s.n l.q c.loop-q-test.true c.in_default.ensures.none l.invariant

pub returns : goal.returns
returns c = let l = c.loop-q in search_end _ _ l.q (omega arith) l.invariant
