-- `seek`: what is left to look at starts at t. Assumes nothing.
use native.Mathlib.Omega.{arith}
use mathlib.Core.Path.{refl}
use Prim.Native.Nat.{suc}
use Rattle.std.proofs.Common.{sub-one}
use Rattle.passes.specs.FrameStackLaws.{top_le}
use Rattle.passes.specs.ForStackLaws.{open_few, seek-start, seek-none, seek_here, seek_on}
use Rattle.wiring.proofs.fors.Fors.seek.Goals as goal

pub loop-t-init : goal.loop-t-init
loop-t-init c = (
  top_le _ _ _ c.requires.holds_below c.requires.top_value,
  top_le _ _ _ (open_few c.requires.holds_below) c.requires.top_value,
  seek-start c.args.self.now.args.now c.args.v c.args.self.now.stack.words _ c.requires.top_value,
)

pub returns-then-self-k : goal.returns-then-self-k
returns-then-self-k c =
    seek_here _ _ _ (suc c.in-Some.k) (rw c.in-Some.is at c.loop-t.invariant.2) (omega arith) (rw sub-one c.if-self-k.true)

pub loop-t-preserved : goal.loop-t-preserved
loop-t-preserved c =
    let i = rw c.in-Some.is at c.loop-t.invariant in (
      omega (arith, c.below-t.ensures.0, i.0),
      omega (arith, c.below-t.ensures.0, i.1),
      seek_on _ _ _ (suc c.in-Some.k) i.2 (omega arith) (rw sub-one c.if-self-k.false) _ (rw sub-one c.below-t.ensures.1),
    )

pub returns : goal.returns
returns c = seek-none _ _ _ 0 (rw c.in_default.is at c.loop-t.invariant.2) refl
