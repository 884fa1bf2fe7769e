-- `below`: the highest mark that is left in the word of id, or in the words under it. Assumes nothing.
use borrow.Author.Rules.{rules}
use native.Mathlib.Omega.{arith}
use mathlib.Core.Path.{◌≡◌}
use lib.ListN.{length}
use Prim.Native.Nat.{◌+◌, ◌/◌}
use Rattle.passes.specs.FrameStackLaws.{below_here, below_on, below-le, highest_le}
use Rattle.wiring.specs.FrameWords.{height_is, height_some}
use Rattle.wiring.proofs.stacks.FrameStack.below.Goals as goal

pub returns-in-Some : goal.returns-in-Some
returns-in-Some c =
    let size : length c.args.self.now.words ≡ 64 = search rules in
    let b = c.bit-b in
    let e = c.in-Some.ensures in
    let z = height_some _ _ e.power_le in
    let h = height_is _ _ e.bound e.power_le e.next_power_gt in (
      omega (arith, below-le c.args.self.now.words c.args.id size c.requires b.result b.ensures (c.in-Some.h + 1) z h),
      omega (arith, below_here c.args.self.now.words c.args.id size c.requires b.result b.ensures (c.in-Some.h + 1) z h),
    )

pub returns-in-None : goal.returns-in-None
returns-in-None c =
    let size : length c.args.self.now.words ≡ 64 = search rules in
    let b = c.bit-b in (
      omega (arith, c.highest.ensures, highest_le c.args.self.now.words (c.args.id / 64)),
      below_on c.args.self.now.words c.args.id size c.requires b.result b.ensures _ c.in-None.ensures.none c.highest.ensures,
    )
