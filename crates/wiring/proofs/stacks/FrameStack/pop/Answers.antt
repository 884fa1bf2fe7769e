-- `pop`: the highest mark is the newest frame. Assumes nothing.
use native.Mathlib.Omega.{arith}
use mathlib.Core.Path.{refl}
use Prim.Native.Nat.{suc}
use Rattle.std.proofs.Common.{sub-one}
use Rattle.passes.specs.FrameStackLaws.{pop_none, pop_some, pop_fits}
use Rattle.wiring.proofs.stacks.FrameStack.pop.Goals as goal

pub bounds-self-id : goal.bounds-self-id
bounds-self-id c =
    rw sub-one at (pop_fits c.args.self.words (suc c.in-Some.id) c.in-Some.ensures c.args.i c.requires.holds_below (omega arith)).0

pub bounds-self-id-in-Some : goal.bounds-self-id-in-Some
bounds-self-id-in-Some c =
    rw sub-one at (pop_fits c.args.self.words (suc c.in-Some.id) c.in-Some.ensures c.args.i c.requires.holds_below (omega arith)).0

pub overflow_sub-self : goal.overflow_sub-self
overflow_sub-self c =
    rw c.bit-b.ensures (rw sub-one at (pop_fits c.args.self.words (suc c.in-Some.id) c.in-Some.ensures c.args.i c.requires.holds_below (omega arith)).1)

pub returns-in-Some : goal.returns-in-Some
returns-in-Some c =
    (c.in-Some.ensures, rw sub-one at (pop_some c.args.self.words (suc c.in-Some.id) c.in-Some.ensures c.bit-b.result (omega arith) (rw sub-one c.bit-b.ensures)))

pub returns-in_default : goal.returns-in_default
returns-in_default c = (c.newest-frame.ensures, (pop_none c.args.self.words 0 c.in_default.ensures refl).1)
