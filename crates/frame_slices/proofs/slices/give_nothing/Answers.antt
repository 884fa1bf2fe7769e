-- `give_nothing`: the slice is all zero. Assumes nothing.
use Rattle.std.proofs.Common.{rules}
use Rattle.frame_slices.specs.FrameSlice.{answered-none}
use Rattle.frame_slices.proofs.slices.give_nothing.Goals as goal

pub returns : goal.returns
returns c = answered-none c.args.out.now c.fill.new.self (search rules)
