-- Each entry met has the value. Assumes nothing.
use Rattle.std.proofs.Common.{arith, add-one}
use Rattle.layout.specs.Zeroed.{filled_next}
use Rattle.layout.proofs.zeroing.fill_behind.Goals as goal

pub loop-x-preserved : goal.loop-x-preserved
loop-x-preserved g c = (omega arith, rw (c.loop-x.invariant.1, add-one) (filled_next c.args.value _ c.loop-x.x-index (omega arith)))
