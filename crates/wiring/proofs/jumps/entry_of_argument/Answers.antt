-- `entry_of_argument`: no line has a number above 65535. Assumes nothing.
use Prim.Native.Nat.{◌<◌}
use native.Mathlib.Omega.{arith}
use Rattle.passes.specs.JumpLaws.{large_number}
use Rattle.wiring.proofs.jumps.entry_of_argument.Goals as goal

pub returns-in-Err : goal.returns-in-Err
returns-in-Err c = let h : c.args.number < 65536 → ⊥ = c.in-Err.ensures in large_number _ _ _ (omega (arith, h))
