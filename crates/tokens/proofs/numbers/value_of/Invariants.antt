-- `value_of`: v is the value of the digits read so far; once it is above 65535 the whole is. Assumes nothing.
use mathlib.Core.Path.{◌≡◌}
use Prim.Native.Nat.{◌≤◌}
use lib.ListN.{drop}
use Rattle.listings.specs.Rows.{value}
use Rattle.tokens.proofs.numbers.value_of.Given as goal

abbrev pub invariant-loop-b : goal.invariant-loop-b
invariant-loop-b l = (l.v ≤ 65535) × (value l.v (drop l.b-index l.w) ≡ value 0 l.w)
