-- `entry_of`: the node in the row found. Assumes nothing.
use Prim.Native.Nat.{suc}
use mathlib.Core.Path.{refl}
use Rattle.std.proofs.Common.{sub-one}
use native.Mathlib.Omega.{arith}
use Rattle.passes.specs.LineSearch.{entry_none, entry_some}
use Rattle.wiring.proofs.entries.Entries.entry_of.Goals as goal

pub returns-in-None : goal.returns-in-None
returns-in-None c = entry_none c.args.self.now.rows.now c.args.self.now.count c.args.number 0 c.in-None.ensures.found refl

pub returns-in-Some : goal.returns-in-Some
returns-in-Some c =
    rw c.node.ensures (rw sub-one at (entry_some c.args.self.now.rows.now c.args.self.now.count c.args.number (suc c.in-Some.k) c.in-Some.ensures.found (omega arith)))
