-- `seek`: what is left to look at starts at t. Assumes nothing.
use Prim.Native.Nat.{◌/◌, ◌≤◌}
use lib.ListN.{length}
use Rattle.passes.specs.ForStackLaws.{Seeking}
use Rattle.tables.specs.OneMore.{one_more}
use Rattle.wiring.proofs.fors.Fors.seek.Given as goal

abbrev pub invariant-loop-t : goal.invariant-loop-t
invariant-loop-t l = (one_more l.t ≤ length l.self.args.now / 64) × (one_more l.t ≤ 4096) × Seeking l.self.args.now l.v l.self.stack.words (one_more l.t)

abbrev pub decreases-loop-t : goal.decreases-loop-t
decreases-loop-t l = one_more l.t
