-- `store_kept`: the first of those kept stand at the front. Assumes nothing.
use Rattle.std.proofs.Common.{◌≡◌, ◌++◌, length, take, drop}
use Rattle.graph.specs.Questions.{kept}
use Rattle.frame_slices.proofs.slices.store_kept.Given as goal

abbrev pub invariant-loop-len : goal.invariant-loop-len
invariant-loop-len l = l.out ≡ take (length l.yielded) (kept l.header l.list) ++ drop (length l.yielded) l.initial.out
