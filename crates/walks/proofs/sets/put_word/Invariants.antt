-- `put_word`: the members in the j lowest bits are put, and w is left of the word. Assumes nothing.
use Prim.Native.Nat.{◌/◌, ◌^◌, ◌≤◌}
use mathlib.Core.Path.{◌≡◌}
use lib.ListN.{length}
use Rattle.passes.specs.Sets.{word_members, Put}
use Rattle.walks.proofs.sets.put_word.Given as goal

abbrev pub invariant-loop-w : goal.invariant-loop-w
invariant-loop-w l = (l.j ≤ 64) × (l.w ≡ l.word / 2 ^ l.j) × (length l.part ≡ length l.initial.part) × Put l.initial.part l.n l.part l.k (word_members l.base l.word l.j)

abbrev pub decreases-loop-w : goal.decreases-loop-w
decreases-loop-w l = l.w
