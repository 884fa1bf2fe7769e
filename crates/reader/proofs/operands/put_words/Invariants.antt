-- The words so far are at the front, each as its entry. Assumes nothing.
use Rattle.std.proofs.Common.{◌≡◌, ◌++◌, map, length, take, drop}
use Rattle.listings.specs.Rows.{split}
use Rattle.tokens.specs.Arguments.{are_slots}
use Rattle.reader.specs.Operands.{entry_by}
use Rattle.reader.proofs.operands.put_words.Given as goal

abbrev pub invariant-loop-w : goal.invariant-loop-w
invariant-loop-w l = (l.count ≡ length l.yielded) × (l.part ≡ map (entry_by (are_slots l.arguments)) (take l.count (split 32 l.s)) ++ drop l.count l.initial.part)
