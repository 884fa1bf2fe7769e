-- `fill_numbers`: the numbers of the words so far stand at the front. Assumes nothing.
use Rattle.std.proofs.Common.{◌≡◌, false, ◌++◌, map, length, take, drop}
use Rattle.listings.specs.Rows.{split}
use Rattle.reader.specs.Operands.{entry_by}
use Rattle.answers.proofs.answers.fill_numbers.Given as goal

abbrev pub invariant-loop-n : goal.invariant-loop-n
invariant-loop-n l = l.part ≡ take (length l.yielded) (map (entry_by false) (split 32 l.s)) ++ drop (length l.yielded) l.initial.part
