-- `put_spaced`: the first numbers are there. Assumes nothing.
use Rattle.std.proofs.Common.{◌≡◌, ◌≤◌, length, take}
use Rattle.graph.specs.Print.{spaced}
use Rattle.formatting.specs.Printing.{Puts}
use Rattle.formatting.proofs.parts.put_spaced.Given as goal

abbrev pub invariant-loop-x : goal.invariant-loop-x
invariant-loop-x l = (l.x-index ≤ length l.list) × (length l.part ≡ length l.initial.part) × Puts l.initial.part l.at l.part l.next (spaced (take l.x-index l.list))
