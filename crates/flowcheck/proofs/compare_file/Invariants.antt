-- `compare_file`: some bytes were fed, piece by piece; the measure is the number of turns that are left. Assumes nothing.
use Rattle.std.proofs.Common.{◌≡◌, length}
use Rattle.comparing.specs.ComparingStates.{standing_of}
use Rattle.checking.specs.Pieces.{SomeFed}
use Rattle.flowcheck.proofs.compare_file.Given as goal

abbrev pub invariant-loop : goal.invariant-loop
invariant-loop l = SomeFed l.due (standing_of l.s) × (length l.piece ≡ 65536)
