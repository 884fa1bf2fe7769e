-- `meet_frames`: both stacks and the first column before node i. Assumes nothing.
use mathlib.Core.Path.{◌≡◌}
use lib.ListN.{length}
use Rattle.passes.specs.FramePassLaws.{Meeting}
use Rattle.wiring.specs.FrameRows.{flat}
use Rattle.wiring.proofs.frames.meet_frames.Given as goal

abbrev pub invariant-loop-i : goal.invariant-loop-i
invariant-loop-i l = (length l.frames ≡ 4096) × Meeting l.r.stmts.now l.r.n l.loops.words l.dos.words (flat l.frames) l.i
