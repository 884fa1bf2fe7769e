-- `link_frames`: the nodes from i on are linked. Assumes nothing.
use mathlib.Core.Path.{◌≡◌}
use lib.ListN.{length}
use Rattle.passes.specs.LinkLaws.{Linking}
use Rattle.wiring.specs.FrameRows.{flat}
use Rattle.wiring.proofs.frames.link_frames.Given as goal

abbrev pub invariant-loop-i : goal.invariant-loop-i
invariant-loop-i l = (length l.frames ≡ 4096) × Linking l.r.stmts.now l.r.n (flat l.frames) l.i
