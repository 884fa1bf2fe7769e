-- `judge_body`: what was told of the statements before `at`, to be joined with those left. Assumes nothing.
use Rattle.std.proofs.Common.{◌≡◌, ◌+◌, ◌≤◌, length}
use Rattle.listings.specs.Listing.{∅}
use Rattle.program_files.specs.Program.{body_of}
use Rattle.basic.specs.Actions.{fuel}
use Rattle.basic.specs.Bodies.{summary}
use Rattle.basic.specs.BodyLaws.{Reaches}
use Rattle.basic.specs.Cursors.{tokens_at}
use Rattle.basic.specs.Rests.{zero_at}
use Rattle.basic.proofs.bodies.judge_body.Given as goal

abbrev pub invariant-loop-at : goal.invariant-loop-at
invariant-loop-at l =
    (l.depth ≤ l.stmts) × (l.stmts + length (tokens_at l.file l.at) ≤ length (tokens_at l.file l.fn.c))
    × (zero_at (tokens_at l.file l.at) ≡ zero_at (tokens_at l.file l.fn.c))
    × Reaches (summary (body_of (fuel l.file l.fn.c) ∅ (tokens_at l.file l.fn.c))) l.stmts l.depth l.deep l.long (tokens_at l.file l.at)

abbrev pub decreases-loop-at : goal.decreases-loop-at
decreases-loop-at l = length (tokens_at l.file l.at)
