-- `seek_at`: the token is sought in what is left as it is in the whole. Assumes nothing.
use Rattle.std.proofs.Common.{◌≡◌, length}
use Rattle.program_files.specs.Program.{seek}
use Rattle.basic.specs.Cursors.{tokens_at}
use Rattle.basic.proofs.actions.seek_at.Given as goal

abbrev pub invariant-loop-byte : goal.invariant-loop-byte
invariant-loop-byte l = seek l.x l.y (tokens_at l.file l.at) ≡ seek l.x l.y (tokens_at l.file l.fn.c)

abbrev pub decreases-loop-byte : goal.decreases-loop-byte
decreases-loop-byte l = length (tokens_at l.file l.at)
