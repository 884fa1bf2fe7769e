-- `pass_over`: what is still to be passed over is passed over as the whole is. Assumes nothing.
use Rattle.std.proofs.Common.{◌≡◌, length}
use Rattle.program_files.specs.Program.{pass_over}
use Rattle.basic.specs.Cursors.{tokens_at}
use Rattle.basic.proofs.actions.pass_over.Given as goal

abbrev pub invariant-loop-at : goal.invariant-loop-at
invariant-loop-at l = pass_over (tokens_at l.file l.at) ≡ pass_over (tokens_at l.file l.fn.c)

abbrev pub decreases-loop-at : goal.decreases-loop-at
decreases-loop-at l = length (tokens_at l.file l.at)
