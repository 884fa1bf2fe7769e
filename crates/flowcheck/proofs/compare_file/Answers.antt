-- `compare_file`: nothing was fed, then a piece more. Assumes nothing.
use Rattle.std.proofs.Common.{rules, ℕ}
use lib.ListN.{length-replicate}
use Rattle.checking.specs.Pieces.{fed-none, fed_piece}
use Rattle.flowcheck.proofs.compare_file.Goals as goal

pub loop-init : goal.loop-init
loop-init c = (fed-none _ _ c.begin-s.ensures, length-replicate {0} {A = ℕ} _ 0)

pub returns-then-n-lt-PIECE : goal.returns-then-n-lt-PIECE
returns-then-n-lt-PIECE c = fed_piece _ _ _ _ c.loop.invariant.0 c.feed-s.ensures

pub loop-preserved : goal.loop-preserved
loop-preserved c = (fed_piece _ _ _ _ c.loop.invariant.0 c.feed-s.ensures, search rules)
