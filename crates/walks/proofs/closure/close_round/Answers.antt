-- `close_round`: the first i rows are joined. Assumes nothing.
use native.Mathlib.Omega.{arith}
use Rattle.passes.specs.ClosureLaws.{rows_more}
use Rattle.walks.proofs.closure.close_round.Goals as goal

pub loop-i-preserved : goal.loop-i-preserved
loop-i-preserved c =
    let l = c.loop-i in
    rows_more c.args.k _ l.i c.args.rows.now l.rows _ (omega arith) l.invariant c.close_row.ensures
