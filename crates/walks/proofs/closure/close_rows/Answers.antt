-- `close_rows`: after k rounds the rows have the ways whose nodes between their ends are below k. Assumes nothing.
use mathlib.Core.Path.{refl}
use native.Mathlib.Omega.{arith}
use Rattle.passes.specs.ClosureLaws.{closed_none, closed_more, closed_end}
use Rattle.walks.proofs.closure.close_rows.Goals as goal

pub loop-k-init : goal.loop-k-init
loop-k-init c = closed_none _ _

pub loop-k-preserved : goal.loop-k-preserved
loop-k-preserved c =
    let l = c.loop-k in
    closed_more c.args.n l.k _ c.args.rows.now l.rows _ (omega arith) refl l.invariant c.close_round.ensures

pub returns : goal.returns
returns c = closed_end _ _ _ _ (omega arith) c.loop-k.invariant
