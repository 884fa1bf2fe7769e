-- `fill_pass`: the first i nodes are passed. Assumes nothing.
use Rattle.passes.specs.FillRowLaws.{pass_ready, pass_more}
use Rattle.wiring.specs.Passes.{are_nexts}
use Rattle.wiring.proofs.fill_rows.fill_pass.Goals as goal

pub fill_row-requires-clause-ready : goal.fill_row-requires-clause-ready
fill_row-requires-clause-ready c =
    pass_ready _ _ _ _ _ _ _ _ _ (are_nexts c.args.pass)
    c.loop-i.i 4096 c.loop-i.args c.loop-i-test.true c.requires c.loop-i.invariant

pub loop-i-preserved : goal.loop-i-preserved
loop-i-preserved c =
    pass_more _ _ _ _ _ _ _ _ _ (are_nexts c.args.pass)
    c.loop-i.i c.loop-i.args _ c.loop-i-test.true c.loop-i.invariant c.fill_row.ensures
