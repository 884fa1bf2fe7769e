-- `behind_quote`: no quote and no zero stands before `at`. Assumes nothing.
use Rattle.std.proofs.Common.{arith}
use Rattle.program_files.specs.Program.{uncovered, quoted, items, quoted_item}
use Rattle.basic.specs.Covered.{closed_then, leads_end, leads_past, quotes_close, quotes_on, still_open}
use Rattle.basic.proofs.covered.behind_quote.Goals as goal

pub returns-in-0-clause-closed : goal.returns-in-0-clause-closed
returns-in-0-clause-closed c =
    let end = leads_end c.args.file.now c.loop-at.at c.loop-at-test.true in
    closed_then c.args.file.now _ _ _ c.loop-at.invariant.1 (end quoted uncovered c.in-0.is, end quoted_item items c.in-0.is)

pub returns-in-34-clause-closed : goal.returns-in-34-clause-closed
returns-in-34-clause-closed c = closed_then c.args.file.now _ _ _ c.loop-at.invariant.1 (quotes_close c.args.file.now c.loop-at.at c.loop-at-test.true c.in-34.is)

pub loop-at-preserved : goal.loop-at-preserved
loop-at-preserved c =
    let on = quotes_on c.args.file.now c.loop-at.at c.loop-at-test.true (grind arith) (grind arith) in
    (omega arith, still_open c.args.file.now _ _ _ c.loop-at.invariant.1 on)

pub returns-clause-closed : goal.returns-clause-closed
returns-clause-closed c =
    let f = c.args.file.now in
    let at = c.loop-at.at in
    let h = c.loop-at-test.false in
    closed_then f _ _ _ c.loop-at.invariant.1 (leads_past f quoted uncovered at h, leads_past f quoted_item items at h)
