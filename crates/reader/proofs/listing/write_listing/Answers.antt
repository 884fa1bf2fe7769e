-- Each table is tested, then filled. Assumes nothing.
use Rattle.std.proofs.Common.{arith}
use Rattle.reader.specs.Listed.{judged_small, short_lines, short_stmts, short_args, judged_zeroed, judged-written}
use Rattle.reader.proofs.listing.write_listing.Goals as goal
use Rattle.reader.proofs.listing.write_listing.Goals.{then-t-a-2-via-then-t-a-2, then-t-a-2-via-else-t-a-2+then-t-a-3}

pub returns-then-t-a-clause-written : goal.returns-then-t-a-clause-written
returns-then-t-a-clause-written c = rw c.at.ensures (short_lines c.requires c.if-t-a.true)

pub returns-then-t-a-2-clause-written : goal.returns-then-t-a-2-clause-written
returns-then-t-a-2-clause-written c =
    rw c.at-then-t-a-2.ensures
    (elim c.then-t-a-2.branch [
      | then-t-a-2-via-then-t-a-2 w ↦ short_stmts c.requires (omega arith) w.if-t-a-2.true
      | then-t-a-2-via-else-t-a-2+then-t-a-3 w ↦ short_args c.requires (omega arith) (omega (arith, w.if-t-a-2.false)) w.if-t-a-3.true
    ])

pub fill-requires : goal.fill-requires
fill-requires c = judged_zeroed c.requires c.if-t-a.false c.if-t-a-2.false c.if-t-a-3.false

pub counts-requires : goal.counts-requires
counts-requires c = judged_small c.requires

pub returns-clause-same : goal.returns-clause-same
returns-clause-same c = c.fill.ensures.same

pub returns-clause-written : goal.returns-clause-written
returns-clause-written c = judged-written c.requires c.if-t-a.false c.if-t-a-2.false c.if-t-a-3.false c.counts.ensures c.fill.ensures.filled
