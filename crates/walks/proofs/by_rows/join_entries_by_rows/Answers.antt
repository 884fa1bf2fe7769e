-- `join_entries_by_rows`: the entries before e are done, whichever steps the rows are closed over. Assumes nothing.
use borrow.Author.Rules.{rules}
use Rattle.passes.specs.ByRowsLaws.{entries_more}
use Rattle.walks.proofs.by_rows.join_entries_by_rows.Goals as goal

pub loop-e-preserved : goal.loop-e-preserved
loop-e-preserved c =
    let g = c.args.g.now in
    (search rules, entries_more g.records.stmts.now g.falls.now g.links.now g.records.n c.loop-e.e c.args.rows.now c.loop-e.rows _ c.requires.in_rows c.loop-e.invariant.1 c.join_by_rows.ensures)
