-- `sets_readable`: by the members of all, which are listed. Assumes nothing.
use borrow.Author.Rules.{rules}
use Rattle.storing.specs.JoinedReturns.{all_by}
use Rattle.storing.proofs.readable.sets_readable.Goals as goal

pub returns : goal.returns
returns c =
    let r = c.args.sets.now.records in
    let a = c.args in
    all_by r.stmts.now a.sets.now.words.now r.n a.sets.now.rows c.join_returns-all.ensures (search rules) c.members-count.ensures _ c.ids_below.ensures
