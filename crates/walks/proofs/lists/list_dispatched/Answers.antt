-- `list_dispatched`: the nodes that pass the test. Assumes nothing.
use Rattle.std.proofs.Common.{rules}
use Rattle.passes.specs.Dispatched.{is_dispatched}
use Rattle.walks.proofs.lists.list_dispatched.Goals as goal

pub returns-clause-put : goal.returns-clause-put
returns-clause-put c =
    let g = c.args.g.now in
    c.list_where.ensures.put (is_dispatched g.records.stmts.now g.falls.now) (λ i b lt q. search rules)
