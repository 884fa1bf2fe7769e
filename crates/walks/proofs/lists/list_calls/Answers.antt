-- `list_calls`: the nodes whose word is a call's. Assumes nothing.
use Rattle.std.proofs.Common.{rules}
use Rattle.tables.specs.Columns.{word_of}
use Rattle.passes.specs.Regions.{is_call}
use Rattle.walks.proofs.lists.list_calls.Goals as goal

pub returns : goal.returns
unfolding word_of
returns c =
    let r = c.args.records.now in
    (c.list_where-m.ensures.put (is_call r.stmts.now) (λ i b lt p. search rules)).list
