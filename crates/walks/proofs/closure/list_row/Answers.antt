-- `list_row`: the members of that set. Assumes nothing.
use native.Mathlib.Omega.{arith}
use Rattle.passes.specs.ReturnTotals.{members_few}
use Rattle.passes.specs.ClosureLaws.{row_listed}
use Rattle.walks.proofs.closure.list_row.Goals as goal

pub put_members-n-requires : goal.put_members-n-requires
put_members-n-requires c = omega (arith, members_few c.row_region-set.result)

pub returns : goal.returns
returns c =
    let r = c.args.rows.now in
    row_listed r.records.stmts.now r.words.now r.records.n c.args.from c.row_region-set.result _ c.row_region-set.ensures c.put_members-n.ensures.list
