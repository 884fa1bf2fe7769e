-- `put_set`: the row holds the first nodes of the list. Assumes nothing.
use lib.ListN.{take}
use Rattle.passes.specs.Closure.{RowIs}
use Rattle.wiring.proofs.fill_rows.put_set.Given as goal

abbrev pub invariant-loop-id : goal.invariant-loop-id
invariant-loop-id l = RowIs (take l.id-index l.list) l.row
