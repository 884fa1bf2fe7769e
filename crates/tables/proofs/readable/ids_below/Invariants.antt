-- `ids_below`: whether those met so far are. Assumes nothing.
use Rattle.std.proofs.Common.{◌≡◌, ltb, take}
use Rattle.std.specs.List.{list_all}
use Rattle.tables.proofs.readable.ids_below.Given as goal

abbrev pub invariant-loop-id : goal.invariant-loop-id
invariant-loop-id l = l.good ≡ list_all (λ x. ltb x l.n) (take l.id-index l.l)
