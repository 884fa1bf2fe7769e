-- `ids_below`: whether those met so far are. Assumes nothing.
use Rattle.std.proofs.Common.{◌∙◌, ltb, ap, take_all, arith}
use Rattle.std.specs.List.{list_all}
use Rattle.tables.specs.Readable.{ids_all}
use Rattle.tables.proofs.readable.ids_below.Goals as goal

pub returns : goal.returns
returns c = c.loop-id.invariant ∙ ap (list_all (λ x. ltb x c.args.n)) (take_all c.loop-id.id-index c.args.l.now (omega arith)) ∙ ids_all c.args.n c.args.l.now
