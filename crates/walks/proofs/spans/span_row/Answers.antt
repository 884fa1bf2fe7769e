-- `span_row`: the entries of the first i links are done. Assumes nothing.
use mathlib.Core.Path.{refl}
use native.Mathlib.Omega.{arith}
use Rattle.passes.specs.RegionLaws.{all_get_d}
use Rattle.passes.specs.Spans.{row_start, row_more}
use Rattle.walks.proofs.spans.span_row.Goals as goal

pub loop-t-init : goal.loop-t-init
loop-t-init c = let a = c.args in row_start a.k a.row.now _

pub span_some-requires : goal.span_some-requires
span_some-requires c =
    let l = c.loop-t in
    (all_get_d c.requires.0 l.t-index _ (omega arith) refl, c.requires.1)

pub loop-t-preserved : goal.loop-t-preserved
loop-t-preserved c =
    let a = c.args in
    let l = c.loop-t in
    row_more a.k a.row.now l.t-index a.spans.now l.spans _ (omega arith) l.invariant c.span_some.ensures
