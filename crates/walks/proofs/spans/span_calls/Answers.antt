-- `span_calls`: the first k calls are done. Assumes nothing.
use mathlib.Core.Path.{ap, ◌∙◌}
use native.Mathlib.Omega.{arith}
use Rattle.std.specs.Prelude.{Option, None}
use Rattle.passes.specs.declared.spans.Span.{Span}
use lib.ListN.{length, length-replicate}
use Rattle.passes.specs.RegionLaws.{all_get_d}
use Rattle.passes.specs.Spans.{spanned_none, spanned_more}
use Rattle.walks.proofs.spans.span_calls.Goals as goal

pub loop-k-init : goal.loop-k-init
loop-k-init c =
    let g = c.args.g.now in
    let a = c.args in
    (ap length c.requires.2 ∙ length-replicate {A = Option Span} 4096 None, spanned_none g.records.stmts.now g.links.now a.calls.now 4096 _ c.requires.2)

pub span_call-requires : goal.span_call-requires
span_call-requires c =
    let l = c.loop-k in
    (all_get_d c.requires.0 l.k _ (omega arith) c.from.ensures, omega (arith, c.requires.1))

pub loop-k-preserved : goal.loop-k-preserved
loop-k-preserved c =
    let g = c.args.g.now in
    let a = c.args in
    let l = c.loop-k in
    let h = c.span_call.ensures in
    (h.size ∙ l.invariant.0, spanned_more g.records.stmts.now g.links.now a.calls.now l.k _ l.spans _ c.from.ensures l.invariant.1 h)
