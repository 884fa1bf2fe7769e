-- `span_some`: one span grows, or none. Assumes nothing.
use Rattle.std.proofs.Common.{rules, ◌≡◌, ◌-◌, refl, arith, get_or, None}
use Rattle.passes.specs.Spans.{first_of, grow_some}
use Rattle.walks.proofs.spans.span_some.Goals as goal

pub returns-in-Some : goal.returns-in-Some
unfolding first_of
returns-in-Some c =
    let a = c.args in
    let e : c.from-e.result ≡ a.t - 1 = omega (arith, c.from-e.ensures, c.in-Some.ensures) in
    let first : c.map_or-first.result ≡ first_of (get_or a.spans.now c.from-e.result None) a.k = search rules in
    rw e (grow_some a.k a.spans.now a.t a.t c.map_or-first.result _ refl (λ z. omega (arith, c.in-Some.ensures)) (omega (arith, c.requires)) (rw e at first) refl)
