-- `conclude`: the listing's refusal, or what the comparison says. Assumes nothing.
use mathlib.Core.Path.{sym, ap, ◌∙◌}
use Rattle.std.specs.Prelude.{Result}
use Rattle.std.proofs.Common.{rules, ◌≡◌, Err}
use Rattle.wiring.specs.BuiltAnswer.{built_as}
use Rattle.comparing.specs.ComparingStates.{standing_as, verdict_as}
use Rattle.checking.specs.Checking.{concluded}
use Rattle.checking.proofs.check.conclude.Goals as goal

pub returns-in_err-built : goal.returns-in_err-built
unfolding concluded verdict_as
returns-in_err-built g c =
    let f = g.R.Refused.as_pair in
    let e : c.from_residual.result ≡ Err c.in_err-built.field-0.0 = search rules in
    ap (verdict_as f) e ∙ sym (ap (λ (x : Result (Unit {0}) g.row.R.Denot). concluded (built_as f x) (standing_as f c.args.s) c.args.due.now) c.in_err-built.was)

pub returns : goal.returns
unfolding concluded
returns g c =
    let f = g.R.Refused.as_pair in
    c.rule.ensures ∙ sym (ap (λ (x : Result (Unit {0}) g.row.R.Denot). concluded (built_as f x) (standing_as f c.args.s) c.args.due.now) c.in_ok-built.was)
