-- `insert_some`: one node, or none. Assumes nothing.
use Prim.Native.Nat.{◌-◌}
use mathlib.Core.Path.{◌≡◌, refl, ap, ◌∙◌}
use native.Mathlib.Omega.{arith}
use Rattle.passes.specs.Sets.{inserted}
use Rattle.passes.specs.RegionLaws.{set-some}
use Rattle.walks.proofs.regions.insert_some.Goals as goal

pub returns-in-Some : goal.returns-in-Some
returns-in-Some c =
    let a = c.args in
    let e : c.from.result ≡ a.t - 1 = omega (arith, c.from.ensures, c.in-Some.ensures) in
    set-some _ _ a.t a.t refl (λ z. omega (arith, c.in-Some.ensures)) (omega (arith, c.requires)) (c.insert.ensures ∙ ap (inserted a.set.now) e)
