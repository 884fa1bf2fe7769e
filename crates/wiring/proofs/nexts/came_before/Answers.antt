-- `came_before`: the library's word. Assumes nothing.
use Rattle.std.proofs.Common.{◌∙◌, rules}
use Rattle.std.proofs.lemmas.Iterator.{YieldsList-from_slice}
use Rattle.std.proofs.lemmas.Iterator.Search.{any_from_yields_List}
use Rattle.passes.specs.NextBodies.{selects_key}
use Rattle.wiring.specs.CameBefore.{came_any}
use Rattle.wiring.proofs.nexts.came_before.Goals as goal

pub returns : goal.returns
returns c =
    let a = c.args in
    any_from_yields_List (λ v. selects_key v a.key) _ _ c.any.result c.any.ensures.ran (YieldsList-from_slice a.keys.now cc) (λ x b q k. search rules) ∙ came_any a.keys.now a.key
