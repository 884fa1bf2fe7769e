-- `only_lists`: the test of the definition at each byte. Assumes nothing.
use Rattle.std.proofs.Common.{rules, ◌∙◌, ◌||◌, eqb}
use Rattle.std.proofs.lemmas.Iterator.{YieldsList-from_slice}
use Rattle.std.proofs.lemmas.Iterator.Search.{all_from_yields_List}
use Rattle.comparing.specs.JudgeStates.{ends_with_lists}
use Rattle.comparing.proofs.judge.only_lists.Goals as goal

pub returns : goal.returns
returns c = all_from_yields_List (λ x. eqb x 42 || (eqb x 37 || eqb x 63)) _ _ _ c.all.ensures.ran (YieldsList-from_slice c.args.left.now cc) (λ x b q k. search rules) ∙ ends_with_lists _
