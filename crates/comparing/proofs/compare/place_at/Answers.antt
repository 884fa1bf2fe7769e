-- `place_at`: the bytes 10 before that byte are counted. Assumes nothing.
use Rattle.std.proofs.Common.{rules, ◌∙◌, eqb}
use Rattle.std.proofs.lemmas.Iterator.{YieldsList-from_slice, YieldsList-from_take}
use Rattle.std.proofs.lemmas.Iterator.Consumers.{YieldsList-from_filter, count_from_yields_List}
use Rattle.comparing.specs.Comparing.{place_at}
use Rattle.comparing.specs.ComparingStates.{rows_counted}
use Rattle.comparing.proofs.compare.place_at.Goals as goal

pub returns : goal.returns
unfolding place_at
returns c =
    count_from_yields_List c.filter.result _ c.count.ensures.ran
    (YieldsList-from_filter _ (λ x. eqb x 10) (YieldsList-from_take c.args.at (YieldsList-from_slice c.args.due.now cc) cc) c.filter.ensures.closure (λ x b q k. search rules))
    ∙ rows_counted _
