-- `feed`: what is left comes to what the whole piece does. Assumes nothing.
use Rattle.std.proofs.Common.{◌≡◌, ◌∙◌, length, rules, tests}
use Rattle.comparing.specs.ComparingStates.{standing_as}
use Rattle.comparing.specs.Feeding.{fed_all}
use Rattle.comparing.proofs.compare.Comparing.feed.Goals as goal

pub returns : goal.returns
returns g c =
    let none : length c.loop-left.left.now ≡ 0 = search (rules, tests) in
    fed_all c.args.due.now (standing_as g.R.Refused.as_pair c.loop-left.s) c.loop-left.left.now none ∙ c.loop-left.invariant
