-- `tier_number`: of the tier that was found. Assumes nothing.
use Rattle.std.proofs.Common.{rules, ◌≡◌, ◌∙◌, ap}
use Rattle.reader.specs.Operands.{tier_or_zero, tier_stored}
use Rattle.reader.proofs.operands.tier_number.Goals as goal

pub returns : goal.returns
returns c =
    let m : c.map_or.result ≡ tier_or_zero c.tier_of.result = search rules in
    m ∙ ap tier_or_zero c.tier_of.ensures ∙ tier_stored c.args.w.now
