-- `mark_number`: of the mark that was found. Assumes nothing.
use Rattle.std.proofs.Common.{rules, ◌≡◌, ◌∙◌, ap}
use Rattle.reader.specs.Operands.{mark_or_zero, mark_stored}
use Rattle.reader.proofs.operands.mark_number.Goals as goal

pub returns : goal.returns
returns c =
    let m : c.map_or.result ≡ mark_or_zero c.mark_of.result = search rules in
    m ∙ ap mark_or_zero c.mark_of.ensures ∙ mark_stored c.args.w.now
