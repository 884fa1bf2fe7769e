-- `judge`: its offence, or what `with_line` says of it. Assumes nothing.
use Rattle.std.proofs.Common.{◌∙◌, sym, arith}
use Rattle.basic.specs.LineLaws.{kept_at, told_good, told_offends, told_with}
use Rattle.basic.specs.OffenceLaws.{zero_within}
use Rattle.basic.proofs.line.LineAt.judge.Goals as goal

pub returns-in-Some-clause-told : goal.returns-in-Some-clause-told
returns-in-Some-clause-told c ls a k =
    told_offends c.args.self.now.file.now c.args.self.now.at c.word_at-n.result c.args.self.now.inside c.requires.linked c.word_at-n.ensures c.body-body.result.0 c.body-body.ensures.told
    c.offence.result c.offence.ensures c.in-Some.offence c.in-Some.is ls k

pub returns-in_err-body-clause-told : goal.returns-in_err-body-clause-told
returns-in_err-body-clause-told c =
    absurd
    (told_good c.args.self.now.file.now c.args.self.now.at c.word_at-n.result c.args.self.now.inside c.requires.linked c.word_at-n.ensures c.body-body.result.0 c.body-body.ensures.told
    c.offence.result c.offence.ensures c.in_default.is _ c.in_err-body.was)

pub overflow_add-zero : goal.overflow_add-zero
overflow_add-zero c =
    let h = zero_within c.args.self.now.file.now c.args.self.now.at c.body-body.result.1 c.args.self.now.inside c.body-body.ensures.zero in
    let g = c.requires.short in
    omega arith

pub returns-clause-told : goal.returns-clause-told
returns-clause-told c =
    let f = c.args.self.now.file.now in
    told_with f c.args.self.now.at c.word_at-n.result c.args.self.now.inside c.requires.linked c.word_at-n.ensures c.body-body.result.0 c.body-body.ensures.told c.offence.result
    c.offence.ensures c.in_default.is c.with_line.result c.args.s (λ st h. c.with_line.ensures.told st (sym c.in_ok-body.was ∙ h))
    (kept_at f c.args.self.now.at c.body-body.result.1 c.with_line.result c.body-body.ensures.zero c.with_line.ensures.kept)
