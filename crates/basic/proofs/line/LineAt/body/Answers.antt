-- `body`: what `judge_body` says, and the line's zero. Assumes nothing.
use Rattle.std.proofs.Common.{◌∙◌, ◌+◌, sym, ap}
use Rattle.basic.specs.Bodies.{body_in}
use Rattle.basic.specs.Covers.{cover_of}
use Rattle.basic.specs.LineLaws.{stmts_told}
use Rattle.basic.specs.Rests.{tokens_zero}
use Rattle.basic.specs.declared.cover.Cover.TheVariants.{Uncovered}
use Rattle.basic.proofs.line.LineAt.body.Goals as goal

pub returns-in-Ok-clause-told : goal.returns-in-Ok-clause-told
unfolding cover_of
returns-in-Ok-clause-told c =
    sym (ap body_in c.in-Ok.is) ∙ stmts_told c.args.self.now.file.now c.args.self.now.at (body_in c.judge_body.result) (rw c.uncovered.ensures at c.judge_body.ensures.told)

pub returns-in-Ok-clause-zero : goal.returns-in-Ok-clause-zero
returns-in-Ok-clause-zero c =
    (rw (c.in-Ok.is, c.uncovered.ensures) at c.judge_body.ensures.zero) ∙ tokens_zero c.args.self.now.file.now (record { at = c.args.self.now.at + 4; cover = Uncovered })

pub returns-in-Err-clause-told : goal.returns-in-Err-clause-told
unfolding cover_of
returns-in-Err-clause-told c =
    sym (ap body_in c.in-Err.is) ∙ stmts_told c.args.self.now.file.now c.args.self.now.at (body_in c.judge_body.result) (rw c.uncovered.ensures at c.judge_body.ensures.told)
