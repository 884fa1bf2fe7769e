-- `pass_over`: what is still to be passed over is passed over as the whole is. Assumes nothing.
use Rattle.std.proofs.Common.{◌≡◌, sym, ◌∙◌, arith}
use Rattle.basic.specs.Cursors.{tokens_at}
use Rattle.basic.specs.Tokens.{next_is}
use Rattle.basic.specs.Rests.{token_anchored}
use Rattle.basic.specs.ActionLaws.{pass_end, pass_more}
use Rattle.basic.proofs.actions.pass_over.Goals as goal

pub returns-in-0 : goal.returns-in-0
returns-in-0 c =
    let anchored = token_anchored c.args.file.now c.loop-at.at c.token_at-t.result c.token_at-t.ensures in
    rw c.uncovered.ensures anchored ∙ sym (pass_end _ _ _ _ c.token_at-t.ensures c.in-0.is) ∙ c.loop-at.invariant

pub loop-at-preserved : goal.loop-at-preserved
loop-at-preserved c =
    let more : c.token_at-t.result.byte ≡ 0 → ⊥ = grind arith in
    let within : c.token_at-t.result.byte ≡ 58 → ⊥ = grind arith in
    sym (pass_more _ _ _ _ (next_is (tokens_at c.args.file.now) c.loop-at.at c.token_at-t.result c.token_at-t.ensures more) more within) ∙ c.loop-at.invariant
