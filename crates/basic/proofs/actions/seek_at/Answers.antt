-- `seek_at`: the token is sought in what is left as it is in the whole. Assumes nothing.
use Rattle.std.proofs.Common.{◌≡◌, ◌⊎◌, sym, ◌∙◌, inl, inr, arith}
use Rattle.basic.specs.Cursors.{tokens_at}
use Rattle.basic.specs.Tokens.{next_is}
use Rattle.basic.specs.ActionLaws.{seek_end, seek_here, seek_more}
use Rattle.basic.proofs.actions.seek_at.Goals as goal

pub returns-in-0 : goal.returns-in-0
returns-in-0 c = sym (seek_end c.args.x c.args.y _ _ _ _ c.token_at-t.ensures c.in-0.is) ∙ c.loop-byte.invariant

pub returns-in_default : goal.returns-in_default
returns-in_default c =
    let t = c.token_at-t.result in
    let more : t.byte ≡ 0 → ⊥ = grind arith in
    let within : t.byte ≡ 58 → ⊥ = grind arith in
    let e = next_is (tokens_at c.args.file.now) c.loop-byte.at t c.token_at-t.ensures more in
    let h = elim c.if-byte-y.either as (λ z. (t.byte ≡ c.args.x) ⊎ (t.byte ≡ c.args.y)) [ inl g ↦ inl g | inr g ↦ inr g.1 ] in
    sym (seek_here c.args.x c.args.y _ _ _ _ e more within h) ∙ c.loop-byte.invariant

pub loop-byte-preserved : goal.loop-byte-preserved
loop-byte-preserved c =
    let t = c.token_at-t.result in
    let more : t.byte ≡ 0 → ⊥ = grind arith in
    let within : t.byte ≡ 58 → ⊥ = grind arith in
    let e = next_is (tokens_at c.args.file.now) c.loop-byte.at t c.token_at-t.ensures more in
    sym (seek_more c.args.x c.args.y _ _ _ _ e more within c.if-byte-y.false.0 c.if-byte-y.false.1) ∙ c.loop-byte.invariant
