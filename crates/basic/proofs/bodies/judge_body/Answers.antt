-- `judge_body`: what was told of the statements before `at`, to be joined with those left. Assumes nothing.
use Rattle.std.proofs.Common.{◌≡◌, ◌∙◌, ◌+◌, ◌≤◌, length, arith, ap, refl, sym}
use Rattle.basic.specs.Found.{handed_err}
use Rattle.basic.specs.BodyLaws.{flagged, left_does, left-holds, reaches_bad, reaches_colon, reaches_does, reaches_end, reaches-holds, reaches-jumps, reaches-start, zero_does, zero_here, zero_holds, zero_jumps, zero_on}
use Rattle.basic.specs.Tokens.{tokens_some}
use Rattle.basic.specs.Cursors.{next_more, tokens_length, tokens_at}
use Rattle.basic.specs.Rests.{tokens_zero, zero_at}
use Rattle.basic.specs.Bodies.{body_in}
use Rattle.basic.proofs.bodies.judge_body.Goals as goal

pub loop-at-init : goal.loop-at-init
loop-at-init c = (omega arith, omega arith, refl, reaches-start _)

pub returns-in-0-clause-told : goal.returns-in-0-clause-told
returns-in-0-clause-told c = reaches_end c.loop-at.invariant.3 _ _ _ c.token_at-t.ensures c.in-0.is

pub returns-in-0-clause-few : goal.returns-in-0-clause-few
returns-in-0-clause-few c =
    let a = tokens_length c.args.file.now c.args.c in
    omega (arith, ap length c.token_at-t.ensures)

pub returns-in-0-clause-zero : goal.returns-in-0-clause-zero
returns-in-0-clause-zero c = sym (zero_here _ _ _ _ c.token_at-t.ensures c.in-0.is) ∙ c.loop-at.invariant.2

pub loop-at-preserved-in-58 : goal.loop-at-preserved-in-58
loop-at-preserved-in-58 c =
    let more : c.token_at-t.result.byte ≡ 0 → ⊥ = λ z. omega (arith, c.in-58.is) in
    let e = next_more (tokens_at c.args.file.now) c.loop-at.at c.token_at-t.result c.token_at-t.ensures more in
    (omega arith, omega (arith, ap length e), sym (zero_on _ _ _ _ e more) ∙ c.loop-at.invariant.2, reaches_colon c.loop-at.invariant.3 _ _ _ e c.in-58.is)

pub overflow_add-stmts : goal.overflow_add-stmts
overflow_add-stmts c =
    let more : c.token_at-t.result.byte ≡ 0 → ⊥ = grind arith in
    let f = c.args.file.now in
    let e = next_more (tokens_at f) c.loop-at.at c.token_at-t.result c.token_at-t.ensures more in
    let a = tokens_length f c.args.c in
    let b = tokens_some f c.token_at-t.result.next in
    let g : c.loop-at.stmts + 1 ≤ length f = omega (arith, ap length e) in
    omega arith

pub overflow_add-depth : goal.overflow_add-depth
overflow_add-depth c =
    let more : c.token_at-t.result.byte ≡ 0 → ⊥ = grind arith in
    let f = c.args.file.now in
    let e = next_more (tokens_at f) c.loop-at.at c.token_at-t.result c.token_at-t.ensures more in
    let a = tokens_length f c.args.c in
    let b = tokens_some f c.token_at-t.result.next in
    let g : c.loop-at.depth + 1 ≤ length f = omega (arith, ap length e) in
    omega arith

pub returns-in_err-action-in_default-clause-told : goal.returns-in_err-action-in_default-clause-told
returns-in_err-action-in_default-clause-told c =
    let more : c.token_at-t.result.byte ≡ 0 → ⊥ = grind arith in
    let within : c.token_at-t.result.byte ≡ 58 → ⊥ = grind arith in
    let e = next_more (tokens_at c.args.file.now) c.loop-at.at c.token_at-t.result c.token_at-t.ensures more in
    ap body_in (handed_err c.from_residual.result _ c.from_residual.ensures.1) ∙ reaches_bad c.loop-at.invariant.3 _ _ _ e more within _ c.in_err-action-in_default.ensures.told

pub loop-at-smaller-in-Does : goal.loop-at-smaller-in-Does
loop-at-smaller-in-Does c =
    let more : c.token_at-t.result.byte ≡ 0 → ⊥ = grind arith in
    let f = c.args.file.now in
    let e = next_more (tokens_at f) c.loop-at.at c.token_at-t.result c.token_at-t.ensures more in
    let h = rw c.in-Does.is at c.in_ok-action-in_default.ensures.told in
    let g = left_does _ _ _ _ _ h in
    omega (arith, ap length e, ap length c.pass_over-at.ensures)

pub loop-at-preserved-in-Does : goal.loop-at-preserved-in-Does
loop-at-preserved-in-Does c =
    let more : c.token_at-t.result.byte ≡ 0 → ⊥ = grind arith in
    let within : c.token_at-t.result.byte ≡ 58 → ⊥ = grind arith in
    let f = c.args.file.now in
    let e = next_more (tokens_at f) c.loop-at.at c.token_at-t.result c.token_at-t.ensures more in
    let h = rw c.in-Does.is at c.in_ok-action-in_default.ensures.told in
    let g = left_does _ _ _ _ _ h in
    let deep = flagged c.loop-at.deep c.loop-at.depth 16 in
    let long = flagged c.loop-at.long c.in-Does.count 64 in
    let r = reaches_does c.loop-at.invariant.3 _ _ _ e more within _ deep _ _ _ _ h long in
    let z = ap zero_at c.pass_over-at.ensures ∙ zero_does _ _ _ _ _ h ∙ sym (zero_on _ _ _ _ e more) ∙ c.loop-at.invariant.2 in
    (omega arith, omega (arith, ap length e, ap length c.pass_over-at.ensures), z, rw c.pass_over-at.ensures r)

pub returns-in-Jumps-clause-told : goal.returns-in-Jumps-clause-told
returns-in-Jumps-clause-told c =
    let more : c.token_at-t.result.byte ≡ 0 → ⊥ = grind arith in
    let within : c.token_at-t.result.byte ≡ 58 → ⊥ = grind arith in
    let e = next_more (tokens_at c.args.file.now) c.loop-at.at c.token_at-t.result c.token_at-t.ensures more in
    let deep = flagged c.loop-at.deep c.loop-at.depth 16 in
    reaches-jumps c.loop-at.invariant.3 _ _ _ e more within _ deep _ _ (rw c.in-Jumps.is at c.in_ok-action-in_default.ensures.told)

pub returns-in-Jumps-clause-few : goal.returns-in-Jumps-clause-few
returns-in-Jumps-clause-few c =
    let more : c.token_at-t.result.byte ≡ 0 → ⊥ = grind arith in
    let f = c.args.file.now in
    let e = next_more (tokens_at f) c.loop-at.at c.token_at-t.result c.token_at-t.ensures more in
    let a = tokens_length f c.args.c in
    let b = tokens_some f c.token_at-t.result.next in
    omega (arith, ap length e)

pub returns-in-Jumps-clause-zero : goal.returns-in-Jumps-clause-zero
returns-in-Jumps-clause-zero c =
    let more : c.token_at-t.result.byte ≡ 0 → ⊥ = grind arith in
    let e = next_more (tokens_at c.args.file.now) c.loop-at.at c.token_at-t.result c.token_at-t.ensures more in
    let h = rw c.in-Jumps.is at c.in_ok-action-in_default.ensures.told in
    c.zero_from-zero.ensures.zero ∙ sym (tokens_zero c.args.file.now c.in_ok-action-in_default.action.next)
    ∙ zero_jumps _ _ _ _ h ∙ sym (zero_on _ _ _ _ e more) ∙ c.loop-at.invariant.2

pub loop-at-smaller : goal.loop-at-smaller
loop-at-smaller c =
    let more : c.token_at-t.result.byte ≡ 0 → ⊥ = grind arith in
    let f = c.args.file.now in
    let e = next_more (tokens_at f) c.loop-at.at c.token_at-t.result c.token_at-t.ensures more in
    let h = rw c.in-Holds.is at c.in_ok-action-in_default.ensures.told in
    let g = left-holds _ _ _ h in
    omega (arith, ap length e)

pub loop-at-preserved : goal.loop-at-preserved
loop-at-preserved c =
    let more : c.token_at-t.result.byte ≡ 0 → ⊥ = grind arith in
    let within : c.token_at-t.result.byte ≡ 58 → ⊥ = grind arith in
    let f = c.args.file.now in
    let e = next_more (tokens_at f) c.loop-at.at c.token_at-t.result c.token_at-t.ensures more in
    let h = rw c.in-Holds.is at c.in_ok-action-in_default.ensures.told in
    let g = left-holds _ _ _ h in
    let deep = flagged c.loop-at.deep c.loop-at.depth 16 in
    let r = reaches-holds c.loop-at.invariant.3 _ _ _ e more within _ deep _ h in
    (omega arith, omega (arith, ap length e), zero_holds _ _ _ h ∙ sym (zero_on _ _ _ _ e more) ∙ c.loop-at.invariant.2, r)
