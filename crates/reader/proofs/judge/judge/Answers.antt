-- `judge`: the state stands for a reading from which the rest is read as the whole is. Assumes nothing.
use native.Mathlib.Omega.{arith}
use Rattle.std.proofs.Common.{rules}
use mathlib.Core.Path.{◌∙◌, ◌≡◌, refl, ap, sym}
use Rattle.reader.specs.Answer.{by_number, listed_of}
use Rattle.reader.specs.Judge.{follows_last, follows_refused, follows_start, follows_taken, read_long}
use Rattle.std.specs.Prelude.{Ok, Err}
use Rattle.listings.specs.Read.{read}
use Rattle.layout.specs.Refusals.{refusal_at}
use Rattle.tokens.specs.Arguments.{Verdict}
use Rattle.tokens.specs.Scan.{row_shorter}
use Rattle.reader.specs.States.{state_of}
use Rattle.layout.specs.declared.refusals.Refusal.{Refusal}
use Rattle.reader.proofs.judge.judge.Goals as goal

pub returns-then-text-gt-MAX_BYTES : goal.returns-then-text-gt-MAX_BYTES
unfolding listed_of
returns-then-text-gt-MAX_BYTES c = ap (λ (r : Refusal). by_number (Err r)) c.at.ensures ∙ ap listed_of (sym (read_long c.args.text.now (omega arith)))

pub loop-row-init : goal.loop-row-init
loop-row-init c = (omega arith, follows_start c.args.text.now (state_of c.start-s.result) c.start-s.ensures)

pub returns-in_err-map_err : goal.returns-in_err-map_err
returns-in_err-map_err c = go c.step.result refl
  where
    go : (x : Verdict) → c.step.result ≡ x → by_number c.from_residual.result ≡ listed_of (read c.args.text.now)
    go (Ok u) h = absurd (grind arith)
    go (Err n) h =
        let e : c.from_residual.result ≡ Err (refusal_at n c.loop-row.i) = search rules in
        ap by_number e ∙ follows_refused c.loop-row.invariant.1 (omega arith) _ _ c.in-Some.ensures.0 c.step.result (state_of c.step.new.s) c.step.ensures h

pub loop-row-preserved : goal.loop-row-preserved
loop-row-preserved c = (omega (arith, row_shorter _ _ _ c.in-Some.ensures.1), follows_taken c.loop-row.invariant.1 (omega arith) _ _ c.in-Some.ensures.0 c.step.result (state_of c.step.new.s) c.step.ensures (grind arith))

pub loop-row-smaller : goal.loop-row-smaller
loop-row-smaller c = omega (arith, row_shorter _ _ _ c.in-Some.ensures.1)

pub returns : goal.returns
returns c = ap by_number c.finish.ensures ∙ follows_last c.loop-row.invariant.1 (omega arith) c.in_default.ensures
