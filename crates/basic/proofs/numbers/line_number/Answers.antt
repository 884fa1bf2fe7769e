-- `line_number`: no digit stands first, or value is the number. Assumes nothing.
use Rattle.std.proofs.Common.{◌≡◌, ◌∙◌, ◌+◌, ◌*◌, ◌-◌, ap, sym, ℕ, arith, true}
use Rattle.listings.specs.Rows.{is_digit}
use Rattle.listing_laws.specs.NumberText.{digit_range}
use Rattle.basic.specs.Cursors.{tokens_at, next_more, next_shorter}
use Rattle.basic.specs.Numbers.{number_none, number_large, number_found, read-none, read_next}
use Rattle.tokens.specs.Numbers.{most_found, most_lacks}
use Rattle.program_files.specs.Program.{lacks}
use Rattle.basic.specs.Found.{handed_on, ok_or_found, ok_or_lacks}
use Rattle.basic.specs.declared.found.Lack.{Lack}
use Rattle.basic.proofs.numbers.line_number.Goals as goal

not_end : (b : ℕ) → is_digit b ≡ true → b ≡ 0 → ⊥
not_end b h e = let r = digit_range b h in omega arith

pub returns-then-not-is_digit : goal.returns-then-not-is_digit
returns-then-not-is_digit c =
    sym (number_none c.token_at-t.result.place c.token_at-t.result.byte _ _ c.token_at-t.ensures (sym c.is_digit.ensures ∙ c.if-not-is_digit.true))

pub loop-next-init : goal.loop-next-init
loop-next-init c = (c.token_at-t.ensures, read-none _)

pub overflow_sub-t : goal.overflow_sub-t
overflow_sub-t c = let r = digit_range c.loop-next.t.byte (sym c.is_digit-in-loop-next.ensures ∙ c.loop-next-test.true) in omega arith

pub returns-in_err-value : goal.returns-in_err-value
returns-in_err-value c =
    let T = tokens_at c.args.file.now in
    let t = c.loop-next.t in
    let d = sym c.is_digit-in-loop-next.ensures ∙ c.loop-next-test.true in
    let n = next_more T c.loop-next.next t c.loop-next.invariant.0 (not_end t.byte d) in
    let l = ok_or_lacks c.with_digit.result _ c.in_err-value.field-0.0 c.ok_or.result c.ok_or.ensures.value c.in_err-value.was in
    let w = sym c.with_digit.ensures ∙ l.0 in
    let m = most_lacks 63999 (c.loop-next.value * 10 + (t.byte - 48)) (rw c.from.ensures at w) in
    handed_on T c.from_residual.result _ c.from_residual.ensures.1 ∙ ap (λ (z : Lack). lacks z.place) l.1
    ∙ sym (number_large _ _ c.token_at-t.result.place c.token_at-t.result.byte c.token_at-t.ensures (sym c.is_digit.ensures ∙ c.if-not-is_digit.false)
    _ _ c.loop-next.value t.place t.byte c.loop-next.invariant.1 n d m)

pub loop-next-smaller : goal.loop-next-smaller
loop-next-smaller c =
    let h = not_end c.loop-next.t.byte (sym c.is_digit-in-loop-next.ensures ∙ c.loop-next-test.true) in
    omega (arith, next_shorter (tokens_at c.args.file.now) c.loop-next.next c.loop-next.t c.loop-next.invariant.0 h)

pub loop-next-preserved : goal.loop-next-preserved
loop-next-preserved c =
    let t = c.loop-next.t in
    let d = sym c.is_digit-in-loop-next.ensures ∙ c.loop-next-test.true in
    let n = next_more (tokens_at c.args.file.now) c.loop-next.next t c.loop-next.invariant.0 (not_end t.byte d) in
    let w = sym c.with_digit.ensures ∙ ok_or_found c.with_digit.result _ c.ok_or.result _ c.ok_or.ensures.value c.in_ok-value.was in
    let m = most_found 63999 (c.loop-next.value * 10 + (t.byte - 48)) c.in_ok-value.value (rw c.from.ensures at w) in
    (c.token_at-t-in-loop-next.ensures, read_next _ _ _ c.loop-next.value _ t.place t.byte c.loop-next.invariant.1 n d m.0 (omega arith))

pub returns : goal.returns
returns c =
    rw c.from-2.ensures
    (sym (number_found _ _ c.token_at-t.result.place c.token_at-t.result.byte c.token_at-t.ensures (sym c.is_digit.ensures ∙ c.if-not-is_digit.false)
    _ _ c.loop-next.value c.loop-next.t.place c.loop-next.t.byte c.loop-next.invariant.1 c.loop-next.invariant.0 (sym c.is_digit-in-loop-next.ensures ∙ c.loop-next-test.false)))
