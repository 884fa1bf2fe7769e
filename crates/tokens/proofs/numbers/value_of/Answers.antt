-- `value_of`: v is the value of the digits read so far; once it is above 65535 the whole is. Assumes nothing.
use Rattle.std.proofs.Common.{arith, add-one, ap, sym, ◌∙◌, ◌≡◌, ◌*◌, ◌+◌, ◌-◌, ◌≤◌, ◌<◌, suc, drop, drop_of_length-le, get_or, List, ℕ, true, length}
use Rattle.std.specs.Prelude.{Some}
use Rattle.listing_laws.specs.NumberText.{digit_range}
use Rattle.listings.specs.Rows.{all, is_digit, value}
use Rattle.listings.specs.Scan.{all-at}
use Rattle.tokens.specs.Numbers.{most_found, most_lacks, small_none, small_some, value_grows, value_next}
use Rattle.tokens.proofs.numbers.value_of.Goals as goal

-- the byte at i is a digit
digit_at : (w : List ℕ) (i : ℕ) → all is_digit w ≡ true → i < length w → (48 ≤ get_or w i 0) × (get_or w i 0 ≤ 57)
digit_at w i h lt = digit_range (get_or w i 0) (all-at is_digit w i h lt)

pub overflow_sub-b : goal.overflow_sub-b
overflow_sub-b c = (digit_at c.args.w.now c.loop-b.b-index c.requires (omega arith)).0

pub returns-in_err-v : goal.returns-in_err-v
returns-in_err-v c =
    let w = c.args.w.now in
    let x = c.loop-b.v * 10 + (get_or w c.loop-b.b-index 0 - 48) in
    let f : value c.loop-b.v (drop c.loop-b.b-index w) ≡ value x (drop (suc c.loop-b.b-index) w) = value_next c.loop-b.v w c.loop-b.b-index (omega arith) in
    let m = sym c.with_digit.ensures ∙ c.in_err-v.was in
    let h : 65535 < x = most_lacks 65535 x (rw c.from.ensures at m) in
    c.from_residual.ensures ∙ sym (small_none w (omega (arith, value_grows x (drop (suc c.loop-b.b-index) w), f, c.loop-b.invariant.1)))

pub loop-b-preserved : goal.loop-b-preserved
loop-b-preserved c =
    let w = c.args.w.now in
    let x = c.loop-b.v * 10 + (get_or w c.loop-b.b-index 0 - 48) in
    let e = sym c.with_digit.ensures ∙ c.in_ok-v.was in
    let m : (c.in_ok-v.v ≡ x) × (x ≤ 65535) = most_found 65535 x _ (rw c.from.ensures at e) in
    (omega arith, rw (add-one, m.0) (sym (value_next c.loop-b.v w c.loop-b.b-index (omega arith)) ∙ c.loop-b.invariant.1))

pub returns : goal.returns
unfolding value
returns c =
    let l = c.loop-b in
    let w = c.args.w.now in
    let f : l.v ≡ value 0 w = sym (ap (value l.v) (drop_of_length-le w {i = l.b-index} (omega arith))) ∙ l.invariant.1 in
    ap Some f ∙ sym (small_some w (omega (arith, f)))
