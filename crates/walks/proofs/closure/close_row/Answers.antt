-- `close_row`: row k joined into a row that has node k, or nothing. Assumes nothing.
use Rattle.std.proofs.Common.{rules, ◌≡◌, sym, ap, ◌∙◌, ◌-◌, ◌*◌, arith, eqb, eqb-true, eq-eqb, take, drop}
use Rattle.passes.specs.Connecting.{no}
use Rattle.passes.specs.Sets.{bit, In}
use Rattle.passes.specs.ReturnSets.{set_of}
use Rattle.passes.specs.ReturnSetLaws.{row_part}
use Rattle.passes.specs.ClosureLaws.{row_kept, row_joined}
use Rattle.walks.proofs.closure.close_row.Goals as goal

pub returns-then-has_bit : goal.returns-then-has_bit
returns-then-has_bit c =
    let a = c.args in
    let w = c.words_of.ensures in
    let v = c.words_of-then-has_bit.ensures in
    let p : take (c.words_of.result.end - c.words_of.result.start) (drop c.words_of.result.start a.rows.now) ≡ set_of a.rows.now a.i = rw w.0 (row_part a.rows.now a.i _ (omega (arith, w))) in
    let has : In (set_of a.rows.now a.i) a.k = eqb-true _ _ (ap (λ l. eqb (bit l a.k) 1) (sym p) ∙ sym c.has_bit.ensures ∙ c.if-has_bit.true) in
    let k : c.words_of-then-has_bit.result.end - a.i * 64 ≡ 64 = omega (arith, v) in
    rw v.0 (row_joined a.k a.row.now a.i _ a.rows.now c.join.new.set has (search rules) k c.requires.1 (rw v.0 at c.join.ensures))

pub returns-else-has_bit : goal.returns-else-has_bit
returns-else-has_bit c =
    let a = c.args in
    let w = c.words_of.ensures in
    let p : take (c.words_of.result.end - c.words_of.result.start) (drop c.words_of.result.start a.rows.now) ≡ set_of a.rows.now a.i = rw w.0 (row_part a.rows.now a.i _ (omega (arith, w))) in
    row_kept a.k a.row.now a.i a.rows.now (λ e. no (sym (ap (λ l. eqb (bit l a.k) 1) p ∙ eq-eqb _ _ e) ∙ sym c.has_bit.ensures ∙ c.if-has_bit.false))
