-- `put_rows`: the rows before `left` are answered. Assumes nothing.
use Rattle.std.proofs.Common.{refl, sym, arith}
use Rattle.tokens.specs.Scan.{row_shorter}
use Rattle.answers.specs.AnswersAt.{answer_of}
use Rattle.answers.specs.AnswerLaws.{refused_on}
use Rattle.listings.specs.Bytes.{bytes}
use Rattle.answers.specs.TextLaws.{answers_cut, answers_end, answers_over, answers_next}
use Rattle.answers.proofs.text.put_rows.Goals as goal

pub returns-then-is_empty : goal.returns-then-is_empty
unfolding bytes
returns-then-is_empty c = let l = c.loop-row in answers_end (answer_of c.args.g.now) c.args.text.now _ _ l.page l.k l.left.now l.invariant.1 c.in-Some.row.now c.in-Some.rest.now c.in-Some.ensures.0 (sym c.if-equal.ensures) (grind arith)

pub returns-then-equal : goal.returns-then-equal
unfolding bytes
returns-then-equal c =
    let l = c.loop-row in
    answers_over (answer_of c.args.g.now) c.args.text.now _ _ _ l.k l.left.now l.invariant.1 c.in-Some.row.now c.in-Some.rest.now c.in-Some.ensures.0 (sym c.if-equal.ensures) (grind arith)
    (refused_on _ _ _ c.at.ensures refl c.put_refusal.ensures)

pub loop-row-preserved : goal.loop-row-preserved
unfolding bytes
loop-row-preserved c =
    let l = c.loop-row in
    (omega (arith, row_shorter _ _ _ c.in-Some.ensures.1), answers_next (answer_of c.args.g.now) c.args.text.now _ _ _ l.k l.left.now l.invariant.1 c.in-Some.row.now c.in-Some.rest.now c.in-Some.ensures.0 (sym c.if-equal.ensures) c.answer_row.ensures)

pub returns : goal.returns
returns c = let l = c.loop-row in answers_cut (answer_of c.args.g.now) c.args.text.now _ _ _ l.k l.left.now l.invariant.1 c.in_default.ensures (refused_on _ l.k _ c.at-2.ensures refl c.put_refusal-2.ensures)
