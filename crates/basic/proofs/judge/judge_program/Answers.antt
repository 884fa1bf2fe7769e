-- `judge_program`: some lines are counted so, and the rest is read behind them as the whole is. Assumes nothing.
use Rattle.std.proofs.Common.{◌+◌, ◌≤◌, length, arith, sym, ap, ◌∙◌}
use Rattle.basic.specs.Found.{handed_err}
use Rattle.basic.specs.Judge.{judged_of, told_of}
use Rattle.basic.specs.ReadLaws.{file_long, follows_cut, follows_early, follows_end, follows_refused, follows_start, follows_taken, next_place_lem}
use Rattle.basic.proofs.judge.judge_program.Goals as goal

pub returns-then-len-gt-MAX_BYTES : goal.returns-then-len-gt-MAX_BYTES
unfolding judged_of
returns-then-len-gt-MAX_BYTES c = rw c.at.ensures (ap judged_of (sym (file_long c.args.file.now c.if-len-gt-MAX_BYTES.true)))

pub loop-at-init : goal.loop-at-init
loop-at-init c = (omega arith, follows_start c.args.file.now _ (omega arith) c.start-s.ensures.last c.start-s.ensures.lines c.start-s.ensures.stmts)

pub returns-then-len-at : goal.returns-then-len-at
returns-then-len-at c = rw c.at-then-len-at.ensures (follows_early c.loop-at.invariant.1 (omega arith))

pub returns-then-word_at-eq0 : goal.returns-then-word_at-eq0
returns-then-word_at-eq0 c = follows_end c.loop-at.invariant.1 (omega arith) (sym c.word_at.ensures ∙ c.if-word_at-eq0.true)

pub returns-then-len-at-2 : goal.returns-then-len-at-2
returns-then-len-at-2 c =
    rw c.at-then-len-at-2.ensures (follows_cut c.loop-at.invariant.1 (λ e. c.if-word_at-eq0.false (c.word_at.ensures ∙ e)) (omega arith) (omega arith))

pub returns-in_err-line : goal.returns-in_err-line
returns-in_err-line c =
    ap told_of (handed_err c.from_residual.result _ c.from_residual.ensures.1)
    ∙ follows_refused c.loop-at.invariant.1 (omega arith) c.in_err-line.field-0.0 c.in_err-line.ensures.told

pub loop-at-preserved : goal.loop-at-preserved
loop-at-preserved c =
    let h : c.loop-at.at + 4 ≤ length c.args.file.now = omega arith in
    let n = next_place_lem c.args.file.now c.loop-at.at c.in_ok-line.line.next h c.in_ok-line.ensures.kept in
    (omega arith, follows_taken c.loop-at.invariant.1 (omega arith) c.in_ok-line.line n.0 c.in_ok-line.ensures.told)

pub loop-at-smaller : goal.loop-at-smaller
loop-at-smaller c =
    let h : c.loop-at.at + 4 ≤ length c.args.file.now = omega arith in
    let n = next_place_lem c.args.file.now c.loop-at.at c.in_ok-line.line.next h c.in_ok-line.ensures.kept in
    omega arith
