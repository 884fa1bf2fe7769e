use Rattle.std.proofs.Common.{refl, ◌≡◌, ◌∙◌, ◌+◌, ◌≤◌, length, sym, arith}
use Rattle.std.specs.Prelude.{[], ◌∷◌}
use Rattle.listings.specs.Rows.{parsed, end_row, line_row}
use Rattle.basic.specs.Lines.{word_at}
use Rattle.basic.specs.Rows.{lines_at, contents_from}
use Rattle.basic.specs.RowLaws.{lines_unlinked, lines_line, first_rw}
use Rattle.basic.proofs.rows.line_row_at.Goals as goal
use Rattle.basic.proofs.rows.line_row_at.Goals.{then-left-lt4-via-then-left-lt4, then-left-lt4-via-else-left-lt4+then-word_at-eq0}

pub returns-then-left-lt4 : goal.returns-then-left-lt4
returns-then-left-lt4 c z t =
    let f = c.args.file.now in
    let unlinked : c.args.at + 4 ≤ length f → word_at f c.args.at ≡ 0 = λ h. elim c.then-left-lt4.branch [
      | then-left-lt4-via-then-left-lt4 w ↦ absurd (omega arith)
      | then-left-lt4-via-else-left-lt4+then-word_at-eq0 w ↦ sym w.word_at.ensures ∙ w.if-word_at-eq0.true
    ] in
    first_rw f (lines_at f c.args.at) (end_row ∷ []) c.module_end.result (lines_unlinked f c.args.at unlinked) (c.module_end.ensures f z t)

pub returns : goal.returns
unfolding contents_from
returns c z t =
    let f = c.args.file.now in
    let linked : word_at f c.args.at ≡ 0 → ⊥ = λ e. c.if-word_at-eq0.false (c.word_at.ensures ∙ e) in
    record { content = line_row (parsed c.word_at-2.result); says = refl; behind = rw c.uncovered.ensures (lines_line f c.args.at c.word_at-2.result (omega arith) linked c.word_at-2.ensures) }
