-- `put_path`: asked, and put. Assumes nothing.
use Rattle.std.proofs.Common.{ℕ, rules, ◌≡◌, refl, ap, ◌∙◌, Err, drop}
use Rattle.listings.specs.Scan.{rest_all}
use Rattle.formatting.specs.Pages.{wrote_is}
use Rattle.answers.specs.AnswersAt.{path_answer, numbered_row, row_is, no_row}
use Rattle.answers.proofs.answers.put_path.Goals as goal

pub returns-in_err-node : goal.returns-in_err-node
unfolding path_answer
returns-in_err-node c =
    let e : c.from_residual.result ≡ Err c.in_err-node.field-0.0 = search rules in
    let t = c.args.g.now in
    rw e (refl, no_row (λ d. d) numbered_row _ _ c.in_err-node.ensures ∙ ap (path_answer t.counts.now t.stmts.now c.from-line.result) (rest_all c.args.numbers.now 1) ∙ ap (λ (l : ℕ). path_answer t.counts.now t.stmts.now l (drop 1 c.args.numbers.now)) c.from-line.ensures)

pub returns : goal.returns
unfolding path_answer numbered_row
returns c =
    let t = c.args.g.now in
    wrote_is (row_is (λ d. d) numbered_row _ _ c.in_ok-node.ensures ∙ ap (path_answer t.counts.now t.stmts.now c.from-line.result) (rest_all c.args.numbers.now 1) ∙ ap (λ (l : ℕ). path_answer t.counts.now t.stmts.now l (drop 1 c.args.numbers.now)) c.from-line.ensures) c.put_stmt.ensures
