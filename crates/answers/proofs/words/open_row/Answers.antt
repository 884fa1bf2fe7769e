-- `open_row`: both brackets, and what stands between. Assumes nothing.
use Rattle.std.proofs.Common.{rules, ◌≡◌, [], ◌∷◌, None, Some}
use Rattle.std.proofs.lemmas.Bool.Decides.{Decides-eqb}
use Rattle.std.proofs.lemmas.Slice.Eq.{strip_prefix_is, strip_suffix_is}
use Rattle.answers.specs.QuestionWords.{row_no_form, row_open, row_form}
use Rattle.answers.proofs.words.open_row.Goals as goal

pub returns-in_err-strip_prefix : goal.returns-in_err-strip_prefix
returns-in_err-strip_prefix c =
    let e : c.from_residual.result ≡ None = search rules in
    rw e (row_no_form c.args.w.now (strip_prefix_is Decides-eqb c.args.w.now (40 ∷ []) None c.in_err-strip_prefix.ensures.cases))

pub returns-in_err-strip_suffix : goal.returns-in_err-strip_suffix
returns-in_err-strip_suffix c =
    let e : c.from_residual-in_err-strip_suffix.result ≡ None = search rules in
    let l = c.in_ok-strip_prefix.field-0.now in
    let p = strip_prefix_is Decides-eqb c.args.w.now (40 ∷ []) (Some c.in_ok-strip_prefix.field-0) c.in_ok-strip_prefix.ensures.cases in
    rw e (row_open c.args.w.now l p (strip_suffix_is Decides-eqb l (41 ∷ []) None c.in_err-strip_suffix.ensures.cases))

pub returns : goal.returns
returns c =
    let l = c.in_ok-strip_prefix.field-0.now in
    let p = strip_prefix_is Decides-eqb c.args.w.now (40 ∷ []) (Some c.in_ok-strip_prefix.field-0) c.in_ok-strip_prefix.ensures.cases in
    row_form c.args.w.now l p c.in_ok-strip_suffix.field-0.now (strip_suffix_is Decides-eqb l (41 ∷ []) (Some c.in_ok-strip_suffix.field-0) c.in_ok-strip_suffix.ensures.cases) c.open_form.result c.open_form.ensures
