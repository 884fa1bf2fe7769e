-- `open_form`: the opening word, and words after it. Assumes nothing.
use Rattle.std.proofs.Common.{rules, ◌≡◌, sym, ◌∙◌, None}
use Rattle.answers.specs.QuestionWords.{form_none, form_alone, form_other, form_words}
use Rattle.answers.proofs.words.open_form.Goals as goal

pub returns-then-not-are_words : goal.returns-then-not-are_words
returns-then-not-are_words c = form_none c.args.s.now (sym c.are_words.ensures ∙ c.if-not-are_words.true)

pub returns-in_err-word : goal.returns-in_err-word
returns-in_err-word c =
    let e : c.from_residual.result ≡ None = search rules in
    rw e (form_alone c.args.s.now (sym c.are_words.ensures ∙ c.if-not-are_words.false) c.in_err-word.ensures)

pub returns-in_err-form : goal.returns-in_err-form
returns-in_err-form c =
    let e : c.from_residual-in_err-form.result ≡ None = search rules in
    rw e (form_other c.args.s.now (sym c.are_words.ensures ∙ c.if-not-are_words.false) _ _ c.in_ok-word.ensures c.question_word.result c.question_word.ensures c.in_err-form.was)

pub returns : goal.returns
returns c = form_words c.args.s.now (sym c.are_words.ensures ∙ c.if-not-are_words.false) _ _ c.in_ok-word.ensures c.question_word.result _ c.question_word.ensures c.in_ok-form.was
