-- `four_words`: one word after the other. Assumes nothing.
use Rattle.std.proofs.Common.{rules, ◌≡◌, None}
use Rattle.answers.specs.QuestionWords.{one_word, two_words, three_words, words_cut}
use Rattle.answers.proofs.words.four_words.Goals as goal

pub returns-in_err-header : goal.returns-in_err-header
returns-in_err-header c =
    let e : c.from_residual.result ≡ None = search rules in
    rw e (one_word c.args.s.now c.in_err-header.ensures)

pub returns-in_err-node : goal.returns-in_err-node
returns-in_err-node c =
    let e : c.from_residual-in_err-node.result ≡ None = search rules in
    rw e (two_words c.args.s.now _ _ c.in_ok-header.ensures c.in_err-node.ensures)

pub returns-in_err-name : goal.returns-in_err-name
returns-in_err-name c =
    let e : c.from_residual-in_err-name.result ≡ None = search rules in
    rw e (three_words c.args.s.now _ _ c.in_ok-header.ensures _ _ c.in_ok-node.ensures c.in_err-name.ensures)

pub returns : goal.returns
returns c = words_cut c.args.s.now _ _ c.in_ok-header.ensures _ _ c.in_ok-node.ensures _ _ c.in_ok-name.ensures
