-- `frame_words`: four words, each judged. Assumes nothing.
use Rattle.std.proofs.Common.{rules, ◌≡◌, subst, Some}
use Rattle.answers.specs.QuestionWords.{WordsCut, frame_read_lem}
use Rattle.answers.proofs.words.frame_words.Goals as goal

pub returns : goal.returns
returns c =
    let w = c.in_ok-w.w in
    let e : c.four_words.result ≡ Some w = search rules in
    let g = subst (WordsCut c.args.s.now) e c.four_words.ensures in
    frame_read_lem c.args.s.now w.header.now w.node.now w.name w.flag.now g c.number.result c.number-2.result c.flag_of.result c.frame_by.result c.number.ensures c.number-2.ensures c.flag_of.ensures c.frame_by.ensures
