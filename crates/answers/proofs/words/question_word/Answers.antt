-- `question_word`: the first of the table. Assumes nothing.
use Rattle.std.proofs.Common.{rules, tests, ◌≡◌, refl, ap}
use Rattle.std.specs.Prelude.{option_map}
use Rattle.std.specs.Slice.Iter.{iter_rest}
use Rattle.std.proofs.lemmas.Iterator.{YieldsList-from_slice}
use Rattle.std.proofs.lemmas.Iterator.Search.{find_from_yields_List}
use Rattle.listings.specs.Bytes.{bytes, same}
use Rattle.answers.specs.QuestionWords.{said, question_table, word_is}
use Rattle.answers.proofs.words.question_word.Goals as goal

pub returns : goal.returns
unfolding question_table bytes
returns c =
    let w = c.args.w.now in
    let xs = iter_rest c.iter.result in
    let f = find_from_yields_List (λ d. same d.0.now w) _ _ c.find.result c.find.ensures.ran (YieldsList-from_slice xs refl) (λ x b q k. search (rules, tests)) in
    let r = option_map (λ x. x.now) c.find.result in
    let m : c.map.result ≡ option_map (λ d. d.1) r = search rules in
    word_is w xs r c.map.result (ap said c.iter.ensures.rest) f m
