-- `answer_path`: 2 or 3, 8, or the answer. Assumes nothing.
use Rattle.std.proofs.Common.{ℕ, List, rules, arith, ◌≡◌, refl, sym, ap, ◌∙◌, Err, false, map, get_or, drop}
use lib.ListN.{length-map}
use Rattle.listings.specs.Rows.{split}
use Rattle.listings.specs.Scan.{split-some}
use Rattle.reader.specs.Operands.{entry_by}
use Rattle.answers.specs.Flowask.{of_path}
use Rattle.answers.specs.AnswersAt.{answer_at, path_answer, answered_is}
use Rattle.answers.specs.AnswerLaws.{path_refused, path_8, path_answered, count_is, front_is}
use Rattle.answers.proofs.answers.answer_path.Goals as goal

pub returns-in_err-words : goal.returns-in_err-words
returns-in_err-words c =
    let w = c.check_all-words in
    let e : c.from_residual.result ≡ Err c.in_err-words.field-0.0 = search rules in
    rw e (refl, path_refused c.args.s.now w.result w.ensures _ c.in_err-words.was)

pub returns-then-words-gt-MAX_PATH_WORDS : goal.returns-then-words-gt-MAX_PATH_WORDS
returns-then-words-gt-MAX_PATH_WORDS c =
    let w = c.check_all-words in
    (refl, path_8 c.args.s.now w.result w.ensures (grind arith) c.if-words-gt-MAX_PATH_WORDS.true)

pub put_path-requires : goal.put_path-requires
put_path-requires c =
    let w = c.check_all-words in
    let ws = split 32 c.args.s.now in
    let n = count_is c.args.s.now w.result w.ensures in
    let e = front_is (map (entry_by false) ws) _ _ w.result.count c.fill_numbers.ensures (n ∙ sym (length-map ws (entry_by false))) in
    rw (e, length-map ws (entry_by false)) (split-some 32 c.args.s.now)

pub returns : goal.returns
unfolding answer_at
returns c =
    let w = c.check_all-words in
    let ws = split 32 c.args.s.now in
    let n = count_is c.args.s.now w.result w.ensures in
    let e = front_is (map (entry_by false) ws) _ _ w.result.count c.fill_numbers.ensures (n ∙ sym (length-map ws (entry_by false))) in
    let t = c.args.g.now in (
      of_path (get_or (map (entry_by false) ws) 0 0) (drop 1 (map (entry_by false) ws)),
      path_answered c.args.s.now w.result w.ensures (grind arith) c.if-words-gt-MAX_PATH_WORDS.false,
      answered_is _ _ c.put_path.result (ap (λ (l : List ℕ). path_answer t.counts.now t.stmts.now (get_or l 0 0) (drop 1 l)) e) c.put_path.ensures,
    )
