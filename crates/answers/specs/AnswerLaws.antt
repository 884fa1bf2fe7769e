-- From a question's words to its answer, as the code goes. Assumes nothing.
use Rattle.std.specs.Prelude.{ℕ, ◌-◌, ◌≤◌, ◌<◌, ◌≡◌, refl, List, [], ◌∷◌, ◌++◌, map, Result, Ok, Err, Bool, false, leb, length, get_or, take, drop, replicate}
use Rattle.std.proofs.Common.{sym, ap, ◌∙◌, subst, arith, not-suc-le-zero, length-drop, length-append, take_at}
use Rattle.std.proofs.lemmas.List.{length-map}
use borrow.Author.Tests.{le-leb, lt-leb}
use Rattle.listings.specs.Bytes.{bytes}
use Rattle.listings.specs.Listing.{Name}
use Rattle.listings.specs.Records.{padded}
use Rattle.listings.specs.Rows.{split, row_of, Parse, malformed, invalid, parsed, map_parse, with_parse, parse_number, parse_numbers, single}
use Rattle.listings.specs.Read.{Outcome, taken, or_refused, check}
use Rattle.listings.specs.Scan.{split-some}
use Rattle.layout.specs.declared.refusals.Reason.{Reason}
use Rattle.layout.specs.declared.refusals.Reason.TheVariants as reason
use Rattle.layout.specs.declared.refusals.Refusal.{Refusal}
use Rattle.layout.specs.Refusals.{number_of, refusal_at}
use Rattle.tokens.specs.Numbers.{as_number}
use Rattle.tokens.specs.declared.arguments.Checked.{Checked}
use Rattle.tokens.specs.Arguments.{checked, verdict, verdict_number, refusal_by, lowest, lowest_of, refusal_with, numbers_refusal}
use Rattle.reader.specs.Operands.{number_entry, entry_by}
use Rattle.graph.specs.Print.{printed_refusal}
use Rattle.formatting.specs.Pages.{Wrote, wrote_is}
use Rattle.formatting.specs.declared.page.Page.{Page}
use Rattle.graph.specs.Questions.{Reply, answer}
use Rattle.frame_lists.specs.FrameAt.{frame_at}
use Rattle.frame_slices.specs.FrameAnswer.{FrameAnswered, length_of, slice_after}
use Rattle.answers.specs.Flowask.{Question, of_path, of_frame, by_number, path_question, form_question, row_question, path_length, short, question, list_row, reply_row}
use Rattle.answers.specs.AnswersAt.{frame_answer}
use Rattle.answers.specs.QuestionWords.{number_question}
use Rattle.answers.specs.declared.words.ByNumber.{ByNumber}
use Rattle.answers.specs.declared.words.ByNumber.TheVariants as of

-- ---- the frame list in the room for it

pub framed_list : (q : Reply (List ℕ)) (o o' : List ℕ) (n : ℕ) → FrameAnswered q o o' (Ok n) → (n ≤ length o') × (q ≡ answer (take n o'))
unfolding length_of slice_after padded
framed_list (answer l) o o' n g =
    let m : n ≡ length l = let z = g.answered in cc in
    let s : o' ≡ l ++ replicate (length o - length l) 0 = g.slice in (
      omega (arith, ap length s, length-append l (replicate (length o - length l) 0), m),
      ap answer (sym (ap (λ (z : ℕ). take z o') m ∙ ap (take (length l)) s ∙ take_at l (replicate (length o - length l) 0) (length l) refl)),
    )
framed_list (Reply.refused k p) o o' n g = let z : ◌≡◌ {A = ℕ} 0 1 = let e = g.answered in cc in absurd (omega arith)

pub framed_refused : (q : Reply (List ℕ)) (o o' : List ℕ) (r : Refusal) → FrameAnswered q o o' (Err r) → q ≡ Reply.refused (number_of r.reason) r.place
unfolding length_of
framed_refused (answer l) o o' r g = let z : ◌≡◌ {A = ℕ} 0 1 = let e = g.answered in cc in absurd (omega arith)
framed_refused (Reply.refused k j) o o' r g =
    let x : k ≡ number_of r.reason = let e = g.answered in cc in
    let y : j ≡ r.place = let e = g.answered in cc in
    rw (x, y) refl

module _ (c t a f i u : List ℕ) (h n : ℕ) (v : Name) (g : Bool) (o o' : List ℕ) (r : Result ℕ Refusal) (told : FrameAnswered (frame_at (get_or c 0 0) (get_or c 1 0) t a f i u h n v g (length o)) o o' r) (size : length o ≡ 4096) where
  pub frame_fits : (m : ℕ) → r ≡ Ok m → m ≤ length o'
  frame_fits m e = (framed_list (frame_at (get_or c 0 0) (get_or c 1 0) t a f i u h n v g (length o)) o o' m (subst (FrameAnswered (frame_at (get_or c 0 0) (get_or c 1 0) t a f i u h n v g (length o)) o o') e told)).0

  pub frame_put : (m : ℕ) → r ≡ Ok m → list_row (bytes "(frame") (take m o') ≡ frame_answer c t a f i u h n v g
  unfolding frame_answer reply_row
  frame_put m e =
      let q = (framed_list (frame_at (get_or c 0 0) (get_or c 1 0) t a f i u h n v g (length o)) o o' m (subst (FrameAnswered (frame_at (get_or c 0 0) (get_or c 1 0) t a f i u h n v g (length o)) o o') e told)).1 in
      sym (ap (reply_row (list_row (bytes "(frame"))) (ap (frame_at (get_or c 0 0) (get_or c 1 0) t a f i u h n v g) (sym size) ∙ q))

  pub frame_turned : (x : Refusal) → r ≡ Err x → printed_refusal (number_of x.reason) x.place ≡ frame_answer c t a f i u h n v g
  unfolding frame_answer reply_row
  frame_turned x e =
      let q = framed_refused (frame_at (get_or c 0 0) (get_or c 1 0) t a f i u h n v g (length o)) o o' x (subst (FrameAnswered (frame_at (get_or c 0 0) (get_or c 1 0) t a f i u h n v g (length o)) o o') e told) in
      sym (ap (reply_row (list_row (bytes "(frame"))) (ap (frame_at (get_or c 0 0) (get_or c 1 0) t a f i u h n v g) (sym size) ∙ q))

-- ---- the numbers of a path

read_ok : {A : Type 0} (p : Parse A) (u : Unit {0}) → verdict p ≡ Ok u → (a : A) × (p ≡ parsed a)
read_ok malformed u h = absurd (let z : ◌≡◌ {A = ℕ} 0 1 = cc in omega arith)
read_ok invalid u h = absurd (let z : ◌≡◌ {A = ℕ} 0 1 = cc in omega arith)
read_ok (parsed a) u h = (a, refl)

with_parsed : {A B C : Type 0} (f : A → B → C) (p : Parse A) (q : Parse B) (r : C) → with_parse f p q ≡ parsed r → (a : A) × (b : B) × (p ≡ parsed a) × (q ≡ parsed b) × (r ≡ f a b)
unfolding with_parse
with_parsed f malformed q r e = absurd (let z : ◌≡◌ {A = ℕ} 0 1 = cc in omega arith)
with_parsed f invalid malformed r e = absurd (let z : ◌≡◌ {A = ℕ} 0 1 = cc in omega arith)
with_parsed f invalid invalid r e = absurd (let z : ◌≡◌ {A = ℕ} 0 1 = cc in omega arith)
with_parsed f invalid (parsed b) r e = absurd (let z : ◌≡◌ {A = ℕ} 0 1 = cc in omega arith)
with_parsed f (parsed a) malformed r e = absurd (let z : ◌≡◌ {A = ℕ} 0 1 = cc in omega arith)
with_parsed f (parsed a) invalid r e = absurd (let z : ◌≡◌ {A = ℕ} 0 1 = cc in omega arith)
with_parsed f (parsed a) (parsed b) r e = let z : f a b ≡ r = cc in (a, b, refl, refl, sym z)

number_is : (w : List ℕ) (n : ℕ) → parse_number w ≡ parsed n → entry_by false w ≡ n
unfolding entry_by number_entry
number_is w n e = rw e

numbers_are : (ws : List (List ℕ)) (ns : List ℕ) → parse_numbers ws ≡ parsed ns → map (entry_by false) ws ≡ ns
unfolding parse_numbers
numbers_are [] ns e = let z : [] ≡ ns = cc in z
numbers_are (w ∷ ws) ns e =
    let d = with_parsed (λ n l. n ∷ l) (parse_number w) (parse_numbers ws) ns e in
    let x : entry_by false w ≡ d.0 = number_is w d.0 d.2 in
    let y : map (entry_by false) ws ≡ d.1 = numbers_are ws d.1 d.3 in
    rw (x, y) (sym d.4)

path_is : (ws : List (List ℕ)) (q : Question) → path_question ws ≡ parsed q → q ≡ of_path (get_or (map (entry_by false) ws) 0 0) (drop 1 (map (entry_by false) ws))
unfolding path_question
path_is [] q e = absurd (let z : ◌≡◌ {A = ℕ} 0 1 = cc in omega arith)
path_is (l ∷ ws) q e =
    let d = with_parsed of_path (parse_number l) (parse_numbers ws) q e in
    let x : entry_by false l ≡ d.0 = number_is l d.0 d.2 in
    let y : map (entry_by false) ws ≡ d.1 = numbers_are ws d.1 d.3 in
    rw (x, y) d.4

path_verdict : (ws : List (List ℕ)) → 0 < length ws → verdict (path_question ws) ≡ lowest_of (refusal_by false) ws
unfolding path_question lowest_of refusal_by
path_verdict [] h = absurd (not-suc-le-zero h)
path_verdict (l ∷ ws) h = refusal_with of_path (parse_number l) (parse_numbers ws) ∙ ap (lowest (verdict (parse_number l))) (numbers_refusal ws)

-- ---- what a row says, answered

-- a refusal on the page, by its reason
pub refused_on : {p q : Page} (r : Reason) (k : ℕ) (x : Refusal) {l : List ℕ} → x ≡ refusal_at r k → printed_refusal (number_of r) k ≡ l → Wrote p q (printed_refusal (number_of x.reason) x.place) → Wrote p q l
refused_on r k x e h w = wrote_is (ap (λ (y : Refusal). printed_refusal (number_of y.reason) y.place) e ∙ h) w

-- by document 01's number
pub refused_by : (p : Parse Question) (r : Reason) → verdict p ≡ Err r → or_refused p short ≡ Outcome.refused (number_of r)
unfolding or_refused
refused_by malformed r e = ap (λ (m : ℕ). Outcome.refused m) (sym (verdict_number {A = Question} malformed r e))
refused_by invalid r e = ap (λ (m : ℕ). Outcome.refused m) (sym (verdict_number {A = Question} invalid r e))
refused_by (parsed q) r e = cc

pub asked_frame : (p : Parse Question) (h i : ℕ) (v : Name) (g : Bool) → p ≡ parsed (of_frame h i v g) → or_refused p short ≡ taken (of_frame h i v g)
unfolding or_refused short check path_length
asked_frame p h i v g e = rw e refl

asked_path : (p : Parse Question) (l : ℕ) (ns : List ℕ) → p ≡ parsed (of_path l ns) → or_refused p short ≡ check (leb (length ns) 64) 8 (taken (of_path l ns))
unfolding or_refused short path_length
asked_path p l ns e = rw e refl

-- the words of a path, as they were judged
module _ (s : List ℕ) (x : Checked) (e : x ≡ checked (length (split 32 s)) (lowest_of (refusal_by false) (split 32 s))) where
  abbrev ws : List (List ℕ)
  ws = split 32 s

  abbrev ns : List ℕ
  ns = map (entry_by false) (split 32 s)

  verdict_is : x.verdict ≡ lowest_of (refusal_by false) ws
  verdict_is = ap (λ (c : Checked). c.verdict) e

  pub path_refused : (r : Reason) → x.verdict ≡ Err r → or_refused (path_question (split 32 s)) short ≡ Outcome.refused (number_of r)
  path_refused r h = refused_by (path_question ws) r (path_verdict ws (split-some 32 s) ∙ sym verdict_is ∙ h)

  pub count_is : x.count ≡ length (split 32 s)
  count_is = ap (λ (c : Checked). c.count) e

  module _ (h : x.verdict ≡ Ok tt) where
    parsed_is : path_question ws ≡ parsed (of_path (get_or ns 0 0) (drop 1 ns))
    parsed_is =
        let d = read_ok (path_question ws) tt (path_verdict ws (split-some 32 s) ∙ sym verdict_is ∙ h) in
        d.1 ∙ ap parsed (path_is ws d.0 d.1)

    long : length (drop 1 ns) ≡ x.count - 1
    long = length-drop 1 ns ∙ omega (arith, length-map ws (entry_by false), count_is)

    pub path_8 : 65 < x.count → or_refused (path_question (split 32 s)) short ≡ Outcome.refused 8
    unfolding check
    path_8 m = asked_path (path_question ws) (get_or ns 0 0) (drop 1 ns) parsed_is ∙ ap (λ (t : Bool). check t 8 (taken (of_path (get_or ns 0 0) (drop 1 ns)))) (lt-leb (length (drop 1 ns)) 64 (omega (arith, long)))

    pub path_answered : x.count ≤ 65 → or_refused (path_question (split 32 s)) short ≡ taken (of_path (get_or (map (entry_by false) (split 32 s)) 0 0) (drop 1 (map (entry_by false) (split 32 s))))
    unfolding check
    path_answered m = asked_path (path_question ws) (get_or ns 0 0) (drop 1 ns) parsed_is ∙ ap (λ (t : Bool). check t 8 (taken (of_path (get_or ns 0 0) (drop 1 ns)))) (le-leb (length (drop 1 ns)) 64 (omega (arith, long)))

-- the numbers in the room for them
pub front_is : (ns r xs : List ℕ) (n : ℕ) → xs ≡ ns ++ r → n ≡ length ns → take n xs ≡ ns
front_is ns r xs n e q = rw (e, q) (take_at ns r (length ns) refl)

-- ---- a question of one number

module _ (s : List ℕ) (w : ByNumber) where
  pub number_refused : (x : Result ℕ Reason) (r : Reason) → x ≡ as_number (single (split 32 s)) → x ≡ Err r
      → or_refused (form_question (by_number (number_question w)) (split 32 s)) short ≡ Outcome.refused (number_of r)
  unfolding form_question map_parse
  number_refused x r q h = refused_by (map_parse (number_question w) (single (split 32 s))) r (go (single (split 32 s)) (sym q ∙ h))
    where
      go : (g : Parse ℕ) → as_number g ≡ Err r → verdict (map_parse (number_question w) g) ≡ Err r
      go malformed y = let z : reason.NotAForm ≡ r = cc in ap Err z
      go invalid y = let z : reason.BadWord ≡ r = cc in ap Err z
      go (parsed v) y = cc

  no_path : (w : ByNumber) (n : ℕ) → path_length (number_question w n) ≡ 0
  unfolding path_length
  no_path of.Successors n = refl
  no_path of.Predecessors n = refl
  no_path of.Statement n = refl
  no_path of.Entry n = refl

  taken_number : (r : Parse Question) (n : ℕ) → r ≡ parsed (number_question w n) → or_refused r short ≡ taken (number_question w n)
  unfolding or_refused short check
  taken_number r n q = rw (q, no_path w n) refl

  pub number_answered : (x : Result ℕ Reason) (n : ℕ) → x ≡ as_number (single (split 32 s)) → x ≡ Ok n
      → or_refused (form_question (by_number (number_question w)) (split 32 s)) short ≡ taken (number_question w n)
  unfolding form_question map_parse
  number_answered x n q h = taken_number (map_parse (number_question w) (single (split 32 s))) n (go (single (split 32 s)) (sym q ∙ h))
    where
      go : (r : Parse ℕ) → as_number r ≡ Ok n → map_parse (number_question w) r ≡ parsed (number_question w n)
      go malformed y = absurd (let z : ◌≡◌ {A = ℕ} 0 1 = cc in omega arith)
      go invalid y = absurd (let z : ◌≡◌ {A = ℕ} 0 1 = cc in omega arith)
      go (parsed m) y = let z : m ≡ n = cc in ap (λ (j : ℕ). parsed (number_question w j)) z

-- ---- a whole row

module _ (w : List ℕ) where
  pub row_refused : row_question (row_of w) ≡ malformed → question w ≡ Outcome.refused 2
  unfolding question
  row_refused e = refused_by (row_question (row_of w)) reason.NotAForm (ap verdict e)

  pub row_answered : (p : Parse Question) → row_question (row_of w) ≡ p → or_refused p short ≡ question w
  unfolding question
  row_answered p e = ap (λ (z : Parse Question). or_refused z short) (sym e)
