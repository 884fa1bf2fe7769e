-- The words of a question's row, as the code finds them. Assumes nothing.
use Rattle.std.specs.Prelude.{ℕ, zero, suc, ◌+◌, ◌-◌, ◌≤◌, ◌<◌, ◌≡◌, refl, List, [], ◌∷◌, ◌++◌, map, Bool, true, false, eqb, ltb, length, get_or, take, drop, Result, Ok, Err}
use Rattle.std.specs.Prelude as std
use Rattle.std.specs.List.{find}
use Rattle.std.proofs.Math.Option.{Option, none, some}
use Rattle.std.proofs.Common.{eqb-true, ne_eqb, sym, ap, ◌∙◌, arith}
use denote.Ref.{Bor}
use Rattle.listings.specs.Bytes.{bytes, same, pick}
use Rattle.listings.specs.Rows.{split, on_first, are_words, strip_close, close, bad, form, form_row, row_of, lookup, Parse, malformed, invalid, parsed, map_parse, with_parse, parse_number, or_malformed, single, handler_facts}
use Rattle.listing_laws.specs.WordText.{same_equal}
use Rattle.listing_laws.specs.RowForms.{join, join-split}
use Rattle.layout.specs.declared.refusals.Reason.{Reason}
use Rattle.layout.specs.declared.refusals.Reason.TheVariants as reason
use Rattle.layout.specs.Refusals.{number_of}
use Rattle.tokens.specs.Numbers.{as_number, flag_of}
use Rattle.tokens.specs.Arguments.{lowest, verdict}
use Rattle.reader.specs.CodedRows.{form_true}
use Rattle.answers.specs.Flowask.{Question, of_successors, of_predecessors, of_statement, of_entry, of_frame, QuestionForm, by_number, by_path, by_frame, question_words, path_question, frame_question, form_question, word_question, row_question}
use Rattle.answers.specs.declared.words.ByNumber.{ByNumber}
use Rattle.answers.specs.declared.words.ByNumber.TheVariants as of
use Rattle.answers.specs.declared.words.Form.{Form}
use Rattle.answers.specs.declared.words.Form.TheVariants as form
use Rattle.answers.specs.declared.words.Opened.{Opened}
use Rattle.answers.specs.declared.words.FourWords.{FourWords}
use Rattle.answers.specs.declared.words.FrameWords.{FrameWords}

-- ---- the opening word

-- the question of one number
abbrev pub number_question : ByNumber → ℕ → Question
number_question of.Successors n = of_successors n
number_question of.Predecessors n = of_predecessors n
number_question of.Statement n = of_statement n
number_question of.Entry n = of_entry n

-- what follows that word
abbrev pub form_at : Form → QuestionForm
form_at (form.Number w) = by_number (number_question w)
form_at form.Path = by_path
form_at form.Frame = by_frame

abbrev pub form_by : std.Option Form → Option QuestionForm
form_by std.None = none
form_by (std.Some f) = some (form_at f)

-- ---- a row

abbrev pub FormOpened : List ℕ → std.Option Opened → Type 0
FormOpened s std.None = row_question (form_row true (split 32 s)) ≡ malformed
FormOpened s (std.Some o) = row_question (form_row true (split 32 s)) ≡ form_question (form_at o.form) (split 32 o.words.now)

abbrev pub RowOpened : List ℕ → std.Option Opened → Type 0
RowOpened w std.None = row_question (row_of w) ≡ malformed
RowOpened w (std.Some o) = row_question (row_of w) ≡ form_question (form_at o.form) (split 32 o.words.now)

form_no_words : (c : Bool) (s : List ℕ) → are_words (split 32 s) ≡ false → row_question (form_row c (split 32 s)) ≡ malformed
unfolding form_row row_question
form_no_words c s h = go (split 32 s) h
  where
    go : (ws : List (List ℕ)) → are_words ws ≡ false → row_question (form_row c ws) ≡ malformed
    go [] e = refl
    go (w ∷ ws) e = rw e

pub form_none : (s : List ℕ) → are_words (split 32 s) ≡ false → FormOpened s std.None
form_none s h = form_no_words true s h

no_more : (o : Option QuestionForm) → word_question o [] ≡ malformed
unfolding word_question form_question map_parse single path_question frame_question
no_more none = refl
no_more (some (by_number q)) = refl
no_more (some by_path) = refl
no_more (some by_frame) = refl

form_word : (w : List ℕ) (ws : List (List ℕ)) → are_words (w ∷ ws) ≡ true → row_question (form_row true (w ∷ ws)) ≡ word_question (lookup question_words w) ws
unfolding row_question
form_word w ws h = ap row_question (form_true true w ws h)

module _ (s : List ℕ) (ok : are_words (split 32 s) ≡ true) where
  pub form_alone : split 32 s ≡ s ∷ [] → FormOpened s std.None
  form_alone p = ap (λ (z : List (List ℕ)). row_question (form_row true z)) p ∙ form_word s [] (ap are_words (sym p) ∙ ok) ∙ no_more (lookup question_words s)

  module _ (w v : List ℕ) (p : split 32 s ≡ w ∷ split 32 v) where
    word_first : (q : std.Option Form) → lookup question_words w ≡ form_by q → row_question (form_row true (split 32 s)) ≡ word_question (form_by q) (split 32 v)
    word_first q a =
        ap (λ (z : List (List ℕ)). row_question (form_row true z)) p ∙ form_word w (split 32 v) (ap are_words (sym p) ∙ ok) ∙ ap (λ (o : Option QuestionForm). word_question o (split 32 v)) a

    pub form_other : (q : std.Option Form) → lookup question_words w ≡ form_by q → q ≡ std.None → FormOpened s std.None
    unfolding word_question
    form_other q a b = word_first q a ∙ ap (λ (o : std.Option Form). word_question (form_by o) (split 32 v)) b

    pub form_words : (q : std.Option Form) (f : Form) → lookup question_words w ≡ form_by q → q ≡ std.Some f → row_question (form_row true (split 32 s)) ≡ form_question (form_at f) (split 32 v)
    unfolding word_question
    form_words q f a b = word_first q a ∙ ap (λ (o : std.Option Form). word_question (form_by o) (split 32 v)) b

pub row_no_form : (w : List ℕ) → ((l : List ℕ) → w ≡ (40 ∷ []) ++ l → ⊥) → RowOpened w std.None
unfolding row_of row_question
row_no_form [] h = refl
row_no_form (b ∷ w) h = rw (ne_eqb b 40 (λ e. h w (ap (λ (z : ℕ). z ∷ w) e))) (go (same (b ∷ w) (41 ∷ [])))
  where
    go : (t : Bool) → row_question (pick t close bad) ≡ malformed
    go true = refl
    go false = refl

-- what ends with `)`, without it
strip_is : (l : List ℕ) → strip_close (l ++ (41 ∷ [])) ≡ (true, l)
unfolding strip_close
strip_is [] = refl
strip_is (b ∷ []) = refl
strip_is (b ∷ c ∷ l) = rw (strip_is (c ∷ l))

strip_back : (l : List ℕ) → (strip_close l).0 ≡ true → l ≡ (strip_close l).1 ++ (41 ∷ [])
unfolding strip_close
strip_back [] h = absurd (let z : ◌≡◌ {A = ℕ} 0 1 = cc in omega arith)
strip_back (b ∷ []) h = go (eqb b 41) refl h
  where
    last : Bool → Bool × List ℕ
    last t = pick t (true, []) (false, b ∷ [])

    go : (t : Bool) → eqb b 41 ≡ t → (last t).0 ≡ true → b ∷ [] ≡ (last t).1 ++ (41 ∷ [])
    go true e q = ap (λ (z : ℕ). z ∷ []) (eqb-true b 41 e)
    go false e q = absurd (let z : ◌≡◌ {A = ℕ} 0 1 = cc in omega arith)
strip_back (b ∷ c ∷ l) h = ap (λ (z : List ℕ). b ∷ z) (strip_back (c ∷ l) h)

-- l: what follows the bracket
module _ (w l : List ℕ) (opens : w ≡ (40 ∷ []) ++ l) where
  row_is : row_question (row_of w) ≡ row_question (form_row (strip_close l).0 (split 32 (strip_close l).1))
  unfolding row_of
  row_is = ap (λ (z : List ℕ). row_question (row_of z)) opens

  pub row_open : ((s : List ℕ) → l ≡ s ++ (41 ∷ []) → ⊥) → RowOpened w std.None
  unfolding form_row row_question
  row_open h = row_is ∙ go (strip_close l).0 refl
    where
      test : (t : Bool) (v : List ℕ) (vs : List (List ℕ)) → row_question (pick t (form false v vs) bad) ≡ malformed
      test true v vs = refl
      test false v vs = refl

      no_end : (ws : List (List ℕ)) → row_question (form_row false ws) ≡ malformed
      no_end [] = refl
      no_end (v ∷ vs) = test (are_words (v ∷ vs)) v vs

      go : (t : Bool) → (strip_close l).0 ≡ t → row_question (form_row t (split 32 (strip_close l).1)) ≡ malformed
      go true e = absurd (h (strip_close l).1 (strip_back l e))
      go false e = no_end (split 32 (strip_close l).1)

  -- by what stands between the brackets
  pub row_form : (s : List ℕ) → l ≡ s ++ (41 ∷ []) → (o : std.Option Opened) → FormOpened s o → RowOpened w o
  row_form s e o g = opened_by o g
    where
      closed : row_question (row_of w) ≡ row_question (form_row true (split 32 s))
      closed = row_is ∙ ap (λ (d : Bool × List ℕ). row_question (form_row d.0 (split 32 d.1))) (ap strip_close e ∙ strip_is s)

      opened_by : (o : std.Option Opened) → FormOpened s o → RowOpened w o
      opened_by std.None g = closed ∙ g
      opened_by (std.Some o) g = closed ∙ g

-- ---- the words of a frame question

abbrev pub WordsCut : List ℕ → std.Option FourWords → Type 0
WordsCut s std.None = frame_question (split 32 s) ≡ malformed
WordsCut s (std.Some w) = split 32 s ≡ w.header.now ∷ w.node.now ∷ w.name.now ∷ split 32 w.flag.now

-- by the code's numbers
abbrev pub words_by : Result ℕ Reason → Result ℕ Reason → Bor (List ℕ) → Bool → Result FrameWords Reason
words_by (Err r) (Err s) v f = pick (ltb (number_of s) (number_of r)) (Err s) (Err r)
words_by (Err r) (Ok y) v f = Err r
words_by (Ok x) (Err s) v f = Err s
words_by (Ok x) (Ok y) v f = Ok (record { header = x; node = y; name = v; flag = f })

abbrev pub frame_by : Result ℕ Reason → Result ℕ Reason → Bor (List ℕ) → std.Option Bool → Result FrameWords Reason
frame_by h i v std.None = Err reason.NotAForm
frame_by h i v (std.Some g) = words_by h i v g

abbrev pub FrameRead : List ℕ → Result FrameWords Reason → Type 0
FrameRead s (Err r) = verdict (frame_question (split 32 s)) ≡ Err r
FrameRead s (Ok w) = frame_question (split 32 s) ≡ parsed (of_frame w.header w.node w.name.now w.flag)

-- ---- the opening word, found in the code's table

-- the words and forms of a table
abbrev pub said : List (Bor (List ℕ) × Form) → List (List ℕ × Form)
said = map {B = List ℕ × Form} (λ d. (d.0.now, d.1))

unfoldable pub question_table : List (List ℕ × Form)
question_table =
    (bytes "successors", form.Number of.Successors) ∷ (bytes "predecessors", form.Number of.Predecessors) ∷ (bytes "statement", form.Number of.Statement) ∷ (bytes "entry", form.Number of.Entry)
    ∷ (bytes "path", form.Path) ∷ (bytes "frame", form.Frame) ∷ []

first_form : List (List ℕ × Form) → List ℕ → std.Option Form
first_form [] w = std.None
first_form (d ∷ ds) w = pick (same d.0 w) (std.Some d.1) (first_form ds w)

found_form : (w : List ℕ) (xs : List (Bor (List ℕ) × Form)) → std.option_map (λ (d : Bor (List ℕ) × Form). d.1) (find (λ d. same d.0.now w) xs) ≡ first_form (said xs) w
unfolding first_form
found_form w [] = refl
found_form w (d ∷ ds) = go (same d.0.now w) (found_form w ds)
  where
    go : (t : Bool) → std.option_map (λ (d : Bor (List ℕ) × Form). d.1) (find (λ d. same d.0.now w) ds) ≡ first_form (said ds) w
        → std.option_map (λ (d : Bor (List ℕ) × Form). d.1) (std.cond t (std.Some d) (find (λ d. same d.0.now w) ds)) ≡ pick t (std.Some d.1) (first_form (said ds) w)
    go true e = refl
    go false e = e

by_table : (w : List ℕ) → lookup question_words w ≡ form_by (first_form question_table w)
unfolding lookup question_words question_table first_form
by_table w = go (same (bytes "successors") w) (same (bytes "predecessors") w) (same (bytes "statement") w) (same (bytes "entry") w) (same (bytes "path") w) (same (bytes "frame") w)
  where
    go : (a b c d e f : Bool)
        → pick a (some (by_number of_successors)) (pick b (some (by_number of_predecessors)) (pick c (some (by_number of_statement)) (pick d (some (by_number of_entry)) (pick e (some by_path) (pick f (some by_frame) none)))))
        ≡ form_by (pick a (std.Some (form.Number of.Successors)) (pick b (std.Some (form.Number of.Predecessors)) (pick c (std.Some (form.Number of.Statement)) (pick d (std.Some (form.Number of.Entry)) (pick e (std.Some form.Path) (pick f (std.Some form.Frame) std.None))))))
    go true b c d e f = refl
    go false true c d e f = refl
    go false false true d e f = refl
    go false false false true e f = refl
    go false false false false true f = refl
    go false false false false false true = refl
    go false false false false false false = refl

pub word_is : (w : List ℕ) (xs : List (Bor (List ℕ) × Form)) (r : std.Option (Bor (List ℕ) × Form)) (o : std.Option Form) → said xs ≡ question_table → r ≡ find (λ d. same d.0.now w) xs → o ≡ std.option_map (λ (d : Bor (List ℕ) × Form). d.1) r
    → lookup question_words w ≡ form_by o
word_is w xs r o t e f =
    by_table w ∙ ap form_by (ap (λ (l : List (List ℕ × Form)). first_form l w) (sym t) ∙ sym (found_form w xs) ∙ ap (std.option_map (λ (d : Bor (List ℕ) × Form). d.1)) (sym e) ∙ sym f)

-- ---- four words, one after the other

pub one_word : (s : List ℕ) → split 32 s ≡ s ∷ [] → frame_question (split 32 s) ≡ malformed
unfolding frame_question
one_word s p = ap frame_question p

module _ (s h r : List ℕ) (p : split 32 s ≡ h ∷ split 32 r) where
  pub two_words : split 32 r ≡ r ∷ [] → frame_question (split 32 s) ≡ malformed
  unfolding frame_question
  two_words q = ap frame_question (p ∙ ap (λ (z : List (List ℕ)). h ∷ z) q)

  module _ (i t : List ℕ) (q : split 32 r ≡ i ∷ split 32 t) where
    pub three_words : split 32 t ≡ t ∷ [] → frame_question (split 32 s) ≡ malformed
    unfolding frame_question
    three_words u = ap frame_question (p ∙ ap (λ (z : List (List ℕ)). h ∷ z) (q ∙ ap (λ (z : List (List ℕ)). i ∷ z) u))

    pub words_cut : (v f : List ℕ) → split 32 t ≡ v ∷ split 32 f → split 32 s ≡ h ∷ i ∷ v ∷ split 32 f
    words_cut v f u = p ∙ ap (λ (z : List (List ℕ)). h ∷ z) (q ∙ ap (λ (z : List (List ℕ)). i ∷ z) u)

-- ---- a frame question

with_malformed : {A B C : Type 0} (f : A → B → C) (p : Parse A) → with_parse f p malformed ≡ malformed
unfolding with_parse
with_malformed f malformed = refl
with_malformed f invalid = refl
with_malformed f (parsed a) = refl

-- s: the words h, i and v, and what follows them
module _ (s h i : List ℕ) (v : Bor (List ℕ)) (f : List ℕ) (cut : split 32 s ≡ h ∷ i ∷ v.now ∷ split 32 f) where
  abbrev asks : ℕ × ℕ → Bool → Question
  asks d g = of_frame d.0 d.1 v.now g

  numbers-read : (p q : Parse ℕ) (g : Bool) → frame_question (split 32 s) ≡ with_parse asks (with_parse (λ x y. (x, y)) p q) (parsed g) → FrameRead s (words_by (as_number p) (as_number q) v g)
  unfolding with_parse
  numbers-read malformed malformed g e = ap verdict e
  numbers-read malformed invalid g e = ap verdict e
  numbers-read malformed (parsed y) g e = ap verdict e
  numbers-read invalid malformed g e = ap verdict e
  numbers-read invalid invalid g e = ap verdict e
  numbers-read invalid (parsed y) g e = ap verdict e
  numbers-read (parsed x) malformed g e = ap verdict e
  numbers-read (parsed x) invalid g e = ap verdict e
  numbers-read (parsed x) (parsed y) g e = e

  abbrev numbers : Parse (ℕ × ℕ)
  numbers = with_parse (λ x y. (x, y)) (parse_number h) (parse_number i)

  -- the fourth is 0 or 1
  flag_is : (g : List ℕ) (b : Bool) → same g f ≡ true → split 32 g ≡ g ∷ [] → or_malformed (lookup handler_facts g) ≡ parsed b → frame_question (split 32 s) ≡ with_parse asks numbers (parsed b)
  unfolding frame_question
  flag_is g b e p q =
      let d : f ≡ g = sym (same_equal g f e) in
      ap frame_question (cut ∙ ap (λ (z : List ℕ). h ∷ i ∷ v.now ∷ split 32 z) d ∙ ap (λ (z : List (List ℕ)). h ∷ i ∷ v.now ∷ z) p) ∙ ap (with_parse asks numbers) q

  -- it is neither, or more than one word
  no_flag : same (bytes "0") f ≡ false → same (bytes "1") f ≡ false → frame_question (split 32 s) ≡ malformed
  unfolding frame_question join lookup handler_facts or_malformed
  no_flag a b = ap frame_question cut ∙ go (split 32 f) (join-split 32 f)
    where
      go : (ws : List (List ℕ)) → join 32 ws ≡ f → frame_question (h ∷ i ∷ v.now ∷ ws) ≡ malformed
      go [] e = refl
      go (g ∷ []) e = rw (e, a, b) (with_malformed asks numbers)
      go (g ∷ w ∷ ws) e = refl

  pub frame_read_lem : (x y : Result ℕ Reason) (k : std.Option Bool) (r : Result FrameWords Reason) → x ≡ as_number (parse_number h) → y ≡ as_number (parse_number i) → k ≡ flag_of f → r ≡ frame_by x y v k → FrameRead s r
  unfolding flag_of lookup handler_facts or_malformed split on_first bytes same
  frame_read_lem x y k r a b c e = rw (e, a, b, c) (go (same (bytes "0") f) (same (bytes "1") f) refl refl)
    where
      go : (t u : Bool) → same (bytes "0") f ≡ t → same (bytes "1") f ≡ u → FrameRead s (frame_by (as_number (parse_number h)) (as_number (parse_number i)) v (pick t (std.Some false) (pick u (std.Some true) std.None)))
      go true u p q = numbers-read (parse_number h) (parse_number i) false (flag_is (bytes "0") false p refl refl)
      go false true p q = numbers-read (parse_number h) (parse_number i) true (flag_is (bytes "1") true q refl refl)
      go false false p q = ap verdict (no_flag p q)

-- by one `?` after the other
pub frame_node : (h i : Result ℕ Reason) (v : Bor (List ℕ)) (g : Bool) (r : Reason) → lowest h i ≡ Err r → Err r ≡ words_by h i v g
unfolding lowest
frame_node (Ok x) (Ok y) v g r q = cc
frame_node (Ok x) (Err s) v g r q = let z : s ≡ r = cc in ap Err (sym z)
frame_node (Err s) (Ok y) v g r q = let z : s ≡ r = cc in ap Err (sym z)
frame_node (Err s) (Err t) v g r q = go (ltb (number_of t) (number_of s)) q
  where
    s₀ : Result ℕ Reason
    s₀ = Err s

    t₀ : Result ℕ Reason
    t₀ = Err t

    s₁ : Result FrameWords Reason
    s₁ = Err s

    t₁ : Result FrameWords Reason
    t₁ = Err t

    go : (b : Bool) → pick b t₀ s₀ ≡ Err r → Err r ≡ pick b t₁ s₁
    go true z = let u : t ≡ r = cc in ap Err (sym u)
    go false z = let u : s ≡ r = cc in ap Err (sym u)

pub frame_header : (h i : Result ℕ Reason) (y : ℕ) (r : Reason) → lowest h i ≡ Ok y → h ≡ Err r → ⊥
unfolding lowest
frame_header (Ok x) i y r p q = let z : ◌≡◌ {A = ℕ} 0 1 = cc in absurd (omega arith)
frame_header (Err s) (Ok x) y r p q = let z : ◌≡◌ {A = ℕ} 0 1 = cc in absurd (omega arith)
frame_header (Err s) (Err t) y r p q = go (ltb (number_of t) (number_of s)) p
  where
    s₀ : Result ℕ Reason
    s₀ = Err s

    t₀ : Result ℕ Reason
    t₀ = Err t

    go : (b : Bool) → pick b t₀ s₀ ≡ Ok y → ⊥
    go true z = let z : ◌≡◌ {A = ℕ} 0 1 = cc in absurd (omega arith)
    go false z = let z : ◌≡◌ {A = ℕ} 0 1 = cc in absurd (omega arith)

pub frame_ok : (h i : Result ℕ Reason) (x y : ℕ) (v : Bor (List ℕ)) (g : Bool) → h ≡ Ok x → lowest h i ≡ Ok y → Ok (record { header = x; node = y; name = v; flag = g }) ≡ words_by h i v g
unfolding lowest
frame_ok (Ok z) (Ok w) x y v g p q = let a : z ≡ x = cc in let b : w ≡ y = cc in rw (a, b) refl
frame_ok (Ok z) (Err t) x y v g p q = cc
frame_ok (Err s) i x y v g p q = cc
