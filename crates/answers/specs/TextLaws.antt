-- The loops over a text's rows: where the questions begin, and their answers. Assumes nothing.
use Prim.Native.Nat.{ℕ, suc, ◌+◌, ◌-◌, ◌<◌}
use Rattle.std.specs.Prelude.{◌≡◌, Bool, true, false, eqb, take}
use Rattle.std.specs.Prelude as std
use Rattle.std.specs.Borrow.{Bor}
use Rattle.std.proofs.Math.Path.{refl, sym, ap}
use Rattle.std.proofs.Common.{◌∙◌, not-suc-le-zero, add-one}
use Rattle.std.proofs.Math.Seq.{take-append_seam}
use mathlib.Core.List.{List, [], ◌∷◌, ◌++◌, append_assoc, append-nil}
use Rattle.std.proofs.Math.Option.{Option, none, some}
use native.Mathlib.Omega.{arith}
use Rattle.std.proofs.Math.ListN.{length, length-append}
use Rattle.listings.specs.Bytes.{bytes, same, pick}
use Rattle.listings.specs.Rows.{split, on_first}
use Rattle.listings.specs.Scan.{split-some}
use Rattle.graph.specs.Print.{printed_refusal}
use Rattle.formatting.specs.Pages.{Wrote, wrote_none, wrote_both, wrote_is}
use Rattle.formatting.specs.declared.page.Page.{Page}
use Rattle.answers.specs.Flowask.{Question, row_answer, ending, answer_rows, parts}

-- ---- where the questions begin

-- a before the listing part
abbrev prefixed : List ℕ → List ℕ × Option (List (List ℕ)) → List ℕ × Option (List (List ℕ))
prefixed a d = (a ++ d.0, d.1)

parts_next : (w : List ℕ) (vs : List (List ℕ)) → 0 < length vs → same w (bytes "(questions") ≡ false → parts (w ∷ vs) ≡ prefixed (w ++ (10 ∷ [])) (parts vs)
unfolding parts
parts_next w [] h e = absurd (not-suc-le-zero h)
parts_next w (v ∷ vs) h e = rw e (ap (λ (z : List ℕ). (z, (parts (v ∷ vs)).1)) (sym (append_assoc w (10 ∷ []) (parts (v ∷ vs)).0)))

parts-asks : (w : List ℕ) (vs : List (List ℕ)) → 0 < length vs → same w (bytes "(questions") ≡ true → parts (w ∷ vs) ≡ ([], some vs)
unfolding parts
parts-asks w [] h e = absurd (not-suc-le-zero h)
parts-asks w (v ∷ vs) h e = rw e

parts_last : (w : List ℕ) → parts (w ∷ []) ≡ (w, none)
unfolding parts
parts_last w = refl

-- none of the rows before `left` is `(questions`
pub record Cutting (text left : List ℕ) : Type 0 where
  pub before : List ℕ
  pub whole : text ≡ before ++ left
  pub passed : parts (split 10 text) ≡ (before ++ (parts (split 10 left)).0, (parts (split 10 left)).1)

-- a text as its listing and the bytes behind the row `(questions`, if there is one
abbrev pub TextSplit : (text listing : List ℕ) → std.Option (Bor (List ℕ)) → Type 0
TextSplit text listing std.None = parts (split 10 text) ≡ (listing, none)
TextSplit text listing (std.Some rows) = parts (split 10 text) ≡ (listing, some (split 10 rows.now))

pub split_listing : (text listing : List ℕ) (rows : std.Option (Bor (List ℕ))) → TextSplit text listing rows → (parts (split 10 text)).0 ≡ listing
split_listing text listing std.None e = ap (λ (d : List ℕ × Option (List (List ℕ))). d.0) e
split_listing text listing (std.Some rows) e = ap (λ (d : List ℕ × Option (List (List ℕ))). d.0) e

pub cutting_start : (text : List ℕ) → Cutting text text
cutting_start text = record { before = []; whole = refl; passed = refl }

module _ (text left : List ℕ) (g : Cutting text left) where
  pub cut_alone : split 10 left ≡ left ∷ [] → parts (split 10 text) ≡ (text, none)
  cut_alone h = g.passed ∙ ap (prefixed g.before) (ap parts h ∙ parts_last left) ∙ ap (λ (z : List ℕ). (z, none)) (sym g.whole)

  module _ (row more : List ℕ) (pieces : split 10 left ≡ row ∷ split 10 more) where
    -- what was passed by is as long as all but what is left
    pub cut_here : same row (bytes "(questions") ≡ true → parts (split 10 text) ≡ (take (length text - length left) text, some (split 10 more))
    cut_here s =
        let vs = split 10 more in
        let n : length text - length left ≡ length g.before = omega (arith, ap length g.whole ∙ length-append g.before left) in
        let t : g.before ≡ take (length text - length left) text = rw n (sym (ap (take (length g.before)) g.whole ∙ take-append_seam g.before left)) in
        let q : parts (split 10 left) ≡ ([], some vs) = ap parts pieces ∙ parts-asks row vs (split-some 10 more) s in
        g.passed ∙ ap (prefixed g.before) q ∙ ap (λ (z : List ℕ). (z, some vs)) (append-nil g.before ∙ t)

    pub cut_next : left ≡ row ++ (10 ∷ more) → same row (bytes "(questions") ≡ false → Cutting text more
    cut_next e s =
        let vs = split 10 more in
        let row' = row ++ (10 ∷ []) in
        let q : parts (split 10 left) ≡ prefixed row' (parts vs) = ap parts pieces ∙ parts_next row vs (split-some 10 more) s in
        record {
          before = g.before ++ row';
          whole = g.whole ∙ ap (λ (z : List ℕ). g.before ++ z) (e ∙ sym (append_assoc row (10 ∷ []) more)) ∙ sym (append_assoc g.before row' more);
          passed = g.passed ∙ ap (prefixed g.before) q ∙ ap (λ (z : List ℕ). (z, (parts vs).1)) (sym (append_assoc g.before row' (parts vs).0));
        }

-- ---- the answers

module _ (f : Question → List ℕ) where
  rows_last : (k : ℕ) (w : List ℕ) → answer_rows f k (w ∷ []) ≡ printed_refusal 2 k
  unfolding answer_rows
  rows_last k w = refl

  rows_close : (k : ℕ) (w : List ℕ) (vs : List (List ℕ)) → 0 < length vs → same w (bytes ")") ≡ true → answer_rows f k (w ∷ vs) ≡ ending (suc k) vs
  unfolding answer_rows
  rows_close k w [] h e = absurd (not-suc-le-zero h)
  rows_close k w (v ∷ vs) h e = rw e

  rows_next : (k : ℕ) (w : List ℕ) (vs : List (List ℕ)) → 0 < length vs → same w (bytes ")") ≡ false → answer_rows f k (w ∷ vs) ≡ row_answer f k w ++ answer_rows f (suc k) vs
  unfolding answer_rows
  rows_next k w [] h e = absurd (not-suc-le-zero h)
  rows_next k w (v ∷ vs) h e = rw e

  -- the rows before `left` are answered, k of them
  pub record Answering (text : List ℕ) (p q : Page) (k : ℕ) (left : List ℕ) : Type 0 where
    pub done : List ℕ
    pub wrote : Wrote p q done
    pub rest : done ++ answer_rows f k (split 10 left) ≡ answer_rows f 0 (split 10 text)

  pub answering_start : (text : List ℕ) (p : Page) → Answering text p p 0 text
  answering_start text p = record { done = []; wrote = wrote_none p; rest = refl }

ending-none : (k : ℕ) (l : List ℕ) → length l ≡ 0 → ending k (split 10 l) ≡ []
unfolding ending split
ending-none k [] h = refl
ending-none k (b ∷ l) h = absurd (omega arith)

ending_more : (k : ℕ) (l : List ℕ) → 0 < length l → ending k (split 10 l) ≡ printed_refusal 2 k
unfolding ending split on_first
ending_more k [] h = absurd (not-suc-le-zero h)
ending_more k (b ∷ l) h = go (eqb b 10) (split 10 l) (split-some 10 l)
  where
    go : (t : Bool) (ws : List (List ℕ)) → 0 < length ws → ending k (pick t ([] ∷ ws) (on_first b ws)) ≡ printed_refusal 2 k
    go true [] q = absurd (not-suc-le-zero q)
    go true (w ∷ ws) q = refl
    go false [] q = refl
    go false (w ∷ ws) q = refl

module _ (f : Question → List ℕ) (text : List ℕ) (p q s : Page) (k : ℕ) (left : List ℕ) (g : Answering f text p q k left) where
  -- with what is put last
  ends : (l : List ℕ) → answer_rows f k (split 10 left) ≡ l → Wrote q s l → Wrote p s (answer_rows f 0 (split 10 text))
  ends l h a = wrote_is (ap (λ (z : List ℕ). g.done ++ z) (sym h) ∙ g.rest) (wrote_both g.wrote a)

  pub answers_cut : split 10 left ≡ left ∷ [] → Wrote q s (printed_refusal 2 k) → Wrote p s (answer_rows f 0 (split 10 text))
  answers_cut h a = ends (printed_refusal 2 k) (ap (answer_rows f k) h ∙ rows_last f k left) a

  module _ (row more : List ℕ) (pieces : split 10 left ≡ row ∷ split 10 more) where
    closes : same row (bytes ")") ≡ true → answer_rows f k (split 10 left) ≡ ending (suc k) (split 10 more)
    closes h = ap (answer_rows f k) pieces ∙ rows_close f k row (split 10 more) (split-some 10 more) h

    pub answers_end : same row (bytes ")") ≡ true → length more ≡ 0 → Wrote p q (answer_rows f 0 (split 10 text))
    answers_end h z =
        let d = closes h ∙ ending-none (suc k) more z in
        wrote_is (sym (append-nil g.done) ∙ ap (λ (z : List ℕ). g.done ++ z) (sym d) ∙ g.rest) g.wrote

    pub answers_over : same row (bytes ")") ≡ true → 0 < length more → Wrote q s (printed_refusal 2 (k + 1)) → Wrote p s (answer_rows f 0 (split 10 text))
    answers_over h z a =
        let d = closes h ∙ ending_more (suc k) more z in
        ends (printed_refusal 2 (suc k)) d (wrote_is (ap (printed_refusal 2) (add-one k)) a)

    pub answers_next : same row (bytes ")") ≡ false → Wrote q s (row_answer f k row) → Answering f text p s (k + 1) more
    answers_next h a =
        let vs = split 10 more in
        let d = ap (answer_rows f k) pieces ∙ rows_next f k row vs (split-some 10 more) h in
        record {
          done = g.done ++ row_answer f k row;
          wrote = wrote_both g.wrote a;
          rest = ap (λ (j : ℕ). (g.done ++ row_answer f k row) ++ answer_rows f j vs) (add-one k) ∙ append_assoc g.done (row_answer f k row) (answer_rows f (suc k) vs)
              ∙ ap (λ (z : List ℕ). g.done ++ z) (sym d) ∙ g.rest;
        }
