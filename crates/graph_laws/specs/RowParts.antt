-- Texts that fill parts of a form, and rows one after the other. Assumes nothing.
use Rattle.std.specs.Prelude.{ℕ, ◌≡◌, refl, true, not}
use Rattle.std.proofs.Common.{sym, ap, ◌∙◌}
use mathlib.Core.List.{List, [], ◌∷◌, ◌++◌, append_assoc, append-nil, Memᴰ}
use Rattle.std.proofs.Math.Option.{Option, none, some}
use Rattle.std.proofs.lemmas.Bool.{not-true}
use Rattle.listings.specs.Bytes.{decimal}
use Rattle.listings.specs.Rows.{all}
use Rattle.listings.specs.ListingText.{text_of, NumberOk}
use Rattle.listings.specs.Tests.{both_true}
use Rattle.listings.specs.Every.{All, all[], all∷, all_append}
use Rattle.graph.specs.Lists.{each, list}
use Rattle.graph.specs.Print.{spaced, joined}
use Rattle.graph.specs.Check.{row_forms}
use Rattle.graph_laws.specs.FilledForms.{is_sign, Fills, done, itself, number, no_more, one_more, first, missing, one, GraphRow}

-- ---- parts of a row

-- a text fills a part of a form, whatever stands behind
pub record Part (form text : List ℕ) : Type 0 where
  pub before : (f w : List ℕ) → Fills f w → Fills (form ++ f) (text ++ w)

pub part-append : {p q a b : List ℕ} → Part p a → Part q b → Part (p ++ q) (a ++ b)
part-append {p} {q} {a} {b} h k = record { before = λ f w r. rw (append_assoc p q f, append_assoc a b w) (h.before (q ++ f) (b ++ w) (k.before f w r)) }

-- bytes that stand for themselves
pub bytes_part : (u : List ℕ) → all (λ c. not (is_sign c)) u ≡ true → Part u u
unfolding all
bytes_part [] h = record { before = λ f w r. r }
bytes_part (c ∷ u) h =
    let p = both_true (not (is_sign c)) (all (λ c. not (is_sign c)) u) h in
    let k = bytes_part u p.1 in
    record { before = λ f w r. itself c (not-true (is_sign c) p.0) (k.before f w r) }

-- numbers with a space before each: one by one, and as a list
pub numbers_part : {l : List ℕ} → All NumberOk l → Part (each (λ (n : ℕ). 32 ∷ 35 ∷ []) l) (spaced l)
unfolding spaced each is_sign
numbers_part all[] = record { before = λ f w r. r }
numbers_part (all∷ {a = n} {l = l} h hs) =
    let k = numbers_part hs in
    record { before = λ f w r. itself 32 refl (rw (← (append_assoc (decimal n) (spaced l) w)) at (number n h (k.before f w r))) }

pub list_part : {l : List ℕ} → All NumberOk l → Part (42 ∷ []) (spaced l)
unfolding spaced each
list_part all[] = record { before = λ f w r. no_more r }
list_part (all∷ {a = n} {l = l} h hs) =
    let k = list_part hs in
    record { before = λ f w r. rw (append_assoc (decimal n) (spaced l) w) (one_more n h (k.before f w r)) }

-- numbers with a space between them
pub path_part : {l : List ℕ} → All NumberOk l → Part (37 ∷ []) (joined l)
unfolding joined
path_part all[] = record { before = λ f w r. Fills.none r }
path_part (all∷ {a = n} {l = l} h hs) =
    let k = list_part hs in
    record { before = λ f w r. rw (append_assoc (decimal n) (spaced l) w) (first n h (k.before f w r)) }

-- one number, or none
pub holder_part : (o : Option ℕ) → All NumberOk (list o) → Part (63 ∷ []) (spaced (list o))
unfolding spaced each list
holder_part none h = record { before = λ f w r. missing r }
holder_part (some n) (all∷ h all[]) = record { before = λ f w r. rw (append-nil (decimal n)) (one n h r) }

-- ---- rows, one after the other

-- a text of such rows, each ended by byte 10
pub record GraphRows (t : List ℕ) : Type 0 where
  pub rows : List (List ℕ)
  pub text_is : t ≡ text_of rows
  pub in_form : All GraphRow rows

text_append : (a b : List (List ℕ)) → text_of (a ++ b) ≡ text_of a ++ text_of b
unfolding text_of
text_append [] b = refl
text_append (r ∷ a) b = ap (λ (z : List ℕ). r ++ (10 ∷ z)) (text_append a b) ∙ sym (append_assoc r (10 ∷ text_of a) (text_of b))

pub no_rows : GraphRows []
unfolding text_of
no_rows = record { rows = []; text_is = refl; in_form = all[] }

pub rows_append : {s t : List ℕ} → GraphRows s → GraphRows t → GraphRows (s ++ t)
rows_append {s} {t} h k =
    record {
      rows = h.rows ++ k.rows;
      text_is = ap (λ (z : List ℕ). z ++ t) h.text_is ∙ ap (λ (z : List ℕ). text_of h.rows ++ z) k.text_is ∙ sym (text_append h.rows k.rows);
      in_form = all_append h.in_form k.in_form;
    }

pub rows-each : {A : Type 0} {P : A → Type 0} (f : A → List ℕ) → ((a : A) → P a → GraphRows (f a)) → {l : List A} → All P l → GraphRows (each f l)
unfolding each
rows-each f h all[] = no_rows
rows-each f h (all∷ {a} p ps) = rows_append (h a p) (rows-each f h ps)

-- a row that fills a whole form
pub one_row : {f w : List ℕ} → Memᴰ f row_forms → Part f w → (t : List ℕ) → w ++ (10 ∷ []) ≡ t → GraphRows t
unfolding text_of
one_row {f} {w} m h t e =
    let r : Fills f w = rw (append-nil f, append-nil w) at (h.before [] [] done) in
    record { rows = w ∷ []; text_is = sym e; in_form = all∷ (record { form = f; listed = m; filled = r }) all[] }
