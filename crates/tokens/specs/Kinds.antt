-- The kinds of forms, by the numbers of their opening words. Assumes nothing.
use Rattle.std.specs.Prelude.{ℕ, zero, suc, ◌<◌, ◌≤◌, ◌≡◌, refl, List, [], ◌∷◌, map, length, get_or, option_map, slice_get, Option, Some, None, Bool, true, false, ltb}
use Rattle.std.specs.Option.{unwrap_or}
use Rattle.std.specs.Slice.{IsItemAt}
use denote.Ref.{Bor}
use Rattle.std.proofs.Common.{ap, arith, not-suc-le-zero, le_of_suc-le-suc}
use Rattle.std.proofs.Math.Option as M
use Rattle.std.proofs.Math.Option.{none, some}
use Rattle.std.proofs.Math.ListN.{get_elem?}
use borrow.Author.Tests.{lt-ltb, ltb-false}
use Rattle.listings.specs.Bytes.{pick}
use Rattle.listings.specs.Listing.{CondWord, if, ifelse, rcomp}
use Rattle.listings.specs.Rows.{Form, module_form, line_form, to_form, stmts_form, run_form, for_form, next_form, cond_form, bare_form, number_form, numbers_form, opening_words}
use Rattle.listings.specs.WordTable.{forms, word_index}
use Rattle.tokens.specs.declared.words.Cond.{Cond}
use Rattle.tokens.specs.declared.words.Cond.TheVariants as cond
use Rattle.tokens.specs.declared.words.Kind.{Kind}
use Rattle.tokens.specs.declared.words.Kind.TheVariants as kind

-- the number of the opening word that a text is
unfoldable pub word_found : List ℕ → Option ℕ
word_found w = pick (ltb (word_index w) 28) (Some (word_index w)) None

-- a word with branches, as the code has it
abbrev pub as_cond : CondWord → Cond
as_cond if = cond.If
as_cond ifelse = cond.IfElse
as_cond rcomp = cond.Rcomp

unfoldable pub form_kind : Form → Kind
form_kind module_form = kind.Module
form_kind line_form = kind.Line
form_kind to_form = kind.To
form_kind stmts_form = kind.Stmts
form_kind (cond_form x) = kind.Cond (as_cond x)
form_kind (bare_form o) = kind.Bare
form_kind (number_form x) = kind.Number
form_kind (numbers_form x) = kind.Numbers
form_kind run_form = kind.Run
form_kind for_form = kind.For
form_kind next_form = kind.Next

abbrev pub kind_found : M.Option Form → Option Kind
kind_found none = None
kind_found (some h) = Some (form_kind h)

-- the kind of form that opening word k opens
unfoldable pub opened_kind : ℕ → Option Kind
unfolding forms
opened_kind k = kind_found (get_elem? forms k)

pub found_word : (w : List ℕ) (k : ℕ) → k < 28 → k ≡ word_index w → word_found w ≡ Some k
unfolding word_found
found_word w k h e = rw (← e, lt-ltb k 28 h)

pub found_none : (w : List ℕ) → 28 ≡ word_index w → word_found w ≡ None
unfolding word_found
found_none w e = rw (← e)

-- ---- the code's table: each word with the kind of its form

abbrev pub Rows : Type 0
Rows = List (Bor (List ℕ) × Kind)

-- row k of a table, or none
unfoldable pub row_at : Rows → ℕ → Option (Bor (List ℕ) × Kind)
row_at ds k = slice_get ds k

row_none : (ds : Rows) (k : ℕ) → length ds ≤ k → None ≡ row_at ds k
unfolding row_at
row_none [] k h = refl
row_none (d ∷ ds) zero h = absurd (omega arith)
row_none (d ∷ ds) (suc k) h = row_none ds k (le_of_suc-le-suc h)

row_some : (ds : Rows) (k : ℕ) (d : Bor (List ℕ) × Kind) → k < length ds → d ≡ get_or ds k d → Some d ≡ row_at ds k
unfolding row_at
row_some [] k d h e = absurd (not-suc-le-zero h)
row_some (x ∷ ds) zero d h e = ap Some e
row_some (x ∷ ds) (suc k) d h e = row_some ds k d (le_of_suc-le-suc h) e

pub get_row : (ds : Rows) (k : ℕ) (r : Option (Bor (Bor (List ℕ) × Kind))) → IsItemAt ds k r → option_map (λ x. x.now) r ≡ row_at ds k
get_row ds k None h = row_none ds k h.3
get_row ds k (Some x) h = row_some ds k x.now h.3.0 h.1

pub kind_row : (ds : Rows) (hs : List Form) (k : ℕ) → map {B = Kind} (λ d. d.1) ds ≡ map form_kind hs → option_map (λ (d : Bor (List ℕ) × Kind). d.1) (row_at ds k) ≡ kind_found (get_elem? hs k)
unfolding row_at
kind_row [] [] k e = refl
kind_row [] (h ∷ hs) k e = cc
kind_row (d ∷ ds) [] k e = cc
kind_row (d ∷ ds) (h ∷ hs) zero e = let q : d.1 ≡ form_kind h = cc in ap Some q
kind_row (d ∷ ds) (h ∷ hs) (suc k) e = kind_row ds hs k (let q : map {B = Kind} (λ (x : Bor (List ℕ) × Kind). x.1) ds ≡ map form_kind hs = cc in q)

pub word_row : (ds : Rows) (k : ℕ) → unwrap_or (option_map (λ (d : Bor (List ℕ) × Kind). d.0.now) (row_at ds k)) [] ≡ get_or (map {B = List ℕ} (λ d. d.0.now) ds) k []
unfolding row_at
word_row [] k = refl
word_row (d ∷ ds) zero = refl
word_row (d ∷ ds) (suc k) = word_row ds k

opened_none : (hs : List Form) (k : ℕ) → length hs ≤ k → kind_found (get_elem? hs k) ≡ None
opened_none [] zero h = refl
opened_none [] (suc k) h = refl
opened_none (h ∷ hs) zero q = absurd (omega arith)
opened_none (h ∷ hs) (suc k) q = opened_none hs k (le_of_suc-le-suc q)

pub word_is : (w : List ℕ) (k : ℕ) → Some k ≡ word_found w → k ≡ word_index w
unfolding word_found
word_is w k e = go (ltb (word_index w) 28) e
  where
    go : (t : Bool) → Some k ≡ pick t (Some (word_index w)) None → k ≡ word_index w
    go true q = cc
    go false q = cc

pub no_word_is : (w : List ℕ) → None ≡ word_found w → 28 ≤ word_index w
unfolding word_found
no_word_is w e = go (ltb (word_index w) 28) refl e
  where
    go : (t : Bool) → ltb (word_index w) 28 ≡ t → None ≡ pick t (Some (word_index w)) None → 28 ≤ word_index w
    go true q r = absurd (let z : ◌≡◌ {A = ℕ} 0 1 = cc in omega arith)
    go false q r = ltb-false (word_index w) 28 q

pub opened_past : (k : ℕ) → 28 ≤ k → opened_kind k ≡ None
unfolding forms opening_words opened_kind
opened_past k h = opened_none forms k h
