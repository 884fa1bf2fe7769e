-- The table of opening words by number: which word a text is, and the kind of form that it opens. Assumes nothing.
use Rattle.std.specs.Prelude.{◌≡◌, refl, Bool, true, false, ◌&&◌, List, [], ◌∷◌, ◌++◌, map, ℕ, zero, suc, ◌-◌, ◌≤◌, ◌<◌, eqb, leb, length, get_or, drop, replicate}
use Rattle.std.proofs.Common.{sym, ap, ◌∙◌, not-suc-le-zero, le_of_suc-le-suc, arith, drop_of_length-le, drop-cons, eq-eqb, ne_eqb, leb-true}
use Rattle.std.proofs.Math.Bool.{and-false}
use Rattle.std.proofs.Math.Option.{Option, none, some}
use Rattle.std.proofs.Math.ListN.{get_elem?, get_or-eq_default, get_or-map}
use Rattle.listings.specs.Bytes.{same, pick, bytes}
use Rattle.listings.specs.Rows.{form, Form, module_form, line_form, to_form, stmts_form, run_form, for_form, next_form, cond_form, bare_form, number_form, numbers_form, opening_words, lookup, word_content, content_of}
use Rattle.listings.specs.Tests.{both_true}

unfoldable pub words : List (List ℕ)
unfolding opening_words bytes
words = map (λ d. d.0) opening_words

unfoldable pub forms : List Form
unfolding opening_words
forms = map (λ d. d.1) opening_words

-- the first row of a table that is the text, or the table's length
unfoldable pub first : List (List ℕ) → List ℕ → ℕ
first [] t = 0
first (r ∷ rs) t = pick (same r t) 0 (suc (first rs t))

unfoldable pub word_index : List ℕ → ℕ
word_index w = first words w

-- a number for each kind of form
unfoldable pub kind : Form → ℕ
kind module_form = 0
kind line_form = 1
kind to_form = 2
kind stmts_form = 3
kind (cond_form k) = 4
kind (bare_form o) = 5
kind (number_form f) = 6
kind (numbers_form f) = 7
kind run_form = 8
kind for_form = 9
kind next_form = 10

unfoldable pub kind_of : Option Form → ℕ
kind_of none = 11
kind_of (some h) = kind h

unfoldable pub kind_at : ℕ → ℕ
unfolding forms
kind_at k = kind_of (get_elem? forms k)

-- ---- the definition's lookup is by that number

lookup_first : (ds : List (List ℕ × Form)) (w : List ℕ) → lookup ds w ≡ get_elem? (map (λ d. d.1) ds) (first (map (λ d. d.0) ds) w)
unfolding lookup first
lookup_first [] w = refl
lookup_first (d ∷ ds) w = go (same d.0 w) (lookup_first ds w)
  where
    go : (t : Bool) → lookup ds w ≡ get_elem? (map (λ d. d.1) ds) (first (map (λ d. d.0) ds) w)
        → pick t (some d.1) (lookup ds w) ≡ get_elem? (d.1 ∷ map (λ d. d.1) ds) (pick t 0 (suc (first (map (λ d. d.0) ds) w)))
    go true h = refl
    go false h = h

-- what a form says, by the number of its opening word
pub content_at : (c : Bool) (w : List ℕ) (ws : List (List ℕ)) → content_of (form c w ws) ≡ word_content (get_elem? forms (word_index w)) c ws
unfolding content_of words forms word_index
content_at c w ws = ap (λ (o : Option Form). word_content o c ws) (lookup_first opening_words w)

-- ---- laws for a search through the table

pub first_here : (ds : List (List ℕ)) (w : List ℕ) (i : ℕ) → i < length ds → same (get_or ds i []) w ≡ true → first (drop i ds) w ≡ 0
unfolding first
first_here ds w i h e = rw (drop-cons ds i [] h, e)

pub first_more : (ds : List (List ℕ)) (w : List ℕ) (i : ℕ) → i < length ds → same (get_or ds i []) w ≡ false → first (drop i ds) w ≡ suc (first (drop (suc i) ds) w)
unfolding first
first_more ds w i h e = rw (drop-cons ds i [] h, e)

pub same_next : (a w : List ℕ) (j : ℕ) → j < length a → j < length w → get_or a j 0 ≡ get_or w j 0 → same (drop j a) (drop j w) ≡ same (drop (suc j) a) (drop (suc j) w)
unfolding same
same_next a w j h k e = rw (drop-cons a j 0 h, drop-cons w j 0 k, eq-eqb (get_or a j 0) (get_or w j 0) e)

pub same_stop : (a w : List ℕ) (j : ℕ) → j < length a → j < length w → (get_or a j 0 ≡ get_or w j 0 → ⊥) → same (drop j a) (drop j w) ≡ false
unfolding same
same_stop a w j h k e = rw (drop-cons a j 0 h, drop-cons w j 0 k, ne_eqb (get_or a j 0) (get_or w j 0) e)

pub same_end : (a w : List ℕ) (j : ℕ) → length a ≤ j → length w ≤ j → same (drop j a) (drop j w) ≡ true
unfolding same
same_end a w j h k = rw (drop_of_length-le a h, drop_of_length-le w k)

pub same-lengths : (a w : List ℕ) → (length a ≡ length w → ⊥) → same a w ≡ false
unfolding same
same-lengths [] [] h = absurd (h refl)
same-lengths [] (b ∷ w) h = refl
same-lengths (a ∷ k) [] h = refl
same-lengths (a ∷ k) (b ∷ w) h = rw (same-lengths k w (λ e. h (ap suc e))) (and-false (eqb a b))

-- ---- rows padded with zeros

abbrev pub pad_to : ℕ → List ℕ → List ℕ
pad_to n w = w ++ replicate (n - length w) 0

abbrev pub pad : List ℕ → List ℕ
pad w = pad_to 8 w

pub zeros : (n j : ℕ) → ◌≡◌ {A = ℕ} (get_or (replicate n 0) j 0) 0
zeros zero zero = refl
zeros zero (suc j) = refl
zeros (suc n) zero = refl
zeros (suc n) (suc j) = zeros n j

padded : (w : List ℕ) (n j : ℕ) → get_or (w ++ replicate n 0) j 0 ≡ get_or w j 0
padded [] n zero = zeros n zero
padded [] n (suc j) = zeros n (suc j)
padded (x ∷ w) n zero = refl
padded (x ∷ w) n (suc j) = padded w n j

pub row_letter : (n : ℕ) (ws : List (List ℕ)) (i j : ℕ) → i < length ws → get_or (get_or (map (pad_to n) ws) i []) j 0 ≡ get_or (get_or ws i []) j 0
row_letter n [] i j h = absurd (not-suc-le-zero h)
row_letter n (w ∷ ws) zero j h = padded w (n - length w) j
row_letter n (w ∷ ws) (suc i) j h = row_letter n ws i j (le_of_suc-le-suc h)

-- of a row that was fetched
pub row_at_letter : (i j : ℕ) → i < 28 → (row : List ℕ) → row ≡ get_or (map pad words) i [] → get_or row j 0 ≡ get_or (get_or words i []) j 0
unfolding words opening_words
row_at_letter i j h row e = ap (λ (r : List ℕ). get_or r j 0) e ∙ row_letter 8 words i j h

-- ---- a table's rule from a test over the whole table

abbrev pub all_le : ℕ → List ℕ → Bool
all_le m [] = true
all_le m (x ∷ xs) = leb x m && all_le m xs

pub all-le : (m : ℕ) (xs : List ℕ) → all_le m xs ≡ true → (i : ℕ) → get_or xs i 0 ≤ m
all-le m [] h zero = omega arith
all-le m [] h (suc i) = omega arith
all-le m (x ∷ xs) h zero = leb-true x m (both_true (leb x m) (all_le m xs) h).0
all-le m (x ∷ xs) h (suc i) = all-le m xs (both_true (leb x m) (all_le m xs) h).1 i

pub kind_row : (hs : List Form) (k : ℕ) → k < length hs → get_or (map kind hs) k 0 ≡ kind_of (get_elem? hs k)
unfolding kind_of
kind_row [] k h = absurd (not-suc-le-zero h)
kind_row (h ∷ hs) zero q = refl
kind_row (h ∷ hs) (suc k) q = kind_row hs k (le_of_suc-le-suc q)

pub kind-none : (hs : List Form) (k : ℕ) → length hs ≤ k → kind_of (get_elem? hs k) ≡ 11
unfolding kind_of
kind-none [] zero h = refl
kind-none [] (suc k) h = refl
kind-none (h ∷ hs) zero q = absurd (omega arith)
kind-none (h ∷ hs) (suc k) q = kind-none hs k (le_of_suc-le-suc q)

-- ---- past the table

pub no_word : (k : ℕ) → 28 ≤ k → ◌≡◌ {A = List ℕ} [] (get_or words k [])
unfolding words opening_words bytes
no_word k h = sym (get_or-eq_default words [] h)

pub no_letter : (k j : ℕ) → 8 ≤ j → ◌≡◌ {A = ℕ} 0 (get_or (get_or words k []) j 0)
unfolding words opening_words bytes
no_letter k j h =
    sym (get_or-eq_default (get_or words k []) 0 (omega (arith, get_or-map length words k [], all-le 8 (map length words) refl k)))
