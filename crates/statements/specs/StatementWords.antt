-- Which opening words open a statement. Assumes nothing.
use Rattle.std.specs.Prelude.{ℕ, zero, suc, ◌≤◌, ◌≡◌, refl, List, [], ◌∷◌, map, Bool, true, false, ◌||◌, eqb, ltb}
use Rattle.std.proofs.Common.{arith, ltb-false}
use Rattle.listings.specs.Rows.{Form, module_form, line_form, to_form, stmts_form, run_form, for_form, next_form, cond_form, bare_form, number_form, numbers_form, opening_words}
use Rattle.listings.specs.WordTable.{forms}
use Rattle.layout.specs.Layout.{module_word, line_word, to_word, stmts_word, plain_word}

-- "The 28 opening words stand in one constant table": `module` and `line` hold what the listing is made of, "A branch is" `to` or `stmts`; the other 24, up to `plain`, open statements
unfoldable pub no_statement_word : ℕ → Bool
no_statement_word w = eqb w module_word || (eqb w line_word || (eqb w to_word || (eqb w stmts_word || ltb plain_word w)))

pub low_word : (w : ℕ) → no_statement_word w ≡ false → w ≤ 27
unfolding no_statement_word
low_word w e = go (eqb w 0) (eqb w 1) (eqb w 5) (eqb w 6) (ltb 27 w) refl e
  where
    go : (a b c d x : Bool) → ltb 27 w ≡ x → (a || (b || (c || (d || x)))) ≡ false → w ≤ 27
    go true b c d x f e = let z : ◌≡◌ {A = ℕ} 0 1 = cc in absurd (omega arith)
    go false true c d x f e = let z : ◌≡◌ {A = ℕ} 0 1 = cc in absurd (omega arith)
    go false false true d x f e = let z : ◌≡◌ {A = ℕ} 0 1 = cc in absurd (omega arith)
    go false false false true x f e = let z : ◌≡◌ {A = ℕ} 0 1 = cc in absurd (omega arith)
    go false false false false true f e = let z : ◌≡◌ {A = ℕ} 0 1 = cc in absurd (omega arith)
    go false false false false false f e = ltb-false 27 w f

-- ---- the same by the table's forms

opens_none : Form → Bool
opens_none module_form = true
opens_none line_form = true
opens_none to_form = true
opens_none stmts_form = true
opens_none (cond_form k) = false
opens_none (bare_form o) = false
opens_none (number_form f) = false
opens_none (numbers_form f) = false
opens_none run_form = false
opens_none for_form = false
opens_none next_form = false

-- from w on, k numbers
numbers : (k w : ℕ) → List ℕ
numbers zero w = []
numbers (suc k) w = w ∷ numbers k (suc w)

words_by_form : map no_statement_word (numbers 28 0) ≡ map opens_none forms
unfolding no_statement_word forms opening_words numbers opens_none
words_by_form = refl
