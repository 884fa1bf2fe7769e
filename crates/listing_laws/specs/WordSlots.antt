-- A quick way to the one opening word that a text can be: by its first and last letters and its length. Assumes nothing.
use Rattle.std.specs.Prelude.{◌≡◌, refl, Bool, true, false, ◌&&◌, List, [], ◌∷◌, ℕ, zero, suc, ◌+◌, ◌-◌, ◌*◌, ◌%◌, ◌≤◌, ◌<◌, eqb, length, get_or}
use Rattle.std.proofs.Common.{sym, ap, subst, ◌∙◌, not-suc-le-zero, le_of_suc-le-suc, arith, eq-eqb, ne_eqb, eqb-true}
use Rattle.std.proofs.Math.Decide.{dec_lt}
use Rattle.listings.specs.Bytes.{same, pick, bytes}
use Rattle.listings.specs.Rows.{opening_words}
use Rattle.listings.specs.Tests.{both_true}
use Rattle.listing_laws.specs.WordText.{same_equal}
use Rattle.listings.specs.WordTable.{words, first, word_index, all-le}

-- for each slot the number of the opening word that has it, or 0
unfoldable pub slots : List ℕ
slots =
    0 ∷ 0 ∷ 17 ∷ 0 ∷ 0 ∷ 0 ∷ 11 ∷ 0 ∷ 0 ∷ 0 ∷ 0 ∷ 23 ∷ 22 ∷ 0 ∷ 8 ∷ 26
    ∷ 16 ∷ 0 ∷ 0 ∷ 1 ∷ 0 ∷ 0 ∷ 0 ∷ 25 ∷ 18 ∷ 0 ∷ 3 ∷ 4 ∷ 0 ∷ 2 ∷ 0 ∷ 0
    ∷ 12 ∷ 6 ∷ 21 ∷ 10 ∷ 0 ∷ 19 ∷ 0 ∷ 0 ∷ 0 ∷ 0 ∷ 0 ∷ 27 ∷ 0 ∷ 20 ∷ 14 ∷ 0
    ∷ 24 ∷ 0 ∷ 9 ∷ 13 ∷ 7 ∷ 0 ∷ 0 ∷ 5 ∷ 0 ∷ 0 ∷ 0 ∷ 0 ∷ 15 ∷ 0 ∷ 0 ∷ 0 ∷ []

unfoldable pub slot_of : List ℕ → ℕ
slot_of w = (get_or w 0 0 + 23 * get_or w (length w - 1) 0 + 5 * (length w % 8)) % 64

-- the only opening word that w can be
unfoldable pub candidate_of : List ℕ → ℕ
candidate_of w = pick (eqb (length w) 0) 0 (get_or slots (slot_of w) 0)

-- as it is looked up: a and b are the first and the last letter
pub no_letters : (w : List ℕ) → length w ≡ 0 → candidate_of w ≡ 0
unfolding candidate_of
no_letters w e = rw (eq-eqb (length w) 0 e)

pub by_letters : (w : List ℕ) (a b : ℕ) → (length w ≡ 0 → ⊥) → a ≡ get_or w 0 0 → b ≡ get_or w (length w - 1) 0 → get_or slots ((a + 23 * b + 5 * (length w % 8)) % 64) 0 ≡ candidate_of w
unfolding candidate_of slot_of
by_letters w a b n e f = rw (ne_eqb (length w) 0 n, e, f)

pub slot_word_lem : (h : ℕ) → get_or slots h 0 ≤ 27
unfolding slots
slot_word_lem h = all-le 27 slots refl h

-- ---- a rule of each row, from a test over the whole table

abbrev each_is : (List ℕ → ℕ) → ℕ → List (List ℕ) → Bool
each_is f i [] = true
each_is f i (w ∷ ws) = eqb (f w) i && each_is f (suc i) ws

each_is_lem : (f : List ℕ → ℕ) (i : ℕ) (ws : List (List ℕ)) → each_is f i ws ≡ true → (k : ℕ) → k < length ws → f (get_or ws k []) ≡ k + i
each_is_lem f i [] h k q = absurd (not-suc-le-zero q)
each_is_lem f i (w ∷ ws) h zero q = let e = eqb-true (f w) i (both_true (eqb (f w) i) (each_is f (suc i) ws) h).0 in omega (arith, e)
each_is_lem f i (w ∷ ws) h (suc k) q =
    let r = each_is_lem f (suc i) ws (both_true (eqb (f w) i) (each_is f (suc i) ws) h).1 k (le_of_suc-le-suc q) in
    omega (arith, r)

-- each opening word stands in its own slot
own-slot : (k : ℕ) → k < 28 → candidate_of (get_or words k []) ≡ k
unfolding words opening_words bytes candidate_of slot_of slots
own-slot k h = omega (arith, each_is_lem candidate_of 0 words refl k h)

own_index : (k : ℕ) → k < 28 → word_index (get_or words k []) ≡ k
unfolding words opening_words bytes word_index first same
own_index k h = omega (arith, each_is_lem word_index 0 words refl k h)

-- ---- the search

first-le : (ds : List (List ℕ)) (w : List ℕ) → first ds w ≤ length ds
unfolding first
first-le [] w = omega arith
first-le (d ∷ ds) w = go (same d w) (first-le ds w)
  where
    go : (t : Bool) → first ds w ≤ length ds → pick t 0 (suc (first ds w)) ≤ suc (length ds)
    go true h = omega arith
    go false h = omega arith

first-same : (ds : List (List ℕ)) (w : List ℕ) → first ds w < length ds → same (get_or ds (first ds w) []) w ≡ true
unfolding first
first-same [] w h = absurd (not-suc-le-zero h)
first-same (d ∷ ds) w h = go (same d w) refl (first-same ds w) h
  where
    go : (t : Bool) → same d w ≡ t → (first ds w < length ds → same (get_or ds (first ds w) []) w ≡ true) → pick t 0 (suc (first ds w)) < suc (length ds)
        → same (get_or (d ∷ ds) (pick t 0 (suc (first ds w))) []) w ≡ true
    go true e f k = e
    go false e f k = f (le_of_suc-le-suc k)

-- w is its candidate k
pub found : (w : List ℕ) (k : ℕ) → k ≡ candidate_of w → k < 28 → same (get_or words k []) w ≡ true → k ≡ word_index w
found w k q h e = sym (subst (λ (v : List ℕ). word_index v ≡ k) (same_equal (get_or words k []) w e) (own_index k h))

pub at_most : (w : List ℕ) → first words w ≤ 28
unfolding words opening_words
at_most w = first-le words w

shorter : (w : List ℕ) → first words w < 28 → first words w < length words
unfolding words opening_words
shorter w h = h

-- an opening word is its candidate
pub own_candidate : (w : List ℕ) → word_index w < 28 → candidate_of w ≡ word_index w
unfolding word_index
own_candidate w h =
    let q = same_equal (get_or words (first words w) []) w (first-same words w (shorter w h)) in
    ap candidate_of (sym q) ∙ own-slot (first words w) h

is_candidate : (w : List ℕ) → first words w < 28 → same (get_or words (candidate_of w) []) w ≡ true
unfolding word_index
is_candidate w h = subst (λ (k : ℕ). same (get_or words k []) w ≡ true) (sym (own_candidate w h)) (first-same words w (shorter w h))

clash : {b : Bool} → b ≡ true → b ≡ false → ⊥
clash p q = let z : ◌≡◌ {A = ℕ} 0 1 = cc in omega arith

-- or no opening word
pub not_found : (w : List ℕ) (k : ℕ) → k ≡ candidate_of w → same (get_or words k []) w ≡ false → 28 ≡ word_index w
unfolding word_index
not_found w k q e =
    let f : same (get_or words (candidate_of w) []) w ≡ false = subst (λ (j : ℕ). same (get_or words j []) w ≡ false) q e in
    elim (dec_lt (first words w) 28) [ no h ↦ omega (arith, h, at_most w) | yes h ↦ absurd (clash (is_candidate w h) f) ]
