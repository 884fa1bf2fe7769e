-- The first word or row of a text, as the code finds it, and whether there are more. Assumes nothing.
use Rattle.std.specs.Prelude.{ℕ, suc, ◌+◌, ◌-◌, ◌<◌, ◌≡◌, refl, List, [], ◌∷◌, ◌++◌, Bool, true, false, ◌||◌, eqb, length, take, drop, Option, Some, None}
use Rattle.std.specs.List.{list_any}
use Rattle.std.proofs.Common.{sym, ap, ◌∙◌, arith, add-one, eqb-true, length-append, not-suc-le-zero}
use denote.Ref.{Bor}
use Rattle.listings.specs.Bytes.{pick}
use Rattle.listings.specs.Rows.{split}
use Rattle.listings.specs.Scan.{index_of, split_last, split_more, rest_all}

-- what stands before the first b and what stands behind it, of a text that has one
abbrev pub FirstPiece : ℕ → List ℕ → Option (Bor (List ℕ) × Bor (List ℕ)) → Type 0
FirstPiece b s None = split b s ≡ s ∷ []
FirstPiece b s (Some d) = (split b s ≡ d.0.now ∷ split b d.1.now) × (s ≡ d.0.now ++ (b ∷ d.1.now))

abbrev pub FirstWord : List ℕ → Option (Bor (List ℕ) × Bor (List ℕ)) → Type 0
FirstWord s None = split 32 s ≡ s ∷ []
FirstWord s (Some d) = split 32 s ≡ d.0.now ∷ split 32 d.1.now

abbrev pub FirstRow : List ℕ → Option (Bor (List ℕ) × Bor (List ℕ)) → Type 0
FirstRow = FirstPiece 10

pub word_first : (s : List ℕ) (o : Option (Bor (List ℕ) × Bor (List ℕ))) → FirstPiece 32 s o → FirstWord s o
word_first s None h = h
word_first s (Some d) h = h.0

-- what is left is shorter
pub row_shorter : (s row left : List ℕ) → s ≡ row ++ (10 ∷ left) → length row + length left < length s
row_shorter s row left h = rw (h, length-append row (10 ∷ left)) (omega arith)

-- a text is what stands before its first b, that b, and the rest
index_parts : (b : ℕ) (l : List ℕ) → index_of b l < length l → l ≡ take (index_of b l) l ++ (b ∷ drop (suc (index_of b l)) l)
unfolding index_of
index_parts b [] h = absurd (not-suc-le-zero h)
index_parts b (x ∷ l) h = go (eqb x b) refl (λ q. index_parts b l q) h
  where
    go : (t : Bool) → eqb x b ≡ t → (index_of b l < length l → l ≡ take (index_of b l) l ++ (b ∷ drop (suc (index_of b l)) l)) → pick t 0 (suc (index_of b l)) < suc (length l)
        → x ∷ l ≡ take (pick t 0 (suc (index_of b l))) (x ∷ l) ++ (b ∷ drop (suc (pick t 0 (suc (index_of b l)))) (x ∷ l))
    go true e f q = ap (λ (z : ℕ). z ∷ l) (eqb-true x b e)
    go false e f q = ap (λ (z : List ℕ). x ∷ z) (f (omega arith))

-- e: where the first b stands
module _ (b : ℕ) (s : List ℕ) (e : ℕ) (found : e ≡ index_of b s) where
  pub first_alone : e ≡ length s → split b s ≡ s ∷ []
  first_alone h = split_last b s (sym found ∙ h)

  pub first_more : e < length s → split b s ≡ take e s ∷ split b (take (length s - (e + 1)) (drop (e + 1) s))
  first_more h = rw (rest_all s (e + 1), add-one, found) (split_more b s (omega (arith, found)))

  pub first_parts : e < length s → s ≡ take e s ++ (b ∷ take (length s - (e + 1)) (drop (e + 1) s))
  first_parts h = rw (rest_all s (e + 1), add-one, found) (index_parts b s (omega (arith, found)))

-- ---- whether there is a space

pub lacks_space : (l : List ℕ) → list_any (λ y. eqb y 32) l ≡ false → index_of 32 l ≡ length l
unfolding index_of
lacks_space [] h = refl
lacks_space (x ∷ l) h = go (eqb x 32) (λ e. lacks_space l e) h
  where
    go : (t : Bool) → (list_any (λ y. eqb y 32) l ≡ false → index_of 32 l ≡ length l) → t || list_any (λ y. eqb y 32) l ≡ false → pick t 0 (suc (index_of 32 l)) ≡ suc (length l)
    go true f e = cc
    go false f e = ap suc (f e)

pub has_space : (l : List ℕ) → list_any (λ y. eqb y 32) l ≡ true → index_of 32 l < length l
unfolding index_of
has_space [] h = cc
has_space (x ∷ l) h = go (eqb x 32) (λ e. has_space l e) h
  where
    go : (t : Bool) → (list_any (λ y. eqb y 32) l ≡ true → index_of 32 l < length l) → t || list_any (λ y. eqb y 32) l ≡ true → pick t 0 (suc (index_of 32 l)) < suc (length l)
    go true f e = omega arith
    go false f e = omega (arith, f e)
