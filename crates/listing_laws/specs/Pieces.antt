-- Laws of the pieces between separators, as std's `split` gives them. Assumes nothing.
use Rattle.std.specs.Prelude.{ℕ, suc, ◌+◌, ◌≤◌, ◌<◌, ◌≡◌, refl, List, [], ◌∷◌, Bool, true, false, eqb, length}
use Rattle.std.proofs.Common.{cond, subst, arith, not-suc-le-zero}
use Rattle.std.proofs.lemmas.Iterator.{YieldsList}
use Rattle.std.proofs.lemmas.Iterator.Splits.{YieldsList-from_slice_split}
use Rattle.std.specs.Fn.{CalledAt}
use Rattle.std.specs.List.{slice_split, onto_first}
use Rattle.std.specs.Slice.Iter.{split_rest, split_done, split_callee, split_steps}
use denote.Param.Members.{Mut}
use denote.Ref.{Bor}
use Rattle.listings.specs.Bytes.{pick}
use Rattle.listings.specs.Rows.{split, on_first}
use Rattle.listings.specs.Scan.{split-some}

on_first-as_many : (b : ℕ) (ws : List (List ℕ)) → 0 < length ws → length (on_first b ws) ≡ length ws
unfolding on_first
on_first-as_many b [] h = absurd (not-suc-le-zero h)
on_first-as_many b (w ∷ ws) h = refl

pub split_fits : (s : ℕ) (l : List ℕ) → length (split s l) ≤ length l + 1
unfolding split
split_fits s [] = omega arith
split_fits s (b ∷ l) = go (eqb b s) (split_fits s l)
  where
    go : (t : Bool) → length (split s l) ≤ length l + 1 → length (pick t ([] ∷ split s l) (on_first b (split s l))) ≤ suc (length l) + 1
    go true h = omega arith
    go false h = omega (arith, on_first-as_many b (split s l) (split-some s l))

-- std's pieces at the bytes b are these
pub split_pieces : (b : ℕ) (l : List ℕ) → slice_split (λ x. eqb x b) l ≡ split b l
unfolding split on_first
split_pieces b [] = refl
split_pieces b (x ∷ l) = rw (split_pieces b l) (go (eqb x b) (split b l))
  where
    go : (t : Bool) (r : List (List ℕ)) → cond t ([] ∷ r) (onto_first x r) ≡ pick t ([] ∷ r) (on_first x r)
    go true r = refl
    go false [] = refl
    go false (w ∷ r) = refl

-- a `for` over a text that is cut at the bytes b goes over these; the first three facts are clauses of `split`
pub YieldsList-from_pieces : {F : Type 0} {t : _} (g : Mut F (Bor ℕ × Unit {0}) Bool) (b : ℕ) {f : F} (s : List ℕ) → split_rest t ≡ s → split_done t ≡ false → split_callee t ≡ f
    → ((x : ℕ) (r : Bool) (q : F) → CalledAt g f x r q → (q ≡ f) × (r ≡ eqb x b)) → YieldsList (split_steps g) (λ w. w.now) t (split b s)
YieldsList-from_pieces {t = t} g b s rest done closure tests =
    subst (YieldsList (split_steps g) (λ w. w.now) t) (split_pieces b s) (YieldsList-from_slice_split g (λ x. eqb x b) s rest done closure tests)
