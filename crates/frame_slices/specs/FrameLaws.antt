-- How many successors are kept, as code counts them. Assumes nothing.
use Rattle.std.specs.Prelude.{ℕ, ◌≡◌, refl, List, [], ◌∷◌, Bool, true, false, cond, count_by, length}
use Rattle.std.specs.List.{filter}
use Rattle.std.proofs.Common.{sym, ap, ◌∙◌}
use Rattle.std.proofs.lemmas.List.Sums.{length-filter}
use Rattle.listings.specs.Bytes.{pick}
use Rattle.graph.specs.Lists.{has, keep}
use Rattle.graph.specs.Questions.{kept}

keep_filter : (p : ℕ → Bool) (l : List ℕ) → filter p l ≡ keep p l
unfolding keep
keep_filter p [] = refl
keep_filter p (a ∷ l) = go (p a) (keep_filter p l)
  where
    go : (x : Bool) → filter p l ≡ keep p l → cond x (a ∷ filter p l) (filter p l) ≡ pick x (a ∷ keep p l) (keep p l)
    go true e = ap (λ (z : List ℕ). a ∷ z) e
    go false e = e

pub kept_count : (hs l : List ℕ) → count_by (λ s. has s hs) l ≡ length (kept hs l)
unfolding kept
kept_count hs l = sym (length-filter (λ s. has s hs) l) ∙ ap length (keep_filter (λ s. has s hs) l)

pub kept_filter : (hs l : List ℕ) → filter (λ s. has s hs) l ≡ kept hs l
unfolding kept
kept_filter hs l = keep_filter (λ s. has s hs) l
