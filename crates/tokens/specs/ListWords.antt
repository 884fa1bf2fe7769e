-- The definitions' own recursions over a word are the library's. Assumes nothing.
use Rattle.std.specs.Prelude.{ℕ, suc, ◌+◌, ◌≡◌, refl, List, [], ◌∷◌, Bool, true, false, not, ◌&&◌, cond, eqb, ltb, length, Some, None}
use Rattle.std.proofs.lemmas.List.Recursion.{is_position_or_len}
use Rattle.std.specs.List.{list_all, position, position_or_len}
use Rattle.std.specs.Option.{unwrap_or}
use Rattle.std.proofs.Common.{ap, sym, ◌∙◌, ◌≤◌, arith, Option, length-take}
use Rattle.std.proofs.lemmas.List.Folds.{length-prefix_len}
use borrow.Author.Tests.{ltb-false}
use lib.Pointwise.{pointwise}
use Rattle.listings.specs.Bytes.{same, pick}
use Rattle.listings.specs.Rows.{all}
use Rattle.listings.specs.Scan.{index_of}

pub all_is : (p : ℕ → Bool) (l : List ℕ) → list_all p l ≡ all p l
unfolding all
all_is p [] = refl
all_is p (x ∷ l) = ap (λ (t : Bool). p x && t) (all_is p l)

pub index_is : (b : ℕ) (l : List ℕ) → index_of b l ≡ position_or_len (λ x. eqb x b) l
unfolding index_of
index_is b l = is_position_or_len (index_of b) (λ x. eqb x b) refl more l
  where
    go : (t : Bool) (n : ℕ) → pick t 0 (suc n) ≡ cond t 0 (1 + n)
    go true n = refl
    go false n = omega arith

    more : (x : ℕ) (l : List ℕ) → index_of b (x ∷ l) ≡ cond (eqb x b) 0 (1 + index_of b l)
    more x l = go (eqb x b) (index_of b l)

-- the first place that passes, or the end
pub first_or_end : (p : ℕ → Bool) (l : List ℕ) (r : Option ℕ) → r ≡ cond (ltb (position_or_len p l) (length l)) (Some (position_or_len p l)) None
    → (unwrap_or r (length l) ≡ position_or_len p l) × (position_or_len p l ≤ length l)
first_or_end p l r e = (go (ltb n (length l)) refl e, in_list)
  where
    n : ℕ
    n = position_or_len p l

    in_list : n ≤ length l
    in_list = omega (arith, length-prefix_len (λ x. not (p x)) l, length-take n l)

    go : (z : Bool) → ltb n (length l) ≡ z → r ≡ cond z (Some n) None → unwrap_or r (length l) ≡ n
    go true q f = rw f refl
    go false q f = rw f (omega (arith, ltb-false n (length l) q, in_list))

pub find_is : (b : ℕ) (l : List ℕ) → unwrap_or (position (λ x. eqb x b) l) (length l) ≡ index_of b l
find_is b l = (first_or_end (λ x. eqb x b) l (position (λ x. eqb x b) l) refl).0 ∙ sym (index_is b l)

pub same_is : (a w : List ℕ) → pointwise eqb a w ≡ same a w
unfolding same
same_is [] [] = refl
same_is [] (b ∷ w) = refl
same_is (a ∷ k) [] = refl
same_is (a ∷ k) (b ∷ w) = ap (λ (t : Bool). eqb a b && t) (same_is k w)
