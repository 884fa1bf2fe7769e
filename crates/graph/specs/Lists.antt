-- Lists of node ids: an edge added once, selection, ascending order. Assumes nothing.
use Rattle.std.specs.Prelude.{ℕ, zero, suc, ◌<◌, Bool, true, false, ◌||◌, eqb, ltb}
use mathlib.Core.List.{Memᴰ, List, [], ◌∷◌, ◌++◌}
use Rattle.std.proofs.Math.Option.{Option, none, some}
use Rattle.listings.specs.Bytes.{pick}

unfoldable pub has : ℕ → List ℕ → Bool
has a [] = false
has a (b ∷ l) = eqb a b || has a l

-- "An edge is added once, at the end of the list"
unfoldable pub add : List ℕ → ℕ → List ℕ
unfolding has
add l a = pick (has a l) l (l ++ (a ∷ []))

unfoldable pub add_all : List ℕ → List ℕ → List ℕ
unfolding add
add_all l [] = l
add_all l (a ∷ k) = add_all (add l a) k

-- 0, 1, .. n - 1
unfoldable pub below : ℕ → List ℕ
below zero = []
below (suc n) = below n ++ (n ∷ [])

unfoldable pub keep : (ℕ → Bool) → List ℕ → List ℕ
keep p [] = []
keep p (a ∷ l) = pick (p a) (a ∷ keep p l) (keep p l)

-- what f gives for each element, one after the other
unfoldable pub each {ℓ κ} : {A : Type ℓ} {B : Type κ} → (A → List B) → List A → List B
each f [] = []
each f (a ∷ l) = f a ++ each f l

unfoldable pub list {ℓ} : {A : Type ℓ} → Option A → List A
list none = []
list (some a) = a ∷ []

-- strictly ascending, each once: a before b, equal to it, or further on
unfoldable pub insert_by : Bool → Bool → ℕ → ℕ → List ℕ → List ℕ → List ℕ
insert_by true y a b l r = a ∷ b ∷ l
insert_by false true a b l r = b ∷ l
insert_by false false a b l r = b ∷ r

unfoldable pub insert : ℕ → List ℕ → List ℕ
unfolding insert_by
insert a [] = a ∷ []
insert a (b ∷ l) = insert_by (ltb a b) (eqb a b) a b l (insert a l)

unfoldable pub ascending : List ℕ → List ℕ
unfolding insert
ascending [] = []
ascending (a ∷ l) = insert a (ascending l)

-- each element is below all after it
pub data Ascending : List ℕ → Type 0 where
  asc[] : Ascending []
  asc∷ : {a : ℕ} {l : List ℕ} → ((b : ℕ) → Memᴰ b l → a < b) → Ascending l → Ascending (a ∷ l)
