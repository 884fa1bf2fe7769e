-- A fact of every element of a list; rows without byte 10. Assumes nothing.
use Rattle.std.specs.Prelude.{ℕ, Bool, not, List, [], ◌∷◌, ◌++◌, eqb}
use Rattle.listings.specs.Rows.{all}

pub data All {A : Type 0} (P : A → Type 0) : List A → Type 0 where
  all[] : All P []
  all∷ : {a : A} {l : List A} → P a → All P l → All P (a ∷ l)

pub all_append : {A : Type 0} {P : A → Type 0} {k l : List A} → All P k → All P l → All P (k ++ l)
all_append all[] g = g
all_append (all∷ p h) g = all∷ p (all_append h g)

-- "each row ended by byte 10": a row itself has none
unfoldable pub no_newline : List ℕ → Bool
no_newline l = all (λ c. not (eqb c 10)) l
