-- Which rows a form stands for (document 02, L1): "whichever numbers of document 01 stand in it and however many, even none, in its lists". Assumes nothing.
use Rattle.std.specs.Prelude.{ℕ, ◌≡◌, Bool, false, ◌||◌, eqb}
use mathlib.Core.List.{List, [], ◌∷◌, ◌++◌, Memᴰ}
use Rattle.listings.specs.Bytes.{decimal}
use Rattle.listings.specs.ListingText.{NumberOk}
use Rattle.graph.specs.Check.{row_forms}

-- `#`, `*`, `%` and `?`; any other byte of a form stands for itself
unfoldable pub is_sign : ℕ → Bool
is_sign c = eqb c 35 || (eqb c 42 || (eqb c 37 || eqb c 63))

-- a row that a form stands for
pub data Fills : (form row : List ℕ) → Type 0 where
  -- at the end
  done : Fills [] []
  -- a byte
  itself : {f w : List ℕ} (c : ℕ) → is_sign c ≡ false → Fills f w → Fills (c ∷ f) (c ∷ w)
  -- `#`, a number
  number : {f w : List ℕ} (n : ℕ) → NumberOk n → Fills f w → Fills (35 ∷ f) (decimal n ++ w)
  -- `*`, numbers with a space before each: no more, or one more
  no_more : {f w : List ℕ} → Fills f w → Fills (42 ∷ f) w
  one_more : {f w : List ℕ} (n : ℕ) → NumberOk n → Fills (42 ∷ f) w → Fills (42 ∷ f) (32 ∷ (decimal n ++ w))
  -- `%`, numbers with a space between them: none, or a first one and more
  none : {f w : List ℕ} → Fills f w → Fills (37 ∷ f) w
  first : {f w : List ℕ} (n : ℕ) → NumberOk n → Fills (42 ∷ f) w → Fills (37 ∷ f) (decimal n ++ w)
  -- `?`: nothing, or one number with a space before it
  missing : {f w : List ℕ} → Fills f w → Fills (63 ∷ f) w
  one : {f w : List ℕ} (n : ℕ) → NumberOk n → Fills f w → Fills (63 ∷ f) (32 ∷ (decimal n ++ w))

-- "a row .. that a graph prints"
pub record GraphRow (w : List ℕ) : Type 0 where
  pub form : List ℕ
  pub listed : Memᴰ form row_forms
  pub filled : Fills form w
