-- The parts of a name: its characters, and what may stand behind them. Assumes nothing.
use Rattle.std.specs.Prelude.{ℕ, ◌≡◌, List, [], ◌∷◌, Bool, true, ◌||◌, eqb}
use Rattle.listings.specs.Rows.{is_digit, is_capital}

-- a character of a name, before its `%` or `$`
abbrev pub is_character : ℕ → Bool
is_character b = is_capital b || is_digit b

-- `%` or `$`
abbrev pub is_kind : ℕ → Bool
is_kind b = eqb b 37 || eqb b 36

-- what may stand behind the characters: nothing, or a kind
pub data Kind : List ℕ → Type 0 where
  no_kind : Kind []
  kind : (b : ℕ) → is_kind b ≡ true → Kind (b ∷ [])
