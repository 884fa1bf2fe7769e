-- A graph compared with the one due, byte by byte. Assumes nothing.
use Rattle.std.specs.Prelude.{ℕ, suc, List, [], ◌∷◌, Bool, true, false, eqb, take, drop}
use Rattle.listings.specs.Bytes.{pick}
use Rattle.graph.specs.Check.{Verdict, right, wrong}
use Rattle.comparing.specs.Judging.{Reading, start, opened, lost, beside, met, good}

-- at: how many bytes of the graph due were met. All that was given is due so far; this row is not the one due; a row
-- was not, and has ended
pub data Standing : Type 0 where
  same differs : (at : ℕ) → Reading → Standing
  ended : (number at : ℕ) → Standing

unfoldable pub begins : List ℕ → ℕ → Bool
begins [] b = false
begins (c ∷ l) b = eqb c b

-- the number of a row that is not the one due
unfoldable pub rows_number : Reading → ℕ
rows_number r = pick (good r) 32 31

unfoldable pub differing : ℕ → Reading → ℕ → Standing
differing at r b = pick (eqb b 10) (ended (rows_number r) at) (differs at (met r b))

unfoldable pub fed_byte : List ℕ → Standing → ℕ → Standing
fed_byte due (same at r) b = pick (begins (drop at due) b) (same (suc at) (pick (eqb b 10) start (met r b))) (differing at r b)
fed_byte due (differs at r) b = differing at r b
fed_byte due (ended n at) b = ended n at

unfoldable pub fed : List ℕ → Standing → List ℕ → Standing
fed due s [] = s
fed due s (b ∷ g) = fed due (fed_byte due s b) g

-- how many rows end in a text
unfoldable pub rows_ended : List ℕ → ℕ
rows_ended [] = 0
rows_ended (b ∷ l) = pick (eqb b 10) (suc (rows_ended l)) (rows_ended l)

unfoldable pub is_start : Reading → Bool
is_start start = true
is_start opened = false
is_start lost = false
is_start (beside d) = false

unfoldable pub nothing : List ℕ → Bool
nothing [] = true
nothing (b ∷ l) = false

unfoldable pub place_at : List ℕ → ℕ → ℕ
place_at due at = rows_ended (take at due)

-- what is said where the graph given ends
unfoldable pub ruled : List ℕ → Standing → Verdict
ruled due (same at r) = pick (is_start r) (pick (nothing (drop at due)) right (wrong 32 (place_at due at))) (wrong 31 (place_at due at))
ruled due (differs at r) = wrong 31 (place_at due at)
ruled due (ended n at) = wrong n (place_at due at)
