-- Checking a graph that came from elsewhere (document 02, L1). Assumes nothing.
use Rattle.std.specs.Prelude.{ℕ, zero, suc, ◌+◌, ◌-◌, ◌*◌, List, [], ◌∷◌, Bool, true, false, ◌&&◌, ◌||◌, eqb, leb, ltb}
use Rattle.std.proofs.Math.Option.{Option, none, some}
use Rattle.listings.specs.Bytes.{bytes, same, pick}
use Rattle.listings.specs.Rows.{split, is_digit}
use Rattle.graph.specs.Print.{printed, printed_refusal}
use Rattle.graph.specs.Build.{Capacity, Built, graph, refused, build, limits}

-- ---- the rows that a graph prints

-- "whichever numbers of document 01 stand in it and however many, even none, in its lists (path, succ, pred, returns)":
-- `#` stands for a number, `*` for numbers with a space before each, `%` for numbers with a space between them, `?` for
-- one number with a space before it, or none
unfoldable pub row_forms : List (List ℕ)
row_forms = bytes "(graph # #" ∷ bytes "(node # # # (%) (in?) (succ*) (pred*))" ∷ bytes "(entry # #)" ∷ bytes "(returns*)" ∷ bytes "(back # #)" ∷ bytes ")" ∷ []

-- ---- a row read beside a form, byte by byte

-- where a row stands: not in a number, where one must begin, in one of that value
pub data At : Type 0 where
  outside begins : At
  inside : ℕ → At

-- where a row stands, and the form that is left
abbrev pub Left : Type 0
Left = At × List ℕ

-- a byte that begins a number; then f is left
unfoldable pub begun : List ℕ → ℕ → Option Left
begun f b = pick (is_digit b) (some (inside (b - 48), f)) none

-- a byte outside numbers
unfoldable pub outside_step : List ℕ → ℕ → Option Left
outside_step [] b = none
outside_step (c ∷ f) b =
    pick (eqb c 35) (begun f b)
    (pick (eqb c 42) (pick (eqb b 32) (some (begins, c ∷ f)) (outside_step f b))
    (pick (eqb c 37) (pick (is_digit b) (begun (42 ∷ f) b) (outside_step f b))
    (pick (eqb c 63) (pick (eqb b 32) (some (begins, f)) (outside_step f b))
    (pick (eqb c b) (some (outside, f)) none))))

-- one more digit of a number: "decimal without leading zeros", "0 to 65535"
unfoldable pub digit_step : ℕ → List ℕ → ℕ → Option Left
digit_step v f b = pick (ltb 0 v && leb (v * 10 + (b - 48)) 65535) (some (inside (v * 10 + (b - 48)), f)) none

unfoldable pub step : At → List ℕ → ℕ → Option Left
step outside f b = outside_step f b
step begins f b = begun f b
step (inside v) f b = pick (is_digit b) (digit_step v f b) (outside_step f b)

-- a row may end where nothing is left but lists and a number that may be missing
unfoldable pub may_end : List ℕ → Bool
may_end [] = true
may_end (c ∷ f) = (eqb c 42 || (eqb c 37 || eqb c 63)) && may_end f

unfoldable pub ends : At → List ℕ → Bool
ends outside f = may_end f
ends begins f = false
ends (inside v) f = may_end f

unfoldable pub fits_from : At → List ℕ → List ℕ → Bool
fits_from a f [] = ends a f
fits_from a f (b ∷ w) = elim (step a f b) [ none ↦ false | some d ↦ fits_from d.0 d.1 w ]

unfoldable pub fits : List ℕ → List ℕ → Bool
fits f w = fits_from outside f w

unfoldable pub fits_one : List (List ℕ) → List ℕ → Bool
fits_one [] w = false
fits_one (f ∷ fs) w = fits f w || fits_one fs w

unfoldable pub is_graph_row : List ℕ → Bool
is_graph_row w = fits_one row_forms w

-- ---- the check

pub data Verdict : Type 0 where
  right : Verdict
  wrong : (number place : ℕ) → Verdict

-- "31, a row is none that a graph prints ..; 32, a row is in form but wrong ..; 31 wins on the same row": of a row that is not the one due
unfoldable pub row_number : List ℕ → ℕ
row_number w = pick (is_graph_row w) 32 31

-- what stands between the bytes 10, of the graph due and of the one given, from row i on; the last piece of either is behind its last byte 10 (neither is ever without a piece: those clauses are for the type)
unfoldable pub compared : ℕ → List (List ℕ) → List (List ℕ) → Verdict
-- "or lacks its byte 10"
compared i due ((b ∷ w) ∷ []) = wrong 31 i
-- the graph ends: where the one due does, or else a row is "missing": "its row count if one is missing at the end"
compared i [] ([] ∷ []) = right
compared i (d ∷ []) ([] ∷ []) = right
compared i (d ∷ e ∷ due) ([] ∷ []) = wrong 32 i
compared i due [] = wrong 32 i
-- "or one too many"
compared i [] (w ∷ v ∷ ws) = wrong (row_number w) i
compared i (d ∷ []) (w ∷ v ∷ ws) = wrong (row_number w) i
-- "the place is the first such row of the graph file"
compared i (d ∷ e ∷ due) (w ∷ v ∷ ws) = pick (same d w) (compared (suc i) (e ∷ due) (v ∷ ws)) (wrong (row_number w) i)

unfoldable pub against : Built → List ℕ → Verdict
against (graph L) g = compared 0 (split 10 (printed L)) (split 10 g)
-- "Both come after all of the listing's refusals"
against (refused n p) g = wrong n p

-- of a listing's text t and a graph's g; c: what the lent tables hold
abbrev pub checked : Capacity → (t g : List ℕ) → Verdict
checked c t g = against (build c t) g

-- "It prints `(right)` or a refusal row."
unfoldable pub shown : Verdict → List ℕ
shown right = bytes "(right)\n"
shown (wrong n p) = printed_refusal n p

unfoldable pub flowcheck : (t g : List ℕ) → List ℕ
flowcheck t g = shown (checked limits t g)
