-- Reaching one node from another by steps, of which only nodes below n take any: as an inductive predicate and as a test that computes.
-- Assumes nothing.
use Rattle.std.specs.Prelude.{ℕ, zero, suc, Bool, true, false, ◌||◌, eqb}
use mathlib.Core.List.{List, Memᴰ}
use Rattle.graph.specs.Lists.{has}

-- a way from a to b, which may be no step at all
pub data Reach (step : ℕ → List ℕ) (a : ℕ) : ℕ → Type 0 where
  here : Reach step a a
  on : {b c : ℕ} → Reach step a b → Memᴰ c (step b) → Reach step a c

-- a way whose nodes between its ends are all below k
unfoldable pub reaches : (ℕ → List ℕ) → ℕ → ℕ → ℕ → Bool
reaches step zero a b = eqb a b || has b (step a)
reaches step (suc k) a b =
    elim (reaches step k a b) [ true ↦ true | false ↦ elim (reaches step k a k) [ true ↦ reaches step k k b | false ↦ false ] ]
