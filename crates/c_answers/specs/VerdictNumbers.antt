-- What `flow_check` returns and writes (document 02, L1). Assumes nothing.
use Rattle.std.specs.Prelude.{Result, Ok, Err, ℕ, ◌≡◌, List, [], ◌∷◌}
use Rattle.std.proofs.Common.{◌∙◌, ap}
use Rattle.graph.specs.Check as check
use Rattle.comparing.specs.ComparingStates.{verdict_as}
use Rattle.c_answers.specs.DoneNumbers.{number_as, place_as}

-- the number and the place of each verdict; 0 and 0 for a graph that is right
unfoldable pub number_of : check.Verdict → ℕ
number_of check.right = 0
number_of (check.wrong n p) = n

unfoldable pub place_of : check.Verdict → ℕ
place_of check.right = 0
place_of (check.wrong n p) = p

-- ---- judged, then told

pub verdict_numbered : {R : Type 0} (f : R → ℕ × ℕ) (v : Result (Unit {0}) R) {w : check.Verdict} {number : ℕ} {place : List ℕ} → verdict_as f v ≡ w → (number ≡ number_as f v) × (place ≡ place_as f v)
    → (number ≡ number_of w) × (place ≡ place_of w ∷ [])
unfolding number_of place_of verdict_as
verdict_numbered f (Ok u) e g = (g.0 ∙ ap number_of e, g.1 ∙ ap (λ (z : check.Verdict). place_of z ∷ []) e)
verdict_numbered f (Err r) e g = (g.0 ∙ ap number_of e, g.1 ∙ ap (λ (z : check.Verdict). place_of z ∷ []) e)
