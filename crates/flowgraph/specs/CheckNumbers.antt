-- What `flow_check` returns, and what it leaves in the lent tables and on the page (document 02, L1). Assumes nothing.
use Rattle.std.specs.Prelude.{Result, ℕ, ◌≡◌, List, [], ◌∷◌}
use Rattle.graph.specs.Check.{checked}
use Rattle.passes.specs.TableForms.{Sizes, capacity}
use Rattle.wiring.specs.BuiltAnswer.{BuiltAnswer}
use Rattle.comparing.specs.ComparingStates.{verdict_as}
use Rattle.c_answers.specs.DoneNumbers.{number_as, place_as}
use Rattle.printing.specs.ListGraph.{GraphListed}
use Rattle.checking.specs.Checking.{GraphChecked}
use Rattle.c_answers.specs.VerdictNumbers.{number_of, place_of, verdict_numbered}

-- page is page' after: the number returned and the place are the definition's, the tables and the page are as `list_graph` leaves them
pub record CheckNumbered (text given : List ℕ) (s : Sizes) (c l t a e f k i r u p page page' : List ℕ) (number : ℕ) (place : List ℕ) : Type 0 where
  pub number_is : number ≡ number_of (checked (capacity s) text given)
  pub place_is : place ≡ place_of (checked (capacity s) text given) ∷ []
  pub built : BuiltAnswer
  pub len : ℕ
  pub listed : GraphListed text s c l t a e f k i r u p page page' built len

-- judged, then told
pub check-numbered : {text given : List ℕ} {s : Sizes} {c l t a e f k i r u p page page' : List ℕ} {R : Type 0} (h : R → ℕ × ℕ) (v : Result (Unit {0}) R) {number : ℕ} {place : List ℕ}
    → GraphChecked text given s c l t a e f k i r u p page page' (verdict_as h v) → (number ≡ number_as h v) × (place ≡ place_as h v)
    → CheckNumbered text given s c l t a e f k i r u p page page' number place
check-numbered h v w g =
    let z = verdict_numbered h v w.verdict g in
    record { number_is = z.0; place_is = z.1; built = w.built; len = w.len; listed = w.listed }
