-- What `flow_build` returns and writes. Assumes nothing.
use Rattle.std.specs.Prelude.{Result, Ok, Err, refl, ℕ, ◌≡◌, List, [], ◌∷◌}
use Rattle.std.proofs.Common.{◌∙◌, ap, subst}
use Rattle.graph.specs.Build.{Built, graph, refused}
use Rattle.passes.specs.TableForms.{Sizes}
use Rattle.wiring.specs.GraphTables.{Answered, answer_of, answer_graph, answer_refused}
use Rattle.c_answers.specs.DoneNumbers.{number_as, place_as}
use Rattle.wiring.specs.BuiltAnswer.{BuiltAnswer, built_as}
use Rattle.wiring.specs.BuiltAnswer as answer

-- document 01's number and place; 0 and 0 for a graph
unfoldable pub number_of : Built → ℕ
number_of (graph L) = 0
number_of (refused n p) = n

unfoldable pub place_of : Built → ℕ
place_of (graph L) = 0
place_of (refused n p) = p

-- the number returned, the place, and every table as `build` leaves it
pub record BuildNumbered (b : Built) (s : Sizes) (c l t a e f k i r u p : List ℕ) (number : ℕ) (place : List ℕ) : Type 0 where
  pub number_is : number ≡ number_of b
  pub place_is : place ≡ place_of b ∷ []
  pub tables : Answered b s c l t a e f k i r u p (answer_of b)

-- the same for each case of the routine's answer
abbrev pub built_number : BuiltAnswer → ℕ
built_number answer.Graph = 0
built_number (answer.Refused n p) = n

abbrev pub built_place : BuiltAnswer → List ℕ
built_place answer.Graph = 0 ∷ []
built_place (answer.Refused n p) = p ∷ []

done_built : {R : Type 0} (f : R → ℕ × ℕ) (r : Result (Unit {0}) R) → (number_as f r ≡ built_number (built_as f r)) × (place_as f r ≡ built_place (built_as f r))
done_built f (Ok u) = (refl, refl)
done_built f (Err r) = (refl, refl)

-- ---- built, then told

pub built_numbered : (b : Built) {x : BuiltAnswer} {number : ℕ} {place : List ℕ} → x ≡ answer_of b → (number ≡ built_number x) × (place ≡ built_place x) → (number ≡ number_of b) × (place ≡ place_of b ∷ [])
unfolding number_of place_of
built_numbered (graph L) h g = let e = h ∙ answer_graph L in (g.0 ∙ ap built_number e, g.1 ∙ ap built_place e)
built_numbered (refused n p) h g = let e = h ∙ answer_refused n p in (g.0 ∙ ap built_number e, g.1 ∙ ap built_place e)

pub build-numbered : {b : Built} {s : Sizes} {c l t a e f k i r u p : List ℕ} {R : Type 0} (h : R → ℕ × ℕ) (x : Result (Unit {0}) R) {number : ℕ} {place : List ℕ} → Answered b s c l t a e f k i r u p (built_as h x)
    → (number ≡ number_as h x) × (place ≡ place_as h x) → BuildNumbered b s c l t a e f k i r u p number place
build-numbered {b} {s} {c} {l} {t} {a} {e} {f} {k} {i} {r} {u} {p} h x w g =
    let d = done_built h x in
    let z = built_numbered b w.answer (g.0 ∙ d.0, g.1 ∙ d.1) in
    record {
      number_is = z.0;
      place_is = z.1;
      tables = subst (λ (y : BuiltAnswer). Answered b s c l t a e f k i r u p y) w.answer w;
    }
