-- What the C functions return and write that only build or check. Assumes nothing.
use Rattle.std.specs.Prelude.{ℕ, List, [], ◌∷◌, Result, Ok, Err}
use Rattle.layout.specs.declared.refusals.Refusal.{Refusal}
use Rattle.layout.specs.Refusals.{refusal_pair}

-- document 01's number and place; 0 and 0 where nothing is refused
abbrev pub number_as : {R : Type 0} → (R → ℕ × ℕ) → Result (Unit {0}) R → ℕ
number_as f (Ok u) = 0
number_as f (Err r) = (f r).0

abbrev pub place_as : {R : Type 0} → (R → ℕ × ℕ) → Result (Unit {0}) R → List ℕ
place_as f (Ok u) = 0 ∷ []
place_as f (Err r) = (f r).1 ∷ []

-- the same of the papers' refusals
abbrev pub done_number : Result (Unit {0}) Refusal → ℕ
done_number = number_as refusal_pair

abbrev pub done_place : Result (Unit {0}) Refusal → List ℕ
done_place = place_as refusal_pair
