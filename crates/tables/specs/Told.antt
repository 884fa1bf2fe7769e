-- What a question's routine answers, as the definition has it: "document 01's number and place for each refusal".
-- Assumes nothing.
use Rattle.std.specs.Prelude.{ℕ, Result, Ok, Err}
use Rattle.graph.specs.Questions.{Reply, answer, refused}
use Rattle.layout.specs.declared.refusals.Refusal.{Refusal}
use Rattle.layout.specs.Refusals.{number_of, refusal_pair}

abbrev pub told_as : {A R : Type 0} → (R → ℕ × ℕ) → Result A R → Reply A
told_as f (Ok a) = answer a
told_as f (Err r) = refused (f r).0 (f r).1

-- the same of the papers' refusals
abbrev pub told : {A : Type 0} → Result A Refusal → Reply A
told = told_as refusal_pair

-- the same where the definition has other words for what is answered
abbrev pub told_by : {A B : Type 0} → (A → B) → Result A Refusal → Reply B
told_by f (Ok a) = answer (f a)
told_by f (Err r) = refused (number_of r.reason) r.place
