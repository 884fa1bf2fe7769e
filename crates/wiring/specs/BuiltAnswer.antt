-- What `build` answers. Assumes nothing.
use Rattle.std.specs.Prelude.{ℕ, Result, Ok, Err}
use Rattle.layout.specs.declared.refusals.Refusal.{Refusal as RefusalAnswer}
use Rattle.layout.specs.Refusals.{refusal_pair}

-- a graph, or document 01's number and place
pub data BuiltAnswer : Type 0 where
  Graph : BuiltAnswer
  Refused : ℕ → ℕ → BuiltAnswer

-- as a routine says it, by what a refusal tells
abbrev pub built_as : {R : Type 0} → (R → ℕ × ℕ) → Result (Unit {0}) R → BuiltAnswer
built_as f (Ok u) = Graph
built_as f (Err r) = Refused (f r).0 (f r).1

-- the same of the papers' refusals
abbrev pub built_told : Result (Unit {0}) RefusalAnswer → BuiltAnswer
built_told = built_as refusal_pair
