-- Two numbers: equal or not, below or not. Assumes nothing.
use Rattle.std.specs.Prelude.{◌≡◌, ◌⊎◌, ℕ, zero, suc, ◌≤◌, ◌<◌}
use Rattle.std.proofs.Common.{inl, inr, arith}
use Rattle.std.proofs.Math.Decide.{ℕ_discrete}

pub eq-or : (a b : ℕ) → (a ≡ b) ⊎ (a ≡ b → ⊥)
eq-or a b = elim (ℕ_discrete a b) [ yes e ↦ inl e | no e ↦ inr e ]

pub lt-or : (a b : ℕ) → (a < b) ⊎ (b ≤ a)
lt-or a zero = inr (omega arith)
lt-or zero (suc b) = inl (omega arith)
lt-or (suc a) (suc b) = elim (lt-or a b) [ inl h ↦ inl (omega arith) | inr h ↦ inr (omega arith) ]
