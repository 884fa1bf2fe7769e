-- A node or none, as code holds it, and as a table has it. Assumes nothing.
use Rattle.std.specs.Prelude.{ℕ, ◌-◌, ◌≤◌, ◌≡◌, refl, false, Option, None, Some}
use Rattle.std.specs.Option.{is_some, SomeIff}
use Rattle.std.proofs.Common.{arith}
use Rattle.tables.specs.OneMore.{one_more}

pub none_zero : (o : Option ℕ) → is_some o ≡ false → one_more o ≡ 0
none_zero None e = refl
none_zero (Some k) e = absurd (cc)

-- one less than t, or none if t is 0, as `checked_sub` answers
pub one_less : (o : Option ℕ) (t : ℕ) → SomeIff o (1 ≤ t) (t - 1) → one_more o ≡ t
one_less None t h = omega (arith, h)
one_less (Some k) t h = omega (arith, h)
