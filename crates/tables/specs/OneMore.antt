-- A node or none as a table has it. Assumes nothing.
use Rattle.std.specs.Prelude.{ℕ, suc, Option, None, Some}

-- one more than the node, or 0 for none
abbrev pub one_more : Option ℕ → ℕ
one_more None = 0
one_more (Some a) = suc a
