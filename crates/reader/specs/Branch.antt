-- A branch of an IF, and the form and the number that its record has of it. Assumes nothing.
use Rattle.std.specs.Prelude.{ℕ, eqb, Option, None, Some}
use Rattle.listings.specs.Bytes.{pick}
use Rattle.reader.specs.declared.branch.Branch.{Branch}
use Rattle.reader.specs.declared.branch.Branch.TheVariants as branch

-- the form and the number of a branch, as its record has them
abbrev pub branch_columns : Branch → ℕ × ℕ
branch_columns branch.Stmts = (1, 0)
branch_columns (branch.To n) = (2, n)

-- by its form and its number; a form that is none and no line's is statements'
abbrev pub branch_of : (form number : ℕ) → Option Branch
branch_of form number = pick (eqb form 0) None (pick (eqb form 2) (Some (branch.To number)) (Some branch.Stmts))
