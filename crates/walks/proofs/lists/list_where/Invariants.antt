-- `list_where`: those of the first i nodes are listed. Assumes nothing.
use Rattle.std.proofs.Common.{◌≡◌, ℕ, Bool, ◌<◌, ◌≤◌}
use Rattle.passes.specs.Sets.{Put}
use Rattle.passes.specs.ListedWhere.{listed_where}
use Rattle.walks.proofs.lists.list_where.Given as goal

abbrev pub invariant-loop-i : goal.invariant-loop-i
invariant-loop-i g l = (l.m ≤ l.i) × ((p : ℕ → Bool) → ((i : ℕ) (r : Bool) → i < l.records.n → goal.F-post g l.passes i r → r ≡ p i) → Put l.initial.list 0 l.list l.m (listed_where p l.i))
