-- A node's two lists, as the code tells them apart. Assumes nothing.
use Rattle.std.specs.Prelude.{ℕ, ◌+◌, ◌*◌, ◌≤◌, ◌≡◌, List, get_or}
use Rattle.std.proofs.Common.{sym, ap, ◌∙◌}
use Rattle.graph.specs.Questions.{Reply, answer}
use Rattle.adjacency.specs.ListsAt.{list_at, successors_at, predecessors_at}
use Rattle.adjacency.specs.ListsAtLaws.{successors_columns, predecessors_columns, asked-inside}
use Rattle.adjacency.specs.declared.successors.Side.{Side}
use Rattle.adjacency.specs.declared.successors.Side.TheVariants as side

-- where the start of each stands in the node's record
abbrev pub column_of : Side → ℕ
column_of side.Successors = 0
column_of side.Predecessors = 2

-- where each stands, or the refusal
abbrev pub side_at : Side → (counts lists : List ℕ) (size node : ℕ) → Reply (ℕ × ℕ)
side_at side.Successors = successors_at
side_at side.Predecessors = predecessors_at

by_columns : (s : Side) (counts lists : List ℕ) (size node : ℕ)
    → list_at counts lists size node (get_or lists (node * 4 + column_of s) 0) (get_or lists (node * 4 + (column_of s + 1)) 0) ≡ side_at s counts lists size node
by_columns side.Successors = successors_columns
by_columns side.Predecessors = predecessors_columns

-- as code reads it, by the column where its start stands
pub side_read : (s : Side) (counts lists : List ℕ) (size node first : ℕ) → first ≡ column_of s
    → list_at counts lists size node (get_or lists (node * 4 + first) 0) (get_or lists (node * 4 + (first + 1)) 0) ≡ side_at s counts lists size node
side_read s counts lists size node first e =
    ap (λ (k : ℕ). list_at counts lists size node (get_or lists (node * 4 + k) 0) (get_or lists (node * 4 + (k + 1)) 0)) e ∙ by_columns s counts lists size node

-- a part that is answered lies in the edge table
pub side_inside : (s : Side) (counts lists : List ℕ) (size node a n : ℕ) → answer (a, n) ≡ side_at s counts lists size node → a + n ≤ size
side_inside s counts lists size node a n e =
    asked-inside counts lists size node (get_or lists (node * 4 + column_of s) 0) (get_or lists (node * 4 + (column_of s + 1)) 0) a n (e ∙ sym (by_columns s counts lists size node))
