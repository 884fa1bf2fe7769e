-- Rows of line entries as the table lists them: a line's number, and one more than the node of its entry, or 0. Assumes
-- nothing.
use Rattle.std.specs.Prelude.{ℕ, zero, suc, ◌+◌, ◌*◌, ◌<◌, ◌≡◌, refl, List, [], ◌∷◌, ◌++◌, length, get_or}
use Rattle.std.proofs.Common.{sym, ap, ◌∙◌, arith, length-append}
use Rattle.std.proofs.Math.Decide.{ℕ_discrete}
use Rattle.std.proofs.Math.ListN.{get_or-append}
use Rattle.std.proofs.lemmas.List.{get_or_at}
use Rattle.graph.specs.Nodes.{LineEntry}
use Rattle.tables.specs.Columns.{entry_node}

-- the first k rows
unfoldable pub entries_in : ℕ → List ℕ → List LineEntry
entries_in zero t = []
entries_in (suc k) [] = []
entries_in (suc k) (n ∷ []) = []
entries_in (suc k) (n ∷ e ∷ t) = (n, entry_node e) ∷ entries_in k t

-- a column of the first k rows: 0 the numbers, 1 the nodes
unfoldable pub entry_column : (c k : ℕ) → List ℕ → List ℕ
entry_column c zero t = []
entry_column c (suc k) t = entry_column c k t ++ (get_or t (k * 2 + c) 0 ∷ [])

pub column_length : (c k : ℕ) (t : List ℕ) → length (entry_column c k t) ≡ k
unfolding entry_column
column_length c zero t = refl
column_length c (suc k) t = simp length-append (omega (arith, column_length c k t))

pub column_at : (c k : ℕ) (t : List ℕ) (i : ℕ) → i < k → get_or (entry_column c k t) i 0 ≡ get_or t (i * 2 + c) 0
unfolding entry_column
column_at c zero t i h = absurd (omega arith)
column_at c (suc k) t i h =
    elim (ℕ_discrete i k) [
      | yes q ↦ ap (λ (j : ℕ). get_or (entry_column c (suc k) t) j 0) q ∙ get_or_at (entry_column c k t) (get_or t (k * 2 + c) 0) [] 0 k (column_length c k t) ∙ ap (λ (j : ℕ). get_or t (j * 2 + c) 0) (sym q)
      | no n ↦ get_or-append (entry_column c k t) (get_or t (k * 2 + c) 0 ∷ []) 0 i (omega (arith, column_length c k t)) ∙ column_at c k t i (omega arith)
    ]
