-- A row of the table of line entries; the first of its nodes, if there is one. Assumes nothing.
use Rattle.std.specs.Prelude.{ℕ, zero, suc, ◌+◌, ◌*◌, ◌≡◌, List, [], ◌∷◌, ◌++◌, get_or, take}
use Rattle.std.proofs.Common.{sym, ap, ◌∙◌, arith}
use Rattle.std.proofs.Math.Option.{some}
use Rattle.std.proofs.Math.ListN.{get_elem?}
use Rattle.graph.specs.Lists.{each}
use Rattle.graph.specs.Nodes.{LineEntry, Entries}
use Rattle.graph_laws.specs.Adding.{node_number, decode}
use Rattle.tables.specs.EntryRows.{entry_column, column_length, column_at}
use Rattle.passes.specs.LineEntries.{entry_pairs}
use Rattle.passes.specs.LineSearch.{EntryTable}
use Rattle.passes.specs.AddRoom.{first-none, first-is}

row_of : (ds : List LineEntry) (rest : List ℕ) (i : ℕ) (d : LineEntry) → get_elem? ds i ≡ some d
    → (get_or (entry_pairs ds ++ rest) (i * 2 + 0) 0 ≡ d.0) × (get_or (entry_pairs ds ++ rest) (i * 2 + 1) 0 ≡ node_number d.1)
unfolding entry_pairs
row_of [] rest i d e = absurd (let z : ◌≡◌ {A = ℕ} 0 1 = cc in omega arith)
row_of (c ∷ ds) rest zero d e = let q : c ≡ d = cc in (ap (λ (x : LineEntry). x.0) q, ap (λ (x : LineEntry). node_number x.1) q)
row_of (c ∷ ds) rest (suc i) d e =
    let a : suc i * 2 + 0 ≡ suc (suc (i * 2 + 0)) = omega arith in
    let b : suc i * 2 + 1 ≡ suc (suc (i * 2 + 1)) = omega arith in
    let r = row_of ds rest i d e in
    (rw a r.0, rw b r.1)

-- row i, as the table lists it
pub table_row : {es : Entries} {entries : List ℕ} {k : ℕ} → EntryTable es entries k → (i : ℕ) (d : LineEntry) → get_elem? es.rows i ≡ some d
    → (get_or entries (i * 2 + 0) 0 ≡ d.0) × (get_or entries (i * 2 + 1) 0 ≡ node_number d.1)
table_row {es} t i d e = rw t.listed (row_of es.rows t.rest i d e)

module _ (t : List ℕ) (rows : ℕ) where
  pub column_none : rows ≡ 0 → [] ≡ each decode (take 1 (entry_column 1 rows t))
  column_none z = first-none (entry_column 1 rows t) (column_length 1 rows t ∙ z)

  pub column_one : (rows ≡ 0 → ⊥) → decode (get_or t 1 0) ≡ each decode (take 1 (entry_column 1 rows t))
  column_one z =
      let first_at : get_or (entry_column 1 rows t) 0 0 ≡ get_or t 1 0 = column_at 1 rows t 0 (omega arith) in
      rw first_at at (first-is (entry_column 1 rows t) (λ e. z (sym (column_length 1 rows t) ∙ e)))
