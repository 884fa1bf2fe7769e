-- The table of line entries (how it is filled: LinePass). Assumes nothing.
use Rattle.std.specs.Prelude.{ℕ, zero, suc, ◌+◌, ◌*◌, ◌<◌, ◌≡◌, refl, drop, replicate}
use Rattle.std.proofs.Math.Path.{ap, sym}
use Rattle.std.proofs.Common.{◌∙◌, arith, length-append, ext_get_or}
use mathlib.Core.List.{List, [], ◌∷◌, ◌++◌, append_assoc}
use Rattle.std.proofs.Math.Option.{Option, none, some}
use Rattle.std.proofs.Math.ListN.{length, get_or, get_elem?}
use Rattle.std.proofs.Math.Seq.{get_or_at}
use Rattle.listings.specs.Listing.{Stmts, ∅, ◌▸◌, branching, Lines, nolines, line, size, len, total, count}
use Rattle.listings.specs.Records.{Rec, padded, stmt_recs, simple_rec, cond_rec}
use Rattle.listings.specs.Every.{All, all[], all∷, all_append}
use Rattle.graph.specs.Nodes.{line_entry, LineEntry, entries_before, entries}
use Rattle.graph_laws.specs.Adding.{node_number}
use Rattle.tables.specs.EntryRows.{entry_column, column_length, column_at}
use Rattle.passes.specs.Held.{LinesHeld, StmtsHeld}

-- a row of two for each line: its number, and one more than the node of its entry, or 0
unfoldable pub entry_pairs : List LineEntry → List ℕ
entry_pairs [] = []
entry_pairs (d ∷ es) = d.0 ∷ node_number d.1 ∷ entry_pairs es

unfoldable pub entry_rows : Lines → List ℕ
entry_rows ls = entry_pairs (entries ls).rows

-- the two columns
unfoldable pub numbers_of : List LineEntry → List ℕ
numbers_of [] = []
numbers_of (d ∷ es) = d.0 ∷ numbers_of es

unfoldable pub entry_nodes : List LineEntry → List ℕ
entry_nodes [] = []
entry_nodes (d ∷ es) = node_number d.1 ∷ entry_nodes es

pub pairs_append : (ds es : List LineEntry) → entry_pairs (ds ++ es) ≡ entry_pairs ds ++ entry_pairs es
unfolding entry_pairs
pairs_append [] es = refl
pairs_append (d ∷ ds) es = ap (λ (l : List ℕ). d.0 ∷ node_number d.1 ∷ l) (pairs_append ds es)

pub pairs_length : (es : List LineEntry) → length (entry_pairs es) ≡ length es * 2
unfolding entry_pairs
pairs_length [] = refl
pairs_length (d ∷ es) = omega (arith, pairs_length es)

pub nodes-append : (ds es : List LineEntry) → entry_nodes (ds ++ es) ≡ entry_nodes ds ++ entry_nodes es
unfolding entry_nodes
nodes-append [] es = refl
nodes-append (d ∷ ds) es = ap (λ (l : List ℕ). node_number d.1 ∷ l) (nodes-append ds es)

numbers_long : (es : List LineEntry) → length (numbers_of es) ≡ length es
unfolding numbers_of
numbers_long [] = refl
numbers_long (d ∷ es) = ap suc (numbers_long es)

nodes_long : (es : List LineEntry) → length (entry_nodes es) ≡ length es
unfolding entry_nodes
nodes_long [] = refl
nodes_long (d ∷ es) = ap suc (nodes_long es)

-- row i of the table
pair_at : (es : List LineEntry) (rest : List ℕ) (i : ℕ) → i < length es
    → (get_or (entry_pairs es ++ rest) (i * 2 + 0) 0 ≡ get_or (numbers_of es) i 0) × (get_or (entry_pairs es ++ rest) (i * 2 + 1) 0 ≡ get_or (entry_nodes es) i 0)
unfolding entry_pairs numbers_of entry_nodes
pair_at [] rest i h = absurd (omega arith)
pair_at (d ∷ es) rest zero h = (refl, refl)
pair_at (d ∷ es) rest (suc i) h =
    let a : suc i * 2 + 0 ≡ suc (suc (i * 2 + 0)) = omega arith in
    let b : suc i * 2 + 1 ≡ suc (suc (i * 2 + 1)) = omega arith in
    let r = pair_at es rest i (omega arith) in
    (rw a r.0, rw b r.1)

-- the columns that the table has
module _ (es : List LineEntry) (rest : List ℕ) (k : ℕ) (counted : k ≡ length es) where
  pub number_column : entry_column 0 k (entry_pairs es ++ rest) ≡ numbers_of es
  number_column =
      ext_get_or 0 (entry_column 0 k (entry_pairs es ++ rest)) (numbers_of es) (column_length 0 k (entry_pairs es ++ rest) ∙ counted ∙ sym (numbers_long es))
      (λ i h. column_at 0 k (entry_pairs es ++ rest) i (omega (arith, column_length 0 k (entry_pairs es ++ rest))) ∙ (pair_at es rest i (omega (arith, column_length 0 k (entry_pairs es ++ rest)))).0)

  pub node_column : entry_column 1 k (entry_pairs es ++ rest) ≡ entry_nodes es
  node_column =
      ext_get_or 0 (entry_column 1 k (entry_pairs es ++ rest)) (entry_nodes es) (column_length 1 k (entry_pairs es ++ rest) ∙ counted ∙ sym (nodes_long es))
      (λ i h. column_at 1 k (entry_pairs es ++ rest) i (omega (arith, column_length 1 k (entry_pairs es ++ rest))) ∙ (pair_at es rest i (omega (arith, column_length 1 k (entry_pairs es ++ rest)))).1)

-- the second entry of a row
pub second_at : (p : List ℕ) (a b : ℕ) (u : List ℕ) (l : ℕ) → length p ≡ l * 2 → get_or (p ++ (a ∷ b ∷ u)) (l * 2 + 1) 0 ≡ b
second_at p a b u l e =
    ap (λ (t : List ℕ). get_or t (l * 2 + 1) 0) (sym (append_assoc p (a ∷ []) (b ∷ u))) ∙ get_or_at (p ++ (a ∷ [])) b u 0 (l * 2 + 1) (simp length-append (omega arith))

pub entries-length : (e : Option ℕ) (ls : Lines) → length (entries_before e ls) ≡ count ls
unfolding entries_before count
entries-length e nolines = refl
entries-length e (line ls n s) = simp length-append (omega (arith, entries-length (line_entry (total ls) s e) ls))

-- ---- the reader's records as a list

-- an element of a list, with what stands behind it
pub at_place : {A : Type 0} (l : List A) (i : ℕ) → i < length l → (a : A) × (get_elem? l i ≡ some a) × (drop i l ≡ a ∷ drop (suc i) l)
at_place [] i h = absurd (omega arith)
at_place (a ∷ l) zero h = (a, refl, refl)
at_place (a ∷ l) (suc i) h = at_place l i (omega arith)

-- ---- the lines of the records

pub stmts_line : (li h k i : ℕ) (s : Stmts) → All (λ (r : Rec). r.line ≡ li) (stmt_recs li h k i s)
unfolding stmt_recs simple_rec cond_rec
stmts_line li h k i ∅ = all[]
stmts_line li h k i (s ▸ o) = all_append (stmts_line li h k i s) (all∷ refl all[])
stmts_line li h k i (branching s w t a u b) =
    let j = i + size s in
    all_append (stmts_line li h k i s) (all∷ refl (all_append (stmts_line li (suc j) 0 (suc j) a) (stmts_line li (suc j) (len a) (suc j + size a) b)))

-- ---- the contract, for every listing that the tables hold

-- zeros become the entries, and zeros past them
abbrev pub EntriesComputed : (lines stmts : List ℕ) (c n : ℕ) → List ℕ → List ℕ → Type 0
EntriesComputed lines stmts c n t u = (ls : Lines) → LinesHeld ls lines c → StmtsHeld ls stmts n → t ≡ replicate (length t) 0 → u ≡ padded (length t) (entry_rows ls)

pub rows-length : (ls : Lines) → length (entry_rows ls) ≡ count ls * 2
unfolding entry_rows entries
rows-length ls = pairs_length (entries_before none ls) ∙ ap (λ (k : ℕ). k * 2) (entries-length none ls)
