-- Laws of the question for a line's entry, as code answers it. Assumes nothing.
use Rattle.std.specs.Prelude.{ℕ, zero, suc, ◌+◌, ◌-◌, ◌*◌, ◌/◌, ◌<◌, ◌≤◌, ◌≡◌, List, [], ◌∷◌, Bool, true, false, cond, eqb, length, get_or, take, drop}
use Rattle.std.specs.Prelude as std
use Rattle.std.specs.Option.{SomeIff}
use Rattle.std.specs.List.{find}
use Rattle.std.specs.Simd.{first_chunks}
use Rattle.std.proofs.Math.Path.{refl, sym, ap}
use Rattle.std.proofs.Common.{◌∙◌, arith, add-one}
use Rattle.std.proofs.lemmas.List.{drop_all}
use Rattle.std.proofs.Math.Seq.{drop-cons}
use Rattle.std.proofs.Math.Option.{Option, none, some}
use borrow.Author.Tests.{lt-ltb, le-ltb, le-leb, lt-leb, eq-eqb, ne_eqb}
use Rattle.listings.specs.Bytes.{pick}
use Rattle.graph.specs.Nodes.{entry_in}
use Rattle.tables.specs.Columns.{entry_node}
use Rattle.tables.specs.EntryRows.{entries_in}
use Rattle.graph.specs.Questions.{answer, refused}
use Rattle.adjacency.specs.EntryAt.{node_in, entry_at, node_of}

-- ---- the search, from the front

-- the number of a row, and the entry of a row or none
abbrev pub row_number : List ℕ → ℕ
row_number row = get_or row 0 0

abbrev pub row_entry : std.Option (List ℕ) → Option ℕ
row_entry std.None = none
row_entry (std.Some row) = entry_node (get_or row 1 0)

-- the first of the first n rows of two entries that has the number
first_row : (n k : ℕ) (entries : List ℕ) (number : ℕ) → n ≤ k → n * 2 ≤ length entries
    → row_entry (find (λ row. eqb (row_number row) number) (take n (first_chunks 2 k entries))) ≡ entry_in (entries_in n entries) number
unfolding entries_in entry_in
first_row zero k entries number h b = refl
first_row (suc n) zero entries number h b = absurd (omega arith)
first_row (suc n) (suc k) [] number h b = absurd (omega arith)
first_row (suc n) (suc k) (m ∷ []) number h b = absurd (omega arith)
first_row (suc n) (suc k) (m ∷ d ∷ t) number h b = go (eqb m number) (first_row n k t number (omega arith) (omega arith))
  where
    go : (x : Bool) → row_entry (find (λ row. eqb (row_number row) number) (take n (first_chunks 2 k t))) ≡ entry_in (entries_in n t) number
        → row_entry (cond x (std.Some (m ∷ d ∷ [])) (find (λ row. eqb (row_number row) number) (take n (first_chunks 2 k t)))) ≡ pick x (entry_node d) (entry_in (entries_in n t) number)
    go true e = refl
    go false e = e

-- the code goes from row to row: the first among those from row i on is the first of all
abbrev pub FirstFrom : (n number : ℕ) (entries : List ℕ) (xs : List (List ℕ)) (i : ℕ) → Type 0
FirstFrom n number entries xs i = row_entry (find (λ row. eqb (row_number row) number) (drop i xs)) ≡ entry_in (entries_in n entries) number

pub from_first : (n number : ℕ) (entries : List ℕ) (xs : List (List ℕ)) → n * 2 ≤ length entries → xs ≡ take n (first_chunks 2 (length entries / 2) entries) → FirstFrom n number entries xs 0
from_first n number entries xs b z = ap (λ (l : List (List ℕ)). row_entry (find (λ row. eqb (row_number row) number) l)) z ∙ first_row n (length entries / 2) entries number (omega arith) b

module _ (n number : ℕ) (entries : List ℕ) (xs : List (List ℕ)) (i : ℕ) (f : FirstFrom n number entries xs i) where
  pub row_found : i < length xs → row_number (get_or xs i []) ≡ number → entry_node (get_or (get_or xs i []) 1 0) ≡ entry_in (entries_in n entries) number
  row_found h e = rw (drop-cons xs i [], eq-eqb (row_number (get_or xs i [])) number e) at f

  pub row_passed : i < length xs → (row_number (get_or xs i []) ≡ number → ⊥) → FirstFrom n number entries xs (i + 1)
  row_passed h e = rw add-one (rw (drop-cons xs i [], ne_eqb (row_number (get_or xs i [])) number e) at f)

  pub none_found : length xs ≤ i → none ≡ entry_in (entries_in n entries) number
  none_found h = rw (drop_all i xs h) at f

-- a row's entry is one more than its node, or 0
pub entry_less : (e : ℕ) (r : std.Option ℕ) → SomeIff r (1 ≤ e) (e - 1) → node_of r ≡ entry_node e
entry_less zero std.None h = refl
entry_less zero (std.Some i) h = absurd (omega (arith, h.0))
entry_less (suc e) std.None h = absurd (h (omega arith))
entry_less (suc e) (std.Some i) h = let z : i ≡ e = omega (arith, h.1) in ap some z

-- ---- as the code answers

module _ (counts entries : List ℕ) (number rows : ℕ) (c : rows ≡ get_or counts 5 0) where
  pub rows-outside : length entries < rows * 2 → refused 25 0 ≡ entry_at counts entries number
  unfolding entry_at
  rows-outside h = rw (lt-leb (get_or counts 5 0 * 2) (length entries) (omega arith)) refl

  module _ (b : rows * 2 ≤ length entries) (r : std.Option ℕ) (f : node_of r ≡ entry_in (entries_in rows entries) number) where
    entry_by : (k : std.Option ℕ) → r ≡ k → entry_at counts entries number ≡ node_in (get_or counts 1 0) (node_of k)
    unfolding entry_at
    entry_by k z = rw (← z, le-leb (get_or counts 5 0 * 2) (length entries) (omega arith), ← c, ← f) refl

    pub entered_nowhere : r ≡ std.None → answer none ≡ entry_at counts entries number
    unfolding node_in
    entered_nowhere z = sym (entry_by std.None z)

    module _ (i : ℕ) (z : r ≡ std.Some i) (nodes : ℕ) (n : nodes ≡ get_or counts 1 0) where
      pub entry_outside : nodes ≤ i → refused 25 0 ≡ entry_at counts entries number
      unfolding node_in
      entry_outside h = rw (entry_by (std.Some i) z, ← n, le-ltb i nodes h) refl

      pub entered_node : i < nodes → answer (some i) ≡ entry_at counts entries number
      unfolding node_in
      entered_node h = rw (entry_by (std.Some i) z, ← n, lt-ltb i nodes h) refl
