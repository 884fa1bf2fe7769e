-- The table of frames by its entries, three to a node. Assumes nothing.
use Prim.Native.Nat.{ℕ, zero, suc, ◌+◌, ◌-◌, ◌*◌, ◌/◌, ◌%◌, ◌<◌, ◌≤◌}
use Rattle.std.specs.Prelude.{◌≡◌, List, [], ◌∷◌, ◌++◌, replicate}
use Rattle.std.proofs.Math.Path.{refl, sym, ap}
use Rattle.std.proofs.Common.{◌∙◌, append_assoc, append-nil}
use Rattle.std.proofs.Math.Logic.{inl, inr}
use native.Mathlib.Omega.{arith}
use Rattle.std.proofs.Math.Decide.{ℕ_discrete}
use Rattle.std.proofs.Math.ListN.{length, length-append, get_or, get_elem?, get_or-append}
use Rattle.std.proofs.Math.Seq.{get_or-append-add, ext_get_or}
use Rattle.listings.specs.Records.{padded}
use Rattle.reader.specs.Tables.{padded-length}
use Rattle.listings.specs.WordTable.{zeros}
use Rattle.graph.specs.Lists.{each, below}
use Rattle.graph_laws.specs.PerNode.{Fact}
use Rattle.passes.specs.Frames.{next_where, closes_frame, met_entry, do_met_of, else_entry, frame_row, frame_rows, frame_table}
use Rattle.passes.specs.Compare.{lt-or}

each_snoc : (f : ℕ → List ℕ) (l : List ℕ) (a : ℕ) → each f (l ++ (a ∷ [])) ≡ each f l ++ f a
unfolding each
each_snoc f [] a = append-nil (f a)
each_snoc f (b ∷ l) a = rw (each_snoc f l a, append_assoc)

-- rows of three entries, for the nodes below n
module _ (f : ℕ → List ℕ) (three : (r : ℕ) → length (f r) ≡ 3) where
  rows-length : (n : ℕ) → length (each f (below n)) ≡ n * 3
  unfolding each below
  rows-length zero = refl
  rows-length (suc n) = rw each_snoc (omega (arith, length-append (each f (below n)) (f n), rows-length n, three n))

  rows_at : (n r c : ℕ) → r < n → c < 3 → get_or (each f (below n)) (r * 3 + c) 0 ≡ get_or (f r) c 0
  unfolding below
  rows_at zero r c h g = absurd (omega arith)
  rows_at (suc n) r c h g =
      rw each_snoc (
      elim (ℕ_discrete r n) [
        | yes e ↦
            let z : r * 3 + c ≡ length (each f (below n)) + c = omega (arith, rows-length n) in
            ap (λ (x : ℕ). get_or (each f (below n) ++ f n) x 0) z ∙ get_or-append-add (each f (below n)) (f n) c 0 ∙ ap (λ (x : ℕ). get_or (f x) c 0) (sym e)
        | no e ↦ get_or-append (each f (below n)) (f n) 0 (r * 3 + c) (omega (arith, rows-length n)) ∙ rows_at n r c (omega arith) g
      ])

padded_at : (n : ℕ) (l : List ℕ) (q : ℕ) → q < length l → get_or (padded n l) q 0 ≡ get_or l q 0
unfolding padded
padded_at n l q h = get_or-append l (replicate (n - length l) 0) 0 q h

padded_past : (n : ℕ) (l : List ℕ) (q : ℕ) → length l ≤ q → get_or (padded n l) q 0 ≡ 0
unfolding padded
padded_past n l q h =
    let z : q ≡ length l + (q - length l) = omega arith in
    ap (λ (x : ℕ). get_or (l ++ replicate (n - length l) 0) x 0) z ∙ get_or-append-add l (replicate (n - length l) 0) (q - length l) 0 ∙ zeros (n - length l) (q - length l)

row_length : (F : List Fact) (r : ℕ) → length (frame_row F r) ≡ 3
unfolding frame_row
row_length F r = refl

pub frame_rows-length : (F : List Fact) → length (frame_rows F) ≡ length F * 3
unfolding frame_rows
frame_rows-length F = rows-length (frame_row F) (row_length F) (length F)

module _ (F : List Fact) (n r : ℕ) (h : r < length F) where
  entry : (c : ℕ) → c < 3 → get_or (frame_table n F) (r * 3 + c) 0 ≡ get_or (frame_row F r) c 0
  unfolding frame_table frame_rows
  entry c g = padded_at n (frame_rows F) (r * 3 + c) (omega (arith, frame_rows-length F)) ∙ rows_at (frame_row F) (row_length F) (length F) r c h g

  pub met_entry_lem : get_or (frame_table n F) (r * 3) 0 ≡ met_entry (get_elem? F r)
  unfolding frame_row
  met_entry_lem = let z : r * 3 ≡ r * 3 + 0 = omega arith in ap (λ (x : ℕ). get_or (frame_table n F) x 0) z ∙ entry 0 (omega arith)

  pub closer_entry : get_or (frame_table n F) (r * 3 + 1) 0 ≡ next_where (closes_frame r) 0 F
  unfolding frame_row
  closer_entry = entry 1 (omega arith)

  pub else_entry_lem : get_or (frame_table n F) (r * 3 + 2) 0 ≡ else_entry F 0 r (do_met_of (get_elem? F r))
  unfolding frame_row
  else_entry_lem = entry 2 (omega arith)

pub past_entry : (F : List Fact) (n q : ℕ) → length F * 3 ≤ q → get_or (frame_table n F) q 0 ≡ 0
unfolding frame_table
past_entry F n q h = padded_past n (frame_rows F) q (omega (arith, frame_rows-length F))

-- a table that has these entries, and zeros behind them
module _ (F : List Fact) (t : List ℕ) (m : (r : ℕ) → r < length F → get_or t (r * 3) 0 ≡ met_entry (get_elem? F r))
    (c : (r : ℕ) → r < length F → get_or t (r * 3 + 1) 0 ≡ next_where (closes_frame r) 0 F)
    (e : (r : ℕ) → r < length F → get_or t (r * 3 + 2) 0 ≡ else_entry F 0 r (do_met_of (get_elem? F r))) where
  same_entry : (n r k : ℕ) → r < length F → k < 3 → get_or t (r * 3 + k) 0 ≡ get_or (frame_table n F) (r * 3 + k) 0
  same_entry n r zero h g = let z : r * 3 + 0 ≡ r * 3 = omega arith in rw z (m r h ∙ sym (met_entry_lem F n r h))
  same_entry n r (suc zero) h g = c r h ∙ sym (closer_entry F n r h)
  same_entry n r (suc (suc zero)) h g = e r h ∙ sym (else_entry_lem F n r h)
  same_entry n r (suc (suc (suc k))) h g = absurd (omega arith)

  pub table_is : length F * 3 ≤ length t → ((q : ℕ) → length F * 3 ≤ q → get_or t q 0 ≡ 0) → t ≡ frame_table (length t) F
  unfolding frame_table
  table_is fits z =
      ext_get_or 0 t (frame_table (length t) F) (sym (padded-length (length t) (frame_rows F) (omega (arith, frame_rows-length F)))) (λ q _.
      elim (lt-or q (length F * 3)) [
        | inl h ↦
            let x : q ≡ q / 3 * 3 + q % 3 = omega arith in
            ap (λ (y : ℕ). get_or t y 0) x ∙ same_entry (length t) (q / 3) (q % 3) (omega arith) (omega arith) ∙ ap (λ (y : ℕ). get_or (frame_table (length t) F) y 0) (sym x)
        | inr h ↦ z q h ∙ sym (past_entry F (length t) q h)
      ])
