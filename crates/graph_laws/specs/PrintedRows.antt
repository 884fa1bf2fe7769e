-- Every row of a printed graph is in form, for a listing within the limits. Assumes nothing.
use Rattle.std.specs.Prelude.{ℕ, suc, ◌+◌, ◌≤◌, ◌≡◌, refl, Bool, true, false, not, ◌&&◌, length, get_or, eqb, leb}
use Rattle.std.proofs.Common.{ap, ◌∙◌, subst, arith, ne_eqb}
use mathlib.Core.List.Memᴰ
use mathlib.Core.List.{List, [], ◌∷◌, ◌++◌, map, append_assoc}
use Rattle.std.proofs.Math.Option.{none, some}
use Rattle.listings.specs.Bytes.{bytes, decimal, pick}
use Rattle.listings.specs.Listing.{Listing, total, count}
use Rattle.listings.specs.Rows.{split, all, is_digit}
use Rattle.listings.specs.ListingText.{NumberOk, Within}
use Rattle.listings.specs.Tests.{both_true}
use Rattle.listing_laws.specs.NumberText.{all-append-true, all_weaken, digit_range, decimal-digits}
use Rattle.listings.specs.Every.{All, all[], all∷, no_newline}
use Rattle.listings.specs.Read.{Answer, listing, refusal}
use Rattle.listings.specs.Cut.{meant}
use Rattle.listing_laws.specs.CutLaws.{meant_within}
use Rattle.listing_laws.specs.RowForms.{split_text}
use Rattle.graph.specs.Lists.{each, list, below}
use Rattle.graph.specs.Nodes.{Node, LineEntry, entries}
use Rattle.graph.specs.Graph.{Wired, wire, successors_in, successors, all_successors, predecessors_in, return_targets, continuation}
use Rattle.graph.specs.Print.{spaced, node_row, node_rows, entry_row, back_row, printed}
use Rattle.graph.specs.Build.{edge_count, Capacity, graph, refused, fitted, built_of_answer, build}
use Rattle.graph.specs.Check.{row_forms, is_graph_row}
use Rattle.graph_laws.specs.Members.{all_map, all_mem}
use Rattle.graph_laws.specs.NodeLaws.{EntryFits}
use Rattle.graph_laws.specs.EdgeBounds.{Ids}
use Rattle.graph_laws.specs.GraphLaws.{node_count, few_lists, entry_ids, continuation-ids, target-ids, lists_ok}
use Rattle.graph_laws.specs.NodeBounds.{Small, NodeShort, all_get, pred_ids, below_all, entry_numbers, below-le, all_both, node_count_lem, small, nodes-short}
use Rattle.graph_laws.specs.FilledForms.{is_sign, Fills, done, itself, number, no_more, one_more, first, missing, one}
use Rattle.graph_laws.specs.FormLaws.{form_exactly}
use Rattle.graph_laws.specs.RowParts.{part-append, bytes_part, numbers_part, list_part, path_part, holder_part, GraphRows, no_rows, rows_append, rows-each, one_row}

-- ---- the rows of a graph

small_ok : {l : List ℕ} → All Small l → All NumberOk l
small_ok hs = all_map (λ a h. omega arith) hs

two_numbers : (m n : ℕ) → NumberOk m → NumberOk n → All NumberOk (m ∷ n ∷ [])
two_numbers m n p q = all∷ p (all∷ q all[])

graph_row : (n : ℕ) → n ≤ 4096 → GraphRows (bytes "(graph" ++ spaced (0 ∷ n ∷ []) ++ bytes "\n")
unfolding bytes is_sign all each row_forms
graph_row n h =
    one_row (Memᴰ.head refl) (part-append (bytes_part (bytes "(graph") refl) (numbers_part (two_numbers 0 n (omega arith) (omega arith)))) (bytes "(graph" ++ spaced (0 ∷ n ∷ []) ++ bytes "\n") (simp append_assoc)

node_row_lem : (i : ℕ) (n : Node) (ss ps : List ℕ) → Small i → NodeShort n → All Small ss → All Small ps → GraphRows (node_row i n ss ps)
unfolding bytes is_sign all each row_forms node_row
node_row_lem i n ss ps h r hs hp =
    one_row (Memᴰ.tail (Memᴰ.head refl))
    (part-append (bytes_part (bytes "(node") refl)
    (part-append (numbers_part (all∷ {a = i} (omega arith) (all∷ r.number_ok (all∷ {a = n.line} (omega (arith, r.line_ok)) all[]))))
    (part-append (bytes_part (bytes " (") refl)
    (part-append (path_part (small_ok r.path_ok))
    (part-append (bytes_part (bytes ") (in") refl)
    (part-append (holder_part n.holder (small_ok r.holder_ok))
    (part-append (bytes_part (bytes ") (succ") refl)
    (part-append (list_part (small_ok hs))
    (part-append (bytes_part (bytes ") (pred") refl)
    (part-append (list_part (small_ok hp)) (bytes_part (bytes "))") refl)))))))))))
    (node_row i n ss ps)
    (simp append_assoc)

node_rows_lem : (ls : List (List ℕ)) (i : ℕ) {ns : List Node} → All NodeShort ns → All (All Small) ls → length ls ≤ 4096 → i + length ns ≤ length ls → GraphRows (node_rows ls i ns)
unfolding node_rows
node_rows_lem ls i all[] hs few h = no_rows
node_rows_lem ls i (all∷ {a = n} {l = ns} p ps) hs few h =
    rows_append (node_row_lem i n (get_or ls i []) (predecessors_in i 0 ls) (omega arith) p (all_get hs all[] i) (pred_ids 4096 i 0 ls (omega arith)))
    (node_rows_lem ls (suc i) ps hs few (omega arith))

entry_row_lem : (d : LineEntry) → d.0 ≤ 65535 → EntryFits 4096 d → GraphRows (entry_row d)
unfolding bytes is_sign all each row_forms entry_row list
entry_row_lem (n, none) hn h = no_rows
entry_row_lem (n, some e) hn h =
    one_row (Memᴰ.tail (Memᴰ.tail (Memᴰ.head refl)))
    (part-append (bytes_part (bytes "(entry") refl) (part-append (numbers_part (two_numbers n e hn (omega arith))) (bytes_part (bytes ")") refl)))
    (entry_row (n, some e))
    (simp append_assoc)

returns_row : (l : List ℕ) → All Small l → GraphRows (bytes "(returns" ++ spaced l ++ bytes ")\n")
unfolding bytes is_sign all each row_forms
returns_row l hs =
    one_row (Memᴰ.tail (Memᴰ.tail (Memᴰ.tail (Memᴰ.head refl))))
    (part-append (bytes_part (bytes "(returns") refl) (part-append (list_part (small_ok hs)) (bytes_part (bytes ")") refl)))
    (bytes "(returns" ++ spaced l ++ bytes ")\n")
    (simp append_assoc)

continuation_row : (c k : ℕ) → Small c → Small k → GraphRows (bytes "(back" ++ spaced (c ∷ k ∷ []) ++ bytes ")\n")
unfolding bytes is_sign all each row_forms
continuation_row c k h g =
    one_row (Memᴰ.tail (Memᴰ.tail (Memᴰ.tail (Memᴰ.tail (Memᴰ.head refl)))))
    (part-append (bytes_part (bytes "(back") refl) (part-append (numbers_part (two_numbers c k (omega arith) (omega arith))) (bytes_part (bytes ")") refl)))
    (bytes "(back" ++ spaced (c ∷ k ∷ []) ++ bytes ")\n")
    (simp append_assoc)

back_row_lem : (W : Wired) (i : ℕ) → Small i → All Small (continuation W i) → GraphRows (back_row W i)
unfolding back_row
back_row_lem W i h hs = rows-each (λ (k : ℕ). bytes "(back" ++ spaced (i ∷ k ∷ []) ++ bytes ")\n") (λ k g. continuation_row i k h g) hs

end_row : GraphRows (bytes ")\n")
unfolding bytes is_sign all row_forms
end_row =
    one_row (Memᴰ.tail (Memᴰ.tail (Memᴰ.tail (Memᴰ.tail (Memᴰ.tail (Memᴰ.head refl)))))) (bytes_part (bytes ")") refl) (bytes ")\n") refl

-- ---- the whole graph

all_mapped : {A : Type 0} {P : List ℕ → Type 0} (f : A → List ℕ) → ((a : A) → P (f a)) → (l : List A) → All P (map f l)
all_mapped f h [] = all[]
all_mapped f h (a ∷ l) = all∷ (h a) (all_mapped f h l)

module _ (L : Listing) (within : Within L) where
  count_small : node_count L ≤ 4096
  count_small = omega (arith, node_count_lem L, within.stmt_count)

  small_ids : {l : List ℕ} → Ids (node_count L) l → All Small l
  small_ids hs = small L within.stmt_count hs

  lists_small : All (All Small) (all_successors L)
  unfolding all_successors successors
  lists_small = all_mapped (successors_in L.handlers (wire L)) (λ i. small_ids ((lists_ok L).ids i)) (below (node_count L))

  node_part : GraphRows (node_rows (all_successors L) 0 (wire L).nodes)
  node_part =
      node_rows_lem (all_successors L) 0 (nodes-short L within.lines within.line_count within.stmt_count) lists_small (omega (arith, few_lists L, count_small)) (omega (arith, few_lists L))

  entry_part : GraphRows (each entry_row (wire L).entries.rows)
  unfolding wire entries
  entry_part =
      rows-each entry_row (λ d p. p)
      (all_both (λ d p q. entry_row_lem d p (below-le 4096 (node_count L) count_small d.1 q)) (entry_numbers none L.lines within.lines) (entry_ids L).rows)

  back_part : GraphRows (each (back_row (wire L)) (below (node_count L)))
  back_part = rows-each (back_row (wire L)) (λ i p. p) (below_all (node_count L) (λ i h. back_row_lem (wire L) i (omega (arith, count_small)) (small_ids (continuation-ids L i))))

  pub printed-rows : GraphRows (printed L)
  unfolding printed
  printed-rows =
      simp append_assoc
      (simp append_assoc at
      (rows_append (graph_row (node_count L) count_small) (rows_append node_part (rows_append entry_part (rows_append (returns_row (return_targets (wire L)) (small_ids (target-ids L))) (rows_append back_part end_row))))))

-- ---- as the check reads them

after-decimal : (n : ℕ) (w : List ℕ) → no_newline w ≡ true → no_newline (decimal n ++ w) ≡ true
unfolding no_newline decimal
after-decimal n w h = all-append-true (λ c. not (eqb c 10)) (decimal n) w (all_weaken is_digit (λ c. not (eqb c 10)) digit (decimal n) (decimal-digits (suc n) n)) h
  where
    digit : (c : ℕ) → is_digit c ≡ true → not (eqb c 10) ≡ true
    digit c e = let r = digit_range c e in rw (ne_eqb c 10 (λ z. omega arith))

-- a row in form has no byte 10
filled_row : {f w : List ℕ} → Fills f w → no_newline f ≡ true → no_newline w ≡ true
unfolding no_newline all
filled_row done h = refl
filled_row (itself {f} c s r) h = let p = both_true (not (eqb c 10)) (no_newline f) h in rw p.0 (filled_row r p.1)
filled_row (number {w = w} n k r) h = after-decimal n w (filled_row r h)
filled_row (no_more r) h = filled_row r h
filled_row (one_more {w = w} n k r) h = after-decimal n w (filled_row r h)
filled_row (Fills.none r) h = filled_row r h
filled_row (first {w = w} n k r) h = after-decimal n w (filled_row r h)
filled_row (missing r) h = filled_row r h
filled_row (one {w = w} n k r) h = after-decimal n w (filled_row r h)

forms-rows : All (λ (f : List ℕ). no_newline f ≡ true) row_forms
unfolding row_forms bytes no_newline all
forms-rows = all∷ refl (all∷ refl (all∷ refl (all∷ refl (all∷ refl (all∷ refl all[])))))

-- the rows between the bytes 10 of a printed graph are in form, every one
pub printed_in_form : (L : Listing) → Within L → (rs : List (List ℕ)) × (split 10 (printed L) ≡ rs ++ ([] ∷ [])) × All (λ (r : List ℕ). is_graph_row r ≡ true) rs
printed_in_form L h =
    let r = printed-rows L h in (
      r.rows,
      ap (split 10) r.text_is ∙ split_text r.rows (all_map (λ w g. filled_row g.filled (all_mem forms-rows g.form g.listed)) r.in_form),
      all_map (λ w g. (form_exactly w).1 g) r.in_form,
    )

-- ---- what was built is within the limits

not_built : {n p : ℕ} {L : Listing} {A : Type 0} → refused n p ≡ graph L → A
not_built e = absurd (let z : ◌≡◌ {A = ℕ} 0 1 = cc in omega arith)

fitted_is : (c : Capacity) (M L : Listing) → fitted c M ≡ graph L → M ≡ L
unfolding fitted
fitted_is c M L e = go (leb (count M.lines) c.lines) (leb (total M.lines) c.nodes) (leb (edge_count M) c.edges && leb (edge_count M) 32768) e
  where
    go : (x y z : Bool) → pick x (pick y (pick z (graph M) (refused 23 (edge_count M))) (refused 22 (total M.lines))) (refused 21 (count M.lines)) ≡ graph L → M ≡ L
    go false y z e = not_built e
    go true false z e = not_built e
    go true true false e = not_built e
    go true true true e = cc

pub built_within : (c : Capacity) (t : List ℕ) (L : Listing) → build c t ≡ graph L → Within L
unfolding built_of_answer
built_within c t L e = go (meant t) refl e
  where
    go : (a : Answer) → meant t ≡ a → built_of_answer c a ≡ graph L → Within L
    go (listing M) h e = subst Within (fitted_is c M L e) (meant_within t M h)
    go (refusal n p) h e = not_built e

-- so it is for every text that has a graph
pub built_in_form : (c : Capacity) (t : List ℕ) (L : Listing) → build c t ≡ graph L
    → (rs : List (List ℕ)) × (split 10 (printed L) ≡ rs ++ ([] ∷ [])) × All (λ (r : List ℕ). is_graph_row r ≡ true) rs
built_in_form c t L e = printed_in_form L (built_within c t L e)
