-- What is written for an input, a text or a saved program, has at most 1,048,576 bytes: a row has so many, and there are so many rows. Assumes nothing.
use Rattle.std.specs.Prelude.{ℕ, zero, suc, ◌+◌, ◌*◌, ◌≤◌, ◌<◌, ◌≡◌, refl, Bool, true, false, ◌&&◌, List, [], ◌∷◌, ◌++◌, leb, length, get_or}
use Rattle.std.proofs.Common.{sym, ap, ◌∙◌, arith, suc-mul, leb→le}
use Rattle.std.proofs.Math.Option.{Option, none, some}
use Rattle.std.proofs.Math.ListN.{length-append}
use Rattle.listings.specs.Bytes.{bytes, decimal, pick}
use Rattle.listings.specs.Listing.{Listing, total, count}
use Rattle.listings.specs.ListingText.{LinesOk, Within}
use Rattle.program_files.specs.Program.{read_program}
use Rattle.program_files.specs.Inputs.{meaning}
use Rattle.program_laws.specs.Accepted.{ProgramNumber, too_long, of_line, ended, foreign_byte, misses, program_within, program-numbers}
use Rattle.program_laws.specs.Extent.{program_places}
use Rattle.listings.specs.Every.{All, all[], all∷}
use Rattle.listings.specs.Read.{Answer, listing, refusal}
use Rattle.listings.specs.Cut.{meant}
use Rattle.listing_laws.specs.CutLaws.{meant-refused, meant_within}
use Rattle.graph.specs.Lists.{each, list, below}
use Rattle.graph_laws.specs.Members.{all_map}
use Rattle.graph.specs.Nodes.{Node, nodes, LineEntry, entries_before, entries}
use Rattle.graph_laws.specs.NodeLaws.{EntryFits, length-nodes}
use Rattle.graph_laws.specs.Distinct.{dist[], few, distinct_all}
use Rattle.graph.specs.Graph.{Role, call, returns, forgets, steps, no_node, Wired, wire, role, fall_from, continuation_by, continuation, return_targets, successors, all_successors, predecessors_in}
use Rattle.graph_laws.specs.GraphLaws.{node_count, entry_ids, continuation-ids, target-ids, lists_ok}
use Rattle.graph_laws.specs.NodeBounds.{Small, NodeShort, all_get, pred_ids, below_all, entry_numbers, below-le, all_both, node_count_lem, small, nodes-short}
use Rattle.formatting.specs.Digits.{tens, decimal-length}
use Rattle.graph.specs.Print.{spaced, joined, node_row, node_rows, entry_row, back_row, printed, printed_refusal}
use Rattle.graph.specs.Build.{lengths, edge_count, Capacity, graph, refused, fitted, built_of_answer, build, written, limits, flowlist}
use Rattle.graph_laws.specs.Numbers.{read_refusal}
use Rattle.passes.specs.LineEntries.{entries-length}
use Rattle.passes.specs.EdgeTable.{joined_lists, start_of, start_next, start_end, lists_all}
use Rattle.passes.specs.Predecessors.{preds_of, preds_at, length_preds, preds_total, all_lists, successor_lists}
use Rattle.passes.specs.EdgeCount.{edges-joined}

-- ---- numbers

-- node ids, line indices and path numbers have at most 4 digits
id_length : (n : ℕ) → n ≤ 4096 → length (decimal n) ≤ 4
unfolding tens
id_length n h = decimal-length 3 n (omega arith)

number_length : (n : ℕ) → n ≤ 65535 → length (decimal n) ≤ 5
unfolding tens
number_length n h = decimal-length 4 n (omega arith)

spaced-length : {l : List ℕ} → All Small l → length (spaced l) ≤ 5 * length l
unfolding spaced each
spaced-length all[] = omega arith
spaced-length (all∷ {a = n} {l = l} h hs) = omega (arith, length-append (decimal n) (spaced l), id_length n (omega arith), spaced-length hs)

joined_length : {l : List ℕ} → All Small l → length (joined l) ≤ 5 * length l
unfolding joined
joined_length all[] = omega arith
joined_length (all∷ {a = n} {l = l} h hs) = omega (arith, length-append (decimal n) (spaced l), id_length n (omega arith), spaced-length hs)

-- ---- a node's row

holder_length : (o : Option ℕ) → All Small (list o) → length (spaced (list o)) ≤ 5
unfolding list
holder_length none h = omega (arith, spaced-length h)
holder_length (some n) h = omega (arith, spaced-length h)

pub node_row_length : (i : ℕ) (n : Node) (ss ps : List ℕ) → Small i → NodeShort n → All Small ss → All Small ps → length (node_row i n ss ps) ≤ 135 + 5 * length ss + 5 * length ps
unfolding node_row spaced each bytes
node_row_length i n ss ps h r hs hp =
    simp length-append
    (omega (arith, id_length i (omega arith), number_length n.number r.number_ok, id_length n.line (omega (arith, r.line_ok)), joined_length r.path_ok, r.path_short, holder_length n.holder r.holder_ok, spaced-length hs, spaced-length hp))

-- ---- the node rows: each edge is printed twice

-- from node i on: where its lists begin stands on the left, where those behind the last begin on the right
pub node_rows-length : (ls : List (List ℕ)) (i : ℕ) {ns : List Node} → All NodeShort ns → All (All Small) ls → length ls ≤ 4096 → i + length ns ≤ length ls
    → length (node_rows ls i ns) + 5 * start_of ls i + 5 * start_of (preds_of ls) i ≤ 135 * length ns + 5 * start_of ls (i + length ns) + 5 * start_of (preds_of ls) (i + length ns)
unfolding node_rows
node_rows-length ls i all[] hs few h = let z : i + 0 ≡ i = omega arith in rw z (omega arith)
node_rows-length ls i (all∷ {a = n} {l = ns} p ps) hs few h =
    let ss = get_or ls i [] in
    let rs = predecessors_in i 0 ls in
    let z : i + suc (length ns) ≡ suc i + length ns = omega arith in
    let r = node_row_length i n ss rs (omega arith) p (all_get hs all[] i) (pred_ids 4096 i 0 ls (omega arith)) in
    let e : length (get_or (preds_of ls) i []) ≡ length rs = ap length (preds_at ls i (omega arith)) in
    rw z
    (omega (arith, r, e, length-append (node_row i n ss rs) (node_rows ls (suc i) ns), start_next ls i, start_next (preds_of ls) i, node_rows-length ls (suc i) ps hs few (omega arith)))

-- ---- the rows of entries, return targets and continuations

each-length : {A : Type 0} (m : ℕ) (f : A → List ℕ) {l : List A} → All (λ (a : A). length (f a) ≤ m) l → length (each f l) ≤ length l * m
unfolding each
each-length m f all[] = omega arith
each-length m f (all∷ {a = a} {l = l} h hs) = omega (arith, length-append (f a) (each f l), each-length m f hs, suc-mul (length l) m)

pub entry_row_length : (d : LineEntry) → d.0 ≤ 65535 → EntryFits 4096 d → length (entry_row d) ≤ 19
unfolding entry_row each list spaced bytes
entry_row_length (n, none) hn h = omega arith
entry_row_length (n, some e) hn h = simp length-append (omega (arith, number_length n hn, id_length e (omega arith)))

continuation_few : (W : Wired) (i : ℕ) → length (continuation W i) ≤ 1
unfolding continuation continuation_by list
continuation_few W i = go (role W i) (fall_from W i)
  where
    go : (q : Role) (e : Option ℕ) → length (continuation_by q e) ≤ 1
    go (call m ts) none = omega arith
    go (call m ts) (some a) = omega arith
    go returns e = omega arith
    go forgets e = omega arith
    go steps e = omega arith
    go no_node e = omega arith

pub back_row_length : (W : Wired) (i : ℕ) → Small i → All Small (continuation W i) → length (back_row W i) ≤ 17
unfolding back_row each spaced bytes
back_row_length W i h hs = go (continuation W i) (continuation_few W i) hs
  where
    go : (l : List ℕ) → length l ≤ 1 → All Small l → length (each (λ (k : ℕ). bytes "(back" ++ spaced (i ∷ k ∷ []) ++ bytes ")\n") l) ≤ 17
    go [] f hs = omega arith
    go (k ∷ []) f (all∷ g gs) = simp length-append (omega (arith, id_length i (omega arith), id_length k (omega arith)))
    go (k ∷ m ∷ l) f hs = absurd (omega arith)

below_length : (n : ℕ) → length (below n) ≡ n
unfolding below
below_length zero = refl
below_length (suc n) = omega (arith, length-append (below n) (n ∷ []), below_length n)

-- ---- the whole graph

module _ (L : Listing) (ok : LinesOk L.lines) (hc : count L.lines ≤ 1024) (ht : total L.lines ≤ 4096) where
  pub nodes-length : edge_count L ≤ 32768 → length (node_rows (all_successors L) 0 (wire L).nodes) ≤ 880640
  nodes-length h =
      let ls = all_successors L in
      let s = successor_lists L in
      let r = node_rows-length ls 0 (nodes-short L ok hc ht) (all_map (λ l hs. small L ht hs) s.ids) (omega (arith, s.size, node_count_lem L)) (omega (arith, s.size)) in
      let z : 0 + length (wire L).nodes ≡ length ls = omega (arith, s.size) in
      let e : edge_count L ≡ length (joined_lists ls) = edges-joined L ∙ ap (λ (y : List (List ℕ)). length (joined_lists y)) (sym (all_lists L)) in
      let f : start_of ls (0 + length (wire L).nodes) ≡ edge_count L = ap (start_of ls) z ∙ start_end ls ∙ sym e in
      let g : start_of (preds_of ls) (0 + length (wire L).nodes) ≡ edge_count L = ap (start_of (preds_of ls)) (z ∙ sym (length_preds ls)) ∙ start_end (preds_of ls) ∙ preds_total s ∙ sym e in
      omega (arith, r, f, g, node_count_lem L)

  pub entry_rows-length : length (each entry_row (wire L).entries.rows) ≤ 19456
  unfolding wire entries
  entry_rows-length =
      let es = entries_before none L.lines in
      let hs = all_both (λ d p q. entry_row_length d p (below-le 4096 (node_count L) (omega (arith, node_count_lem L)) d.1 q)) (entry_numbers none L.lines ok) (entry_ids L).rows in
      omega (arith, each-length 19 entry_row hs, entries-length none L.lines)

  pub returns_length : length (spaced (return_targets (wire L))) ≤ 20480
  unfolding return_targets
  returns_length =
      let d = distinct_all (each (continuation (wire L)) (below (node_count L))) dist[] in
      omega (arith, spaced-length (small L ht (target-ids L)), few (node_count L) d (target-ids L), node_count_lem L)

  pub back_rows-length : length (each (back_row (wire L)) (below (node_count L))) ≤ 69632
  back_rows-length =
      let hs = below_all (node_count L) (λ i h. back_row_length (wire L) i (omega (arith, node_count_lem L)) (small L ht (continuation-ids L i))) in
      omega (arith, each-length 17 (back_row (wire L)) hs, below_length (node_count L), node_count_lem L)

  head_length : length (spaced (0 ∷ node_count L ∷ [])) ≤ 10
  unfolding spaced each
  head_length = simp length-append (omega (arith, id_length 0 (omega arith), id_length (node_count L) (omega (arith, node_count_lem L))))

  -- by these bounds 990,237 bytes at most
  pub printed-length : edge_count L ≤ 32768 → length (printed L) ≤ 1048576
  unfolding printed bytes
  printed-length h =
      simp length-append
      (omega (arith, head_length, nodes-length h, entry_rows-length, returns_length, back_rows-length))

-- ---- refusals

-- of numbers that a word of 64 bits holds, and greater ones
pub refusal_length : (n p : ℕ) → n < 100000000000000000000 → p < 100000000000000000000 → length (printed_refusal n p) ≤ 52
unfolding printed_refusal spaced each bytes tens
refusal_length n p hn hp = simp length-append (omega (arith, decimal-length 19 n hn, decimal-length 19 p hp))

-- the place of 23: no list is longer than there are nodes
lengths_most : {ls : List (List ℕ)} → All (λ (l : List ℕ). length l ≤ 4096) ls → lengths ls ≤ 4096 * length ls
unfolding lengths
lengths_most all[] = omega arith
lengths_most (all∷ h hs) = omega (arith, lengths_most hs)

edges_most : (L : Listing) → total L.lines ≤ 4096 → edge_count L ≤ 16777216
unfolding edge_count wire nodes
edges_most L h =
    let k : node_count L ≤ 4096 = omega (arith, length-nodes none L.lines) in
    let s = lists_ok L in
    let hs : All (λ (l : List ℕ). length l ≤ 4096) (all_successors L) = rw (all_lists L) (lists_all (successors L) (λ i. omega (arith, s.short i)) (node_count L)) in
    omega (arith, lengths_most hs, (successor_lists L).size)

-- ---- whatever is lent, whatever the text

fitted-length : (c : Capacity) (L : Listing) → LinesOk L.lines → count L.lines ≤ 1024 → total L.lines ≤ 4096 → length (written (fitted c L)) ≤ 1048576
unfolding fitted written
fitted-length c L ok hc ht =
    by_lines (leb (count L.lines) c.lines) (leb (total L.lines) c.nodes) (leb (edge_count L) c.edges) (leb (edge_count L) 32768) refl
  where
    refusal_short : (n p : ℕ) → n ≤ 23 → p ≤ 16777216 → length (printed_refusal n p) ≤ 1048576
    refusal_short n p hn hp = omega (arith, refusal_length n p (omega arith) (omega arith))

    by_lines : (x y z v : Bool) → leb (edge_count L) 32768 ≡ v
        → length (written (pick x (pick y (pick (z && v) (graph L) (refused 23 (edge_count L))) (refused 22 (total L.lines))) (refused 21 (count L.lines)))) ≤ 1048576
    by_lines false y z v e = refusal_short 21 (count L.lines) (omega arith) (omega arith)
    by_lines true false z v e = refusal_short 22 (total L.lines) (omega arith) (omega arith)
    by_lines true true false v e = refusal_short 23 (edge_count L) (omega arith) (edges_most L ht)
    by_lines true true true false e = refusal_short 23 (edge_count L) (omega arith) (edges_most L ht)
    by_lines true true true true e = printed-length L ok hc ht (leb→le (edge_count L) 32768 (rw e tt))

-- whatever was read, if it lies within the limits and its refusals are small
answer_length : (c : Capacity) (q : Answer) → ((L : Listing) → q ≡ listing L → Within L) → ((n p : ℕ) → q ≡ refusal n p → (n ≤ 35) × (p ≤ 65537)) → length (written (built_of_answer c q)) ≤ 1048576
unfolding built_of_answer written
answer_length c (listing L) w h = let f = w L refl in fitted-length c L f.lines f.line_count f.stmt_count
answer_length c (refusal n p) w h = let r = h n p refl in omega (arith, refusal_length n p (omega (arith, r.0)) (omega (arith, r.1)))

most_number : (n : ℕ) → ProgramNumber n → n ≤ 35
most_number n too_long = omega arith
most_number n (of_line h) = omega arith
most_number n ended = omega arith
most_number n foreign_byte = omega arith
most_number n misses = omega arith

pub input_length : (c : Capacity) (program : Bool) (input : List ℕ) → length (written (built_of_answer c (meaning program input))) ≤ 1048576
input_length c true f = answer_length c (read_program f) (program_within f) (λ n p e. (most_number n (program-numbers f n p e), program_places f n p e))
input_length c false t = answer_length c (meant t) (meant_within t) (λ n p e. let h = read_refusal t n p (meant-refused t n p e) in (omega (arith, h.1), h.2))

pub written-length : (c : Capacity) (t : List ℕ) → length (written (build c t)) ≤ 1048576
written-length c t = input_length c false t

pub flowlist-length : (t : List ℕ) → length (flowlist t) ≤ 1048576
unfolding flowlist
flowlist-length t = written-length limits t
