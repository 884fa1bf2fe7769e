-- How large the numbers in a printed graph are, for a listing within the limits. Assumes nothing.
use Rattle.std.specs.Prelude.{ℕ, zero, suc, ◌+◌, ◌≤◌, ◌<◌, ◌≡◌, Bool, true, false, List, [], ◌∷◌, ◌++◌, length, get_or}
use Rattle.std.proofs.Math.Option.{Option, none, some}
use Rattle.std.proofs.Common.{arith, length-append}
use Rattle.listings.specs.Bytes.{pick}
use Rattle.listings.specs.Listing.{Stmts, ∅, ◌▸◌, branching, Lines, nolines, line, Listing, size, len, total, count}
use Rattle.listings.specs.ListingText.{StmtsOk, LinesOk}
use Rattle.listings.specs.Every.{All, all[], all∷, all_append}
use Rattle.graph.specs.Lists.{has, below, list}
use Rattle.graph.specs.Nodes.{Node, allocate, line_entry, nodes_before, nodes, entries_before}
use Rattle.graph.specs.Graph.{wire, predecessors_in}
use Rattle.graph_laws.specs.Members.{all_map}
use Rattle.graph_laws.specs.NodeLaws.{Below, length-nodes}
use Rattle.graph_laws.specs.EdgeBounds.{Ids}
use Rattle.graph_laws.specs.GraphLaws.{node_count}

-- ---- nodes

-- node ids, line indices and path numbers
abbrev pub Small : ℕ → Type 0
Small n = n < 4096

-- "depth 16 is accepted": a path has at most 17 numbers
pub record NodeShort (n : Node) : Type 0 where
  pub number_ok : n.number ≤ 65535
  pub line_ok : n.line < 1024
  pub path_ok : All Small n.path
  pub path_short : length n.path ≤ 17
  pub holder_ok : All Small (list n.holder)

len-size : (s : Stmts) → len s ≤ size s
unfolding len size
len-size ∅ = omega arith
len-size (s ▸ o) = omega (arith, len-size s)
len-size (branching s w t a u b) = omega (arith, len-size s)

-- statements at depth d, of a line with number n and index li; a path number is below the count of statements
stmts_nodes : (d li n : ℕ) (p : List ℕ) (v : Option ℕ) (i k : ℕ) (e : Option ℕ) (s : Stmts) → StmtsOk d s → n ≤ 65535 → li < 1024 → All Small p → length p ≤ d → k + size s ≤ 4096 → i + size s ≤ 4096 → All Small (list v)
    → All NodeShort (allocate li n p v i k e s)
unfolding allocate StmtsOk size list
stmts_nodes d li n p v i k e ∅ ok hn hl hp h f g held = all[]
stmts_nodes d li n p v i k e (s ▸ o) ok hn hl hp h f g held =
    let q : All Small (p ++ ((k + len s) ∷ [])) = all_append hp (all∷ (omega (arith, len-size s)) all[]) in
    all_append (stmts_nodes d li n p v i k (some (i + size s)) s ok.0 hn hl hp h (omega arith) (omega arith) held)
    (all∷ (record { number_ok = hn; line_ok = hl; path_ok = q; path_short = omega (arith, length-append p ((k + len s) ∷ []), ok.1); holder_ok = held }) all[])
stmts_nodes d li n p v i k e (branching s w t a u b) ok hn hl hp h f g held =
    let j = i + size s in
    let q : All Small (p ++ ((k + len s) ∷ [])) = all_append hp (all∷ (omega (arith, len-size s)) all[]) in
    let m : length (p ++ ((k + len s) ∷ [])) ≤ suc d = omega (arith, length-append p ((k + len s) ∷ [])) in
    all_append (stmts_nodes d li n p v i k (some j) s ok.0 hn hl hp h (omega arith) (omega arith) held)
    (all∷ (record { number_ok = hn; line_ok = hl; path_ok = q; path_short = omega (arith, m, ok.1); holder_ok = held })
    (all_append (stmts_nodes (suc d) li n _ (some j) (suc j) 0 e a ok.3 hn hl q m (omega arith) (omega arith) (all∷ {a = j} (omega arith) all[]))
    (stmts_nodes (suc d) li n _ (some j) (suc j + size a) (len a) e b ok.4 hn hl q m (omega (arith, len-size a)) (omega arith) (all∷ {a = j} (omega arith) all[]))))

lines_nodes : (e : Option ℕ) (ls : Lines) → LinesOk ls → count ls ≤ 1024 → total ls ≤ 4096 → All NodeShort (nodes_before e ls)
unfolding nodes_before LinesOk total count list
lines_nodes e nolines ok hc ht = all[]
lines_nodes e (line ls n s) ok hc ht =
    all_append (lines_nodes (line_entry (total ls) s e) ls ok.0 (omega arith) (omega arith))
    (stmts_nodes 0 (count ls) n [] none (total ls) 0 e s ok.3 ok.1 (omega arith) all[] (omega arith) (omega arith) (omega arith) all[])

-- ---- lists

pub all_get : {P : List ℕ → Type 0} {ls : List (List ℕ)} → All P ls → P [] → (i : ℕ) → P (get_or ls i [])
all_get all[] h i = h
all_get (all∷ p ps) h zero = p
all_get (all∷ p ps) h (suc i) = all_get ps h i

pub pred_ids : (m i j : ℕ) (ls : List (List ℕ)) → j + length ls ≤ m → Ids m (predecessors_in i j ls)
unfolding predecessors_in
pred_ids m i j [] h = all[]
pred_ids m i j (l ∷ ls) h = go (has i l) (pred_ids m i (suc j) ls (omega arith))
  where
    go : (x : Bool) → Ids m (predecessors_in i (suc j) ls) → Ids m (pick x (j ∷ predecessors_in i (suc j) ls) (predecessors_in i (suc j) ls))
    go true g = all∷ {a = j} (omega arith) g
    go false g = g

pub below_all : {P : ℕ → Type 0} (n : ℕ) → ((i : ℕ) → i < n → P i) → All P (below n)
unfolding below
below_all zero f = all[]
below_all (suc n) f = all_append (below_all n (λ i h. f i (omega arith))) (all∷ (f n (omega arith)) all[])

-- ---- entries

-- entries with line numbers in form, that are nodes
abbrev pub EntryOk : ℕ × Option ℕ → Type 0
EntryOk d = d.0 ≤ 65535

pub entry_numbers : (e : Option ℕ) (ls : Lines) → LinesOk ls → All EntryOk (entries_before e ls)
unfolding entries_before LinesOk
entry_numbers e nolines ok = all[]
entry_numbers e (line ls n s) ok = all_append (entry_numbers (line_entry (total ls) s e) ls ok.0) (all∷ ok.1 all[])

pub below-le : (m n : ℕ) → n ≤ m → (o : Option ℕ) → Below n o → Below m o
below-le m n h none b = tt
below-le m n h (some a) b = omega arith

pub all_both : {A : Type 0} {P Q R : A → Type 0} → ((a : A) → P a → Q a → R a) → {l : List A} → All P l → All Q l → All R l
all_both f all[] all[] = all[]
all_both f (all∷ p ps) (all∷ q qs) = all∷ (f _ p q) (all_both f ps qs)

-- ---- the whole graph

pub node_count_lem : (L : Listing) → node_count L ≡ total L.lines
unfolding wire nodes
node_count_lem L = length-nodes none L.lines

pub small : (L : Listing) → total L.lines ≤ 4096 → {l : List ℕ} → Ids (node_count L) l → All Small l
small L h hs = all_map (λ a k. omega (arith, node_count_lem L)) hs

pub nodes-short : (L : Listing) → LinesOk L.lines → count L.lines ≤ 1024 → total L.lines ≤ 4096 → All NodeShort (wire L).nodes
unfolding wire nodes
nodes-short L ok hc ht = lines_nodes none L.lines ok hc ht
