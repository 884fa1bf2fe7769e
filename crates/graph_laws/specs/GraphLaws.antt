-- What holds of the lists of every listing: ids are nodes, no duplicates, predecessors are the inverse, ascending. Assumes nothing.
use Rattle.std.specs.Prelude.{ℕ, zero, suc, ◌+◌, ◌<◌, ◌≤◌, ◌≡◌, Bool, ◌⊎◌, ◌↔◌, T, length}
use Rattle.std.proofs.Math.Path.{refl}
use Rattle.std.proofs.Common.{subst, sym, ap, ◌∙◌, le_refl, add-zero, length-append}
use mathlib.Core.List.Memᴰ
use mathlib.Core.List.{List, [], ◌∷◌, ◌++◌, map, Memᴰ}
use Rattle.std.proofs.Math.Bool.{true, false}
use Rattle.std.proofs.Math.Logic.{inl, inr}
use Rattle.std.proofs.Math.Option.{Option, none, some}
use native.Mathlib.Omega.{arith}
use Rattle.std.proofs.Math.ListN.{get_elem?}
use Rattle.listings.specs.Bytes.{pick}
use Rattle.listings.specs.Listing.{Listing, total}
use Rattle.graph.specs.Lists.{has, add_all, each, list, below, ascending, Ascending, asc[], asc∷}
use Rattle.listings.specs.Every.{All, all[], all∷, all_append}
use Rattle.graph_laws.specs.Members.{all_mem, all-each, all-at, ascending_asc, ascending_mem, past}
use Rattle.graph.specs.Nodes.{Node, entries, nodes, nodes_before}
use Rattle.graph_laws.specs.NodeLaws.{Below, NodeFits, EntriesFit, length-nodes, nodes_fit, entries_fit}
use Rattle.graph_laws.specs.EdgeBounds.{Ids, list-ids, edges_to, ends-ids, add_all-ids}
use Rattle.graph_laws.specs.Distinct.{Distinct, dist[], few, distinct_all, distinct_ascending}
use Rattle.graph.specs.Edges.{edges, ends}
use Rattle.graph_laws.specs.ReachLaws.{has→mem, mem→has}
use Rattle.graph.specs.Graph.{Role, call, returns, forgets, steps, no_node, Wired, wire, role_of, role, fall_of, fall_from, base, continuation_by, continuation, return_from, region_return_edges, return_targets, return_edges, successors_by, successors_in, successors, all_successors, predecessors_in, predecessors, some_reaches, skip_steps, callees}

-- the node count
abbrev pub node_count : Listing → ℕ
node_count L = length (wire L).nodes

-- ---- ids

all_of : {A : Type 0} {P : A → Type 0} → ((a : A) → P a) → (l : List A) → All P l
all_of f [] = all[]
all_of f (a ∷ l) = all∷ (f a) (all_of f l)

module _ (L : Listing) where
  pub fits : All (NodeFits (node_count L)) (wire L).nodes
  unfolding wire nodes
  fits = nodes_fit (length (nodes_before none L.lines)) none L.lines (omega (arith, length-nodes none L.lines)) tt

  pub entry_ids : EntriesFit (node_count L) (wire L).entries
  unfolding wire nodes
  entry_ids = entries_fit (length (nodes_before none L.lines)) L.lines (omega (arith, length-nodes none L.lines))

  pub fall_below : (i : ℕ) → Below (node_count L) (fall_from (wire L) i)
  unfolding fall_from fall_of
  fall_below i = go (get_elem? (wire L).nodes i) refl
    where
      go : (o : Option Node) → get_elem? (wire L).nodes i ≡ o → Below (node_count L) (fall_of o)
      go none e = tt
      go (some n) e = (all-at fits i n e).0

  pub base-ids : (i : ℕ) → Ids (node_count L) (base (wire L) i)
  unfolding base wire
  base-ids i = add_all-ids (node_count L) all[] (ends-ids (node_count L) i (edges_to (node_count L) (wire L).entries entry_ids fits))

  pub continuation-ids : (i : ℕ) → Ids (node_count L) (continuation (wire L) i)
  unfolding continuation continuation_by
  continuation-ids i = go (role (wire L) i)
    where
      go : (q : Role) → Ids (node_count L) (continuation_by q (fall_from (wire L) i))
      go (call m ts) = list-ids (node_count L) (fall_from (wire L) i) (fall_below i)
      go returns = all[]
      go forgets = all[]
      go steps = all[]
      go no_node = all[]

  from_ids : (r c : ℕ) → Ids (node_count L) (return_from (wire L) r c)
  unfolding return_from
  from_ids r c = go (some_reaches (skip_steps (wire L)) (node_count L) (callees (wire L) c) r)
    where
      go : (x : Bool) → Ids (node_count L) (elim x as (λ _. List ℕ) [ true ↦ continuation (wire L) c | false ↦ [] ])
      go true = continuation-ids c
      go false = all[]

  each-ids : (f : ℕ → List ℕ) → ((c : ℕ) → Ids (node_count L) (f c)) → (l : List ℕ) → Ids (node_count L) (each f l)
  each-ids f h l = all-each {P = λ _. Unit {0}} f (λ c _. h c) (all_of (λ c. tt) l)

  sorted_ids : (l : List ℕ) → Ids (node_count L) l → Ids (node_count L) (ascending l)
  sorted_ids l h = from_mem (ascending l) (λ a m. all_mem h a (ascending_mem a l m))
    where
      from_mem : (k : List ℕ) → ((a : ℕ) → Memᴰ a k → a < node_count L) → Ids (node_count L) k
      from_mem [] g = all[]
      from_mem (a ∷ k) g = all∷ (g a (Memᴰ.head refl)) (from_mem k (λ b m. g b (Memᴰ.tail m)))

  pub target-ids : Ids (node_count L) (return_targets (wire L))
  unfolding return_targets
  target-ids = add_all-ids (node_count L) all[] (each-ids (continuation (wire L)) continuation-ids (below (node_count L)))

  return_ids : (h : Bool) (r : ℕ) → Ids (node_count L) (return_edges h (wire L) r)
  unfolding return_edges region_return_edges
  return_ids true r = target-ids
  return_ids false r = sorted_ids (each (return_from (wire L) r) (below (node_count L))) (each-ids (return_from (wire L) r) (from_ids r) (below (node_count L)))

  -- one of a node's two lists, or none
  by_role : (P : List ℕ → Type 0) (q : Role) {b r : List ℕ} → P [] → P b → P r → P (successors_by q b r)
  unfolding successors_by
  by_role P (call m ts) p0 pb pr = pb
  by_role P returns p0 pb pr = pr
  by_role P forgets p0 pb pr = pb
  by_role P steps p0 pb pr = pb
  by_role P no_node p0 pb pr = p0

  successor_ids : (i : ℕ) → Ids (node_count L) (successors L i)
  unfolding successors successors_in
  successor_ids i = by_role (Ids (node_count L)) (role (wire L) i) all[] (base-ids i) (return_ids L.handlers i)

  -- ---- no duplicates

  return_distinct : (h : Bool) (r : ℕ) → Distinct (return_edges h (wire L) r)
  unfolding return_edges region_return_edges return_targets
  return_distinct true r = distinct_all (each (continuation (wire L)) (below (node_count L))) dist[]
  return_distinct false r = distinct_ascending (ascending_asc (each (return_from (wire L) r) (below (node_count L))))

  successor_distinct : (i : ℕ) → Distinct (successors L i)
  unfolding successors successors_in base
  successor_distinct i = by_role Distinct (role (wire L) i) dist[] (distinct_all (ends i (wire L).edges) dist[]) (return_distinct L.handlers i)

  -- what is no node has no successors
  no_successors : (i : ℕ) → node_count L ≤ i → successors L i ≡ []
  unfolding successors successors_in role role_of successors_by
  no_successors i h = elim (past (wire L).nodes i) [ inl lt ↦ absurd (omega arith) | inr e ↦ rw e ]

-- ---- predecessors: the nodes, from j on, whose list has i

data At {A : Type 0} (a : A) : ℕ → List A → Type 0 where
  first : {l : List A} → At a 0 (a ∷ l)
  next : {k : ℕ} {b : A} {l : List A} → At a k l → At a (suc k) (b ∷ l)

pred_low : (i j : ℕ) (ls : List (List ℕ)) (k : ℕ) → Memᴰ k (predecessors_in i j ls) → j ≤ k
unfolding predecessors_in
pred_low i j [] k m = absurd (Memᴰ.not-nil m)
pred_low i j (l ∷ ls) k m = go (has i l) m (pred_low i (suc j) ls k)
  where
    go : (x : Bool) → Memᴰ k (pick x (j ∷ predecessors_in i (suc j) ls) (predecessors_in i (suc j) ls)) → (Memᴰ k (predecessors_in i (suc j) ls) → suc j ≤ k) → j ≤ k
    go true n r = elim (Memᴰ.cases_cons n) [ inl e ↦ omega arith | inr p ↦ omega (arith, r p) ]
    go false n r = omega (arith, r n)

pred_ascends : (i j : ℕ) (ls : List (List ℕ)) → Ascending (predecessors_in i j ls)
unfolding predecessors_in
pred_ascends i j [] = asc[]
pred_ascends i j (l ∷ ls) = go (has i l) (pred_ascends i (suc j) ls)
  where
    go : (x : Bool) → Ascending (predecessors_in i (suc j) ls) → Ascending (pick x (j ∷ predecessors_in i (suc j) ls) (predecessors_in i (suc j) ls))
    go true h = asc∷ {a = j} (λ b (m : Memᴰ b (predecessors_in i (suc j) ls)). omega (arith, pred_low i (suc j) ls b m)) h
    go false h = h

-- list l stands at place k, and has i
abbrev HasAt : ℕ → ℕ → List (List ℕ) → Type 0
HasAt i k ls = (l : List ℕ) × At l k ls × T (has i l)

pred_sound : (i j : ℕ) (ls : List (List ℕ)) (k : ℕ) → Memᴰ (j + k) (predecessors_in i j ls) → HasAt i k ls
unfolding predecessors_in
pred_sound i j [] k m = absurd (Memᴰ.not-nil m)
pred_sound i j (l ∷ ls) k m = go (has i l) refl (pred_sound i (suc j) ls) k m
  where
    rest : ((k : ℕ) → Memᴰ (suc j + k) (predecessors_in i (suc j) ls) → HasAt i k ls) → (k : ℕ) → Memᴰ (j + k) (predecessors_in i (suc j) ls) → HasAt i k (l ∷ ls)
    rest f zero n = absurd (omega (arith, pred_low i (suc j) ls (j + 0) n))
    rest f (suc k) n =
        let q : j + suc k ≡ suc j + k = omega arith in
        let r = f k (subst (λ (z : ℕ). Memᴰ z (predecessors_in i (suc j) ls)) q n) in
        (r.0, next r.1, r.2)

    here : (k : ℕ) → T (has i l) → j + k ≡ j → HasAt i k (l ∷ ls)
    here zero t e = (l, first, t)
    here (suc k) t e = absurd (omega arith)

    go : (x : Bool) → has i l ≡ x → ((k : ℕ) → Memᴰ (suc j + k) (predecessors_in i (suc j) ls) → HasAt i k ls)
        → (k : ℕ) → Memᴰ (j + k) (pick x (j ∷ predecessors_in i (suc j) ls) (predecessors_in i (suc j) ls)) → HasAt i k (l ∷ ls)
    go true e f k n = elim (Memᴰ.cases_cons n) [ inl q ↦ here k (rw e tt) q | inr p ↦ rest f k p ]
    go false e f k n = rest f k n

pred_complete : (i j : ℕ) {ls : List (List ℕ)} (k : ℕ) {l : List ℕ} → At l k ls → T (has i l) → Memᴰ (j + k) (predecessors_in i j ls)
unfolding predecessors_in
pred_complete i j zero {l} (first {l = ls}) t = go (has i l) t
  where
    go : (x : Bool) → T x → Memᴰ (j + 0) (pick x (j ∷ predecessors_in i (suc j) ls) (predecessors_in i (suc j) ls))
    go true u = Memᴰ.head (add-zero j)
    go false u = absurd u
pred_complete i j (suc k) (next {b = b} {l = ls} a) t =
    let q : suc j + k ≡ j + suc k = omega arith in
    go (has i b) (subst (λ (z : ℕ). Memᴰ z (predecessors_in i (suc j) ls)) q (pred_complete i (suc j) k a t))
  where
    go : (x : Bool) → Memᴰ (j + suc k) (predecessors_in i (suc j) ls) → Memᴰ (j + suc k) (pick x (j ∷ predecessors_in i (suc j) ls) (predecessors_in i (suc j) ls))
    go true m = Memᴰ.tail m
    go false m = m

-- the list at a place of all lists is that node's
at_append : {A : Type 0} {a : A} {k : ℕ} {l : List A} (r : List A) → At a k l → At a k (l ++ r)
at_append r first = first
at_append r (next p) = next (at_append r p)

at-end : {A : Type 0} (l : List A) (a : A) → At a (length l) (l ++ (a ∷ []))
at-end [] a = first
at-end (b ∷ l) a = next (at-end l a)

length-below : (n : ℕ) → length (below n) ≡ n
unfolding below
length-below zero = refl
length-below (suc n) = simp length-append (omega (arith, length-below n))

at_below : (n k : ℕ) → k < n → At k k (below n)
unfolding below
at_below zero k h = absurd (omega arith)
at_below (suc n) k h = elim (last k n h) [ inl lt ↦ at_append (n ∷ []) (at_below n k lt) | inr e ↦ rw e (subst (λ (z : ℕ). At n z (below n ++ (n ∷ []))) (length-below n) (at-end (below n) n)) ]
  where
    last : (k n : ℕ) → k < suc n → (k < n) ⊎ (k ≡ n)
    last zero zero g = inr refl
    last zero (suc n) g = inl (omega arith)
    last (suc k) zero g = absurd (omega arith)
    last (suc k) (suc n) g = elim (last k n (omega arith)) [ inl lt ↦ inl (omega arith) | inr e ↦ inr (ap suc e) ]

at_map : {A B : Type 0} (f : A → B) {a : A} {k : ℕ} {l : List A} → At a k l → At (f a) k (map f l)
at_map f first = first
at_map f (next p) = next (at_map f p)

at_one : {A : Type 0} {a b : A} {k : ℕ} {l : List A} → At a k l → At b k l → a ≡ b
at_one first first = refl
at_one (next p) (next q) = at_one p q

at_length : {A : Type 0} {a : A} {k : ℕ} {l : List A} → At a k l → k < length l
at_length first = omega arith
at_length (next p) = let h = at_length p in omega arith

length-map : {A B : Type 0} (f : A → B) (l : List A) → length (map f l) ≡ length l
length-map f [] = refl
length-map f (a ∷ l) = ap suc (length-map f l)

module _ (L : Listing) where
  at_node : (j : ℕ) → j < node_count L → At (successors L j) j (all_successors L)
  unfolding all_successors successors
  at_node j h = at_map (successors_in L.handlers (wire L)) (at_below (node_count L) j h)

  pub few_lists : length (all_successors L) ≡ node_count L
  unfolding all_successors
  few_lists = length-map (successors_in L.handlers (wire L)) (below (node_count L)) ∙ length-below (node_count L)

  inverse : (i j : ℕ) → Memᴰ j (predecessors L i) ↔ Memᴰ i (successors L j)
  unfolding predecessors
  inverse i j = (into, back)
    where
      z : 0 + j ≡ j
      z = omega arith

      into : Memᴰ j (predecessors_in i 0 (all_successors L)) → Memᴰ i (successors L j)
      into m =
          let r = pred_sound i 0 (all_successors L) j (subst (λ (y : ℕ). Memᴰ y (predecessors_in i 0 (all_successors L))) (sym z) m) in
          let lt = at_length r.1 in
          let e : r.0 ≡ successors L j = at_one r.1 (at_node j (omega (arith, lt, few_lists))) in
          has→mem i (successors L j) (subst (λ (l : List ℕ). T (has i l)) e r.2)

      inside : (j < node_count L) ⊎ (node_count L ≤ j) → Memᴰ i (successors L j) → Memᴰ j (predecessors_in i 0 (all_successors L))
      inside (inl lt) m = subst (λ (y : ℕ). Memᴰ y (predecessors_in i 0 (all_successors L))) z (pred_complete i 0 j (at_node j lt) (mem→has m))
      inside (inr le) m = absurd (Memᴰ.not-nil (subst (λ (l : List ℕ). Memᴰ i l) (no_successors L j le) m))

      side : (j n : ℕ) → (j < n) ⊎ (n ≤ j)
      side zero zero = inr (omega arith)
      side zero (suc n) = inl (omega arith)
      side (suc j) zero = inr (omega arith)
      side (suc j) (suc n) = elim (side j n) [ inl h ↦ inl (omega arith) | inr h ↦ inr (omega arith) ]

      back : Memᴰ i (successors L j) → Memᴰ j (predecessors_in i 0 (all_successors L))
      back m = inside (side j (node_count L)) m

-- ---- the claim, for every listing

pub record ListsOk (L : Listing) : Type 0 where
  -- ids in all lists are below the node count
  pub ids : (i : ℕ) → Ids (node_count L) (successors L i)
  -- no list has a duplicate, so none is longer than there are nodes
  pub distinct : (i : ℕ) → Distinct (successors L i)
  pub short : (i : ℕ) → length (successors L i) ≤ node_count L
  -- predecessors are exactly the inverse, ascending
  pub inverse : (i j : ℕ) → Memᴰ j (predecessors L i) ↔ Memᴰ i (successors L j)
  pub ascends : (i : ℕ) → Ascending (predecessors L i)

pub lists_ok : (L : Listing) → ListsOk L
unfolding predecessors
lists_ok L =
    record {
      ids = successor_ids L;
      distinct = successor_distinct L;
      short = λ i. few (node_count L) (successor_distinct L i) (successor_ids L i);
      inverse = inverse L;
      ascends = λ i. pred_ascends i 0 (all_successors L);
    }
