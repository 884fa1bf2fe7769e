-- The predecessors of all nodes, by the lists of their successors. Assumes nothing.
use Rattle.std.specs.Prelude.{◌≡◌, refl, Bool, true, false, List, [], ◌∷◌, ◌++◌, ℕ, suc, ◌+◌, ◌≤◌, ◌<◌, length, get_or}
use Rattle.std.proofs.Common.{sym, ap, ◌∙◌, arith}
use Rattle.listings.specs.Bytes.{pick}
use Rattle.listings.specs.Every.{All, all[], all∷, all_append}
use Rattle.listings.specs.Listing.{Listing}
use Rattle.graph.specs.Lists.{has}
use Rattle.graph_laws.specs.Distinct.{Distinct}
use Rattle.graph_laws.specs.EdgeBounds.{Ids}
use Rattle.graph.specs.Graph.{wire, successors_in, successors, all_successors, predecessors_in}
use Rattle.graph_laws.specs.GraphLaws.{node_count, lists_ok}
use Rattle.passes.specs.EdgeTable.{joined_lists, start_of, start_end, lists_to, length_lists, lists_at, lists_map, lists_all}
use Rattle.passes.specs.Counting.{one, occurs, occurs-append, occurs_once, sum_to, sum_ext, sum_occurs, start_sum}

-- ---- the lists of n nodes: of ids below n, without duplicates

pub record NodeLists (n : ℕ) (ls : List (List ℕ)) : Type 0 where
  pub size : length ls ≡ n
  pub ids : All (Ids n) ls
  pub distinct : All Distinct ls

-- the predecessors of nodes 0, 1, ..
unfoldable pub preds_of : List (List ℕ) → List (List ℕ)
preds_of ls = lists_to (λ i. predecessors_in i 0 ls) (length ls)

-- a node has as many predecessors as there are edges to it
pub pred_length : (i j : ℕ) {ls : List (List ℕ)} → All Distinct ls → length (predecessors_in i j ls) ≡ occurs i (joined_lists ls)
unfolding predecessors_in joined_lists occurs
pred_length i j all[] = refl
pred_length i j (all∷ {a = l} {l = ls} d ds) = go (has i l) (omega (arith, occurs-append i l (joined_lists ls), occurs_once i d)) (pred_length i (suc j) ds)
  where
    p : List ℕ
    p = predecessors_in i (suc j) ls

    go : (x : Bool) → occurs i (l ++ joined_lists ls) ≡ one x + occurs i (joined_lists ls) → length p ≡ occurs i (joined_lists ls) → length (pick x (j ∷ p) p) ≡ occurs i (l ++ joined_lists ls)
    go true e h = omega arith
    go false e h = omega arith

pub preds_at : (ls : List (List ℕ)) (i : ℕ) → i < length ls → get_or (preds_of ls) i [] ≡ predecessors_in i 0 ls
unfolding preds_of
preds_at ls i h = lists_at (λ i. predecessors_in i 0 ls) (length ls) i h

pub length_preds : (ls : List (List ℕ)) → length (preds_of ls) ≡ length ls
unfolding preds_of
length_preds ls = length_lists (λ i. predecessors_in i 0 ls) (length ls)

pub joined-ids : (n : ℕ) {ls : List (List ℕ)} → All (Ids n) ls → Ids n (joined_lists ls)
unfolding joined_lists
joined-ids n all[] = all[]
joined-ids n (all∷ h hs) = all_append h (joined-ids n hs)

-- where a node's predecessors begin: behind the edges to the nodes before it
pub preds_start : {n : ℕ} {ls : List (List ℕ)} → NodeLists n ls → (i : ℕ) → i ≤ n → start_of (preds_of ls) i ≡ sum_to (λ x. occurs x (joined_lists ls)) i
unfolding preds_of
preds_start {n} {ls} k i h =
    start_sum (λ x. predecessors_in x 0 ls) (length ls) i (omega (arith, k.size)) ∙ sum_ext (λ x. length (predecessors_in x 0 ls)) (λ x. occurs x (joined_lists ls)) i (λ x _. pred_length x 0 k.distinct)

-- every edge is in one predecessor list
pub preds_total : {n : ℕ} {ls : List (List ℕ)} → NodeLists n ls → length (joined_lists (preds_of ls)) ≡ length (joined_lists ls)
preds_total {n} {ls} k =
    sym (start_end (preds_of ls)) ∙ ap (start_of (preds_of ls)) (length_preds ls ∙ k.size) ∙ preds_start k n (omega arith) ∙ sum_occurs n (joined-ids n k.ids)

-- ---- the lists of a listing are such lists

pub all_lists : (L : Listing) → all_successors L ≡ lists_to (successors L) (node_count L)
unfolding all_successors successors
all_lists L = lists_map (successors_in L.handlers (wire L)) (node_count L)

pub successor_lists : (L : Listing) → NodeLists (node_count L) (all_successors L)
successor_lists L =
    rw (all_lists L)
    (record {
      size = length_lists (successors L) (node_count L);
      ids = lists_all (successors L) (lists_ok L).ids (node_count L);
      distinct = lists_all (successors L) (lists_ok L).distinct (node_count L);
    })
