-- How many edges a graph has: those of the nodes that are no RETURNs, and those of each RETURN. Assumes nothing.
use Rattle.std.specs.Prelude.{◌≡◌, Bool, true, false, List, [], ◌∷◌, eqb, length}
use Rattle.std.proofs.Math.Path.{refl, ap}
use Rattle.std.proofs.Common.{sym, ◌∙◌, arith, length-append}
use Prim.Native.Nat.{ℕ, zero, suc, ◌+◌, ◌≤◌, ◌<◌}
use Rattle.std.proofs.Math.ListN.{get_elem?}
use Rattle.listings.specs.Bytes.{pick}
use Rattle.listings.specs.Listing.{goto, gosub, runto, ongoto, ongosub, BareWord, return, run, clr, stop, any, Simple, jump, on, for, next, block, bare, Listing}
use Rattle.graph.specs.Nodes.{NodeStmt, simple, cond, Node}
use Rattle.graph.specs.Graph.{Role, call, returns, forgets, steps, no_node, simple_role, stmt_role, role_of, role, wire, base, return_edges, successors_by, successors_in, successors}
use Rattle.graph_laws.specs.GraphLaws.{node_count}
use Rattle.graph.specs.Build.{lengths, edge_count}
use Rattle.passes.specs.EdgeTable.{joined_lists, lists_to}
use Rattle.passes.specs.Predecessors.{all_lists}
use Rattle.passes.specs.ReturnTotals.{sum_where}
use Rattle.passes.specs.Prepared.{is_return, Roles}
use Rattle.tables.specs.Columns.{word_of}
use Rattle.passes.specs.SkipLists.{joined_to}

-- ---- the successors of a node, by the number of its opening word

unfoldable is_node : Role → Bool
is_node (call m ts) = true
is_node returns = true
is_node forgets = true
is_node steps = true
is_node no_node = false

simple_node : (o : Simple) → is_node (simple_role o) ≡ true
unfolding is_node simple_role
simple_node (jump gosub t) = refl
simple_node (on ongosub ts) = refl
simple_node (bare return) = refl
simple_node (bare run) = refl
simple_node (jump runto t) = refl
simple_node (bare clr) = refl
simple_node (jump goto t) = refl
simple_node (on ongoto ts) = refl
simple_node (for v t) = refl
simple_node (next m ss) = refl
simple_node (block w) = refl
simple_node (bare stop) = refl
simple_node (bare any) = refl
simple_node (bare BareWord.plain) = refl

stmt_node : (s : NodeStmt) → is_node (stmt_role s) ≡ true
unfolding is_node stmt_role
stmt_node (simple o) = simple_node o
stmt_node (cond w a b) = refl

node_role : (ns : List Node) (i : ℕ) → i < length ns → is_node (role_of (get_elem? ns i)) ≡ true
unfolding role_of
node_role [] i h = absurd (omega arith)
node_role (n ∷ ns) zero h = stmt_node n.stmt
node_role (n ∷ ns) (suc i) h = node_role ns i (omega arith)

role-list : (q : Role) (l r : List ℕ) → is_node q ≡ true → successors_by q l r ≡ pick (is_return q) r l
unfolding is_node successors_by is_return
role-list (call m ts) l r e = refl
role-list returns l r e = refl
role-list forgets l r e = refl
role-list steps l r e = refl
role-list no_node l r e = let z : ◌≡◌ {A = ℕ} 0 1 = cc in absurd (omega arith)

module _ (L : Listing) {stmts falls links : List ℕ} {n : ℕ} (r : Roles (wire L) stmts falls links n) where
  pub successors_are : (i : ℕ) → i < n → successors L i ≡ pick (eqb (word_of stmts i) 9) (return_edges L.handlers (wire L) i) (base (wire L) i)
  unfolding successors successors_in role
  successors_are i h =
      let W = wire L in
      role-list (role W i) (base W i) (return_edges L.handlers W i) (node_role W.nodes i (omega (arith, r.nodes_are)))
      ∙ ap (λ (b : Bool). pick b (return_edges L.handlers W i) (base W i)) (sym (r.returning i h))

  node_edges : (i : ℕ) → i < n → length (successors L i) ≡ length (base (wire L) i) + pick (eqb (word_of stmts i) 9) (length (return_edges L.handlers (wire L) i)) 0
  node_edges i h = ap length (successors_are i h) ∙ go (eqb (word_of stmts i) 9) (r.returns_none i h)
    where
      go : (b : Bool) → (b ≡ true → base (wire L) i ≡ []) → length (pick b (return_edges L.handlers (wire L) i) (base (wire L) i)) ≡ length (base (wire L) i) + pick b (length (return_edges L.handlers (wire L) i)) 0
      go true e = omega (arith, ap length (e refl))
      go false e = omega arith

  -- of the first i nodes
  pub edges_to : (i : ℕ) → i ≤ n
      → length (joined_lists (lists_to (successors L) i)) ≡ length (joined_lists (lists_to (base (wire L)) i)) + sum_where (λ k. eqb (word_of stmts k) 9) (λ k. length (return_edges L.handlers (wire L) k)) i
  unfolding lists_to joined_lists sum_where
  edges_to zero h = refl
  edges_to (suc i) h = omega (arith, joined_to (successors L) i, joined_to (base (wire L)) i, edges_to i (omega arith), node_edges i h)

lengths-joined : (ls : List (List ℕ)) → lengths ls ≡ length (joined_lists ls)
unfolding lengths joined_lists
lengths-joined [] = refl
lengths-joined (l ∷ ls) = omega (arith, length-append l (joined_lists ls), lengths-joined ls)

pub edges-joined : (L : Listing) → edge_count L ≡ length (joined_lists (lists_to (successors L) (node_count L)))
unfolding edge_count
edges-joined L = ap lengths (all_lists L) ∙ lengths-joined (lists_to (successors L) (node_count L))

-- of all nodes
pub edge_count_lem : (L : Listing) {stmts falls links : List ℕ} {n : ℕ} → Roles (wire L) stmts falls links n
    → edge_count L ≡ length (joined_lists (lists_to (base (wire L)) n)) + sum_where (λ r. eqb (word_of stmts r) 9) (λ r. length (return_edges L.handlers (wire L) r)) n
edge_count_lem L {n = n} r = edges-joined L ∙ ap (λ (k : ℕ). length (joined_lists (lists_to (successors L) k))) (sym r.nodes_are) ∙ edges_to L r n (omega arith)
