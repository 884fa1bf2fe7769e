-- The graph of a listing (document 01, "Port order and rules"): successors, predecessors, return targets, continuations. Assumes nothing.
use Rattle.std.specs.Prelude.{ℕ, zero, suc, List, [], ◌∷◌, ◌++◌, map, Bool, true, false, length}
use Rattle.std.proofs.Math.Option.{Option, none, some}
use Rattle.std.proofs.Math.ListN.{get_elem?}
use Rattle.listings.specs.Bytes.{pick}
use Rattle.listings.specs.Listing.{goto, gosub, runto, ongoto, ongosub, BareWord, return, run, clr, stop, any, Simple, jump, on, for, next, block, bare, Listing}
use Rattle.graph.specs.Lists.{has, add_all, each, list, below, ascending}
use Rattle.graph.specs.Nodes.{NodeStmt, simple, cond, Node, Entries, entries, nodes}
use Rattle.graph.specs.Targets.{target_entries}
use Rattle.graph.specs.Edges.{Edge, edges, ends}
use Rattle.graph.specs.Reach.{reaches}

-- ---- what a node is to a run and to a path: a call (that may fall without opening) with its target lines, a RETURN,
-- a statement that forgets the open calls, any other; or no node

pub data Role : Type 0 where
  call : Bool → List ℕ → Role
  returns forgets steps no_node : Role

-- "here only GOSUB and ON GOSUB are calls"; "ON GOSUB may also fall without opening"; "RUN and CLR forget open calls"
unfoldable pub simple_role : Simple → Role
simple_role (jump gosub t) = call false (t ∷ [])
simple_role (on ongosub ts) = call true ts
simple_role (bare return) = returns
simple_role (bare run) = forgets
simple_role (jump runto t) = forgets
simple_role (bare clr) = forgets
simple_role (jump goto t) = steps
simple_role (on ongoto ts) = steps
simple_role (for v t) = steps
simple_role (next m ss) = steps
simple_role (block w) = steps
simple_role (bare stop) = steps
simple_role (bare any) = steps
simple_role (bare BareWord.plain) = steps

unfoldable pub stmt_role : NodeStmt → Role
stmt_role (simple o) = simple_role o
stmt_role (cond w a b) = steps

-- ---- a listing with its nodes, line entries and edges

pub record Wired : Type 0 where
  pub entries : Entries
  pub nodes : List Node
  pub edges : List Edge

unfoldable pub wire : Listing → Wired
wire L =
    let es = entries L.lines in
    let ns = nodes L.lines in
    record { entries = es; nodes = ns; edges = edges es ns }

unfoldable pub role_of : Option Node → Role
role_of none = no_node
role_of (some n) = stmt_role n.stmt

unfoldable pub role : Wired → ℕ → Role
role W i = role_of (get_elem? W.nodes i)

unfoldable pub fall_of : Option Node → Option ℕ
fall_of none = none
fall_of (some n) = n.fall

unfoldable pub fall_from : Wired → ℕ → Option ℕ
fall_from W i = fall_of (get_elem? W.nodes i)

-- the successors of a node that is no RETURN: its edges, each "added once, at the end of the list"
unfoldable pub base : Wired → ℕ → List ℕ
base W i = add_all [] (ends i W.edges)

-- ---- calls

-- "Continuation: the node that a GOSUB or ON GOSUB (a call) falls to under those rules, where there is one."
unfoldable pub continuation_by : Role → Option ℕ → List ℕ
continuation_by (call m ts) e = list e
continuation_by returns e = []
continuation_by forgets e = []
continuation_by steps e = []
continuation_by no_node e = []

unfoldable pub continuation : Wired → ℕ → List ℕ
continuation W i = continuation_by (role W i) (fall_from W i)

-- "where a target exists if it has a line entry": the entries of a call's existing targets
unfoldable pub callees_by : Entries → Role → List ℕ
callees_by es (call m ts) = target_entries es ts
callees_by es returns = []
callees_by es forgets = []
callees_by es steps = []
callees_by es no_node = []

unfoldable pub callees : Wired → ℕ → List ℕ
callees W i = callees_by W.entries (role W i)

-- ---- RETURN lists

-- "Skipping path: a path that steps from a call only to its continuation, goes no further than a RETURN, and otherwise follows successors."
unfoldable pub skip_steps_by : Role → Option ℕ → List ℕ → List ℕ
skip_steps_by (call m ts) e l = list e
skip_steps_by returns e l = []
skip_steps_by forgets e l = l
skip_steps_by steps e l = l
skip_steps_by no_node e l = []

unfoldable pub skip_steps : Wired → ℕ → List ℕ
skip_steps W i = skip_steps_by (role W i) (fall_from W i) (base W i)

-- does a skipping path lead from one of these nodes to r
unfoldable pub some_reaches : (ℕ → List ℕ) → ℕ → List ℕ → ℕ → Bool
some_reaches step n [] r = false
some_reaches step n (e ∷ es) r = elim (reaches step n e r) [ true ↦ true | false ↦ some_reaches step n es r ]

-- the continuation of call c, if it has "some existing target with a skipping path from its line entry to that RETURN"
unfoldable pub return_from : Wired → ℕ → ℕ → List ℕ
return_from W r c = elim (some_reaches (skip_steps W) (length W.nodes) (callees W c) r) [ true ↦ continuation W c | false ↦ [] ]

-- "RETURN, no handlers (H 0): the list of demand 3": "strictly ascending, exactly the continuations of those calls"
unfoldable pub region_return_edges : Wired → ℕ → List ℕ
region_return_edges W r = ascending (each (return_from W r) (below (length W.nodes)))

-- "all return targets, in the order in which their calls stand, each once"
unfoldable pub return_targets : Wired → List ℕ
return_targets W = add_all [] (each (continuation W) (below (length W.nodes)))

-- with handlers, or without
unfoldable pub return_edges : Bool → Wired → ℕ → List ℕ
return_edges true W r = return_targets W
return_edges false W r = region_return_edges W r

-- ---- all lists

unfoldable pub successors_by : Role → List ℕ → List ℕ → List ℕ
successors_by (call m ts) l r = l
successors_by returns l r = r
successors_by forgets l r = l
successors_by steps l r = l
successors_by no_node l r = []

unfoldable pub successors_in : Bool → Wired → ℕ → List ℕ
successors_in h W i = successors_by (role W i) (base W i) (return_edges h W i)

unfoldable pub successors : Listing → ℕ → List ℕ
successors L i = successors_in L.handlers (wire L) i

-- the lists of all nodes
unfoldable pub all_successors : Listing → List (List ℕ)
all_successors L = let W = wire L in map (successors_in L.handlers W) (below (length W.nodes))

-- "Predecessors, ascending": the nodes, counted from j, whose list has i
unfoldable pub predecessors_in : ℕ → ℕ → List (List ℕ) → List ℕ
predecessors_in i j [] = []
predecessors_in i j (l ∷ ls) = pick (has i l) (j ∷ predecessors_in i (suc j) ls) (predecessors_in i (suc j) ls)

unfoldable pub predecessors : Listing → ℕ → List ℕ
predecessors L i = predecessors_in i 0 (all_successors L)
