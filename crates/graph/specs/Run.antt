-- A run (document 01, demand 3): a node and the open calls, newest first, with a free choice at each step. Assumes nothing.
-- It goes by the rules, never by tables.
use Rattle.std.specs.Prelude.{ℕ, List, [], ◌∷◌, ◌++◌, map, Bool, true, false}
use Rattle.std.proofs.Math.Option.{Option, none, some}
use Rattle.std.proofs.Math.ListN.{get_elem?}
use Rattle.listings.specs.Listing.{Listing}
use Rattle.graph.specs.Lists.{list}
use Rattle.graph.specs.Nodes.{Entries}
use Rattle.graph.specs.Graph.{Role, call, returns, forgets, steps, no_node, Wired, wire, role, fall_from, base, continuation, callees_by}

pub record State : Type 0 where
  pub node : ℕ
  pub calls : List ℕ

-- each of these nodes, with these open calls
unfoldable pub toward : List ℕ → List ℕ → List State
toward cs l = map (λ n. record { node = n; calls = cs }) l

unfoldable pub may_fall : Bool → Option ℕ → List ℕ
may_fall true e = list e
may_fall false e = []

-- "RETURN closes the newest open call and goes to its continuation; with none, or none open, the run ends."
unfoldable pub close_call : (ℕ → List ℕ) → List ℕ → List State
close_call k [] = []
close_call k (c ∷ cs) = toward cs (k c)

-- every state that one step leads to, for a node with this role, fall and successors; k: the continuations
unfoldable pub moves_by : Role → Entries → Option ℕ → List ℕ → (ℕ → List ℕ) → State → List State
-- "GOSUB or ON GOSUB opens itself and goes to the entry of one of its existing targets; ON GOSUB may also fall without opening."
moves_by (call m ts) es e l k s = toward (s.node ∷ s.calls) (callees_by es (call m ts)) ++ toward s.calls (may_fall m e)
moves_by returns es e l k s = close_call k s.calls
-- "RUN and CLR forget open calls; they and all other statements go to any one successor."
moves_by forgets es e l k s = toward [] l
moves_by steps es e l k s = toward s.calls l
moves_by no_node es e l k s = []

unfoldable pub moves : Wired → State → List State
moves W s = moves_by (role W s.node) W.entries (fall_from W s.node) (base W s.node) (continuation W) s

-- "With nowhere to go, the run ends": the steps of a run, each from a state to a state; a choice picks one of those that there are
unfoldable pub run_from : Wired → State → List ℕ → List (State × State)
run_from W s [] = []
run_from W s (c ∷ cs) = elim (get_elem? (moves W s) c) [ none ↦ [] | some t ↦ (s, t) ∷ run_from W t cs ]

-- "It is fed the listing, the start node and a free choice at each step"; "It starts at any node, the list empty"
unfoldable pub run : Listing → ℕ → List ℕ → List (State × State)
run L i cs = run_from (wire L) (record { node = i; calls = [] }) cs
