-- The printed graph and the printed refusal (document 01, "Program `flowlist`"), byte for byte. Assumes nothing.
use Rattle.std.specs.Prelude.{ℕ, zero, suc, List, [], ◌∷◌, ◌++◌, length, get_or}
use Rattle.std.proofs.Math.Option.{Option}
use Rattle.listings.specs.Bytes.{bytes, decimal}
use Rattle.listings.specs.Listing.{Listing}
use Rattle.graph.specs.Lists.{each, list, below}
use Rattle.graph.specs.Nodes.{Node}
use Rattle.graph.specs.Graph.{Wired, wire, all_successors, predecessors_in, return_targets, continuation}

-- each number with a space before it
unfoldable pub spaced : List ℕ → List ℕ
spaced l = each (λ n. 32 ∷ decimal n) l

-- numbers with a space between them
unfoldable pub joined : List ℕ → List ℕ
joined [] = []
joined (n ∷ l) = decimal n ++ spaced l

-- "Node: id, line number, line index from 0, path, lists." "Node rows .. print `(in 3)` or `(in)` after the path."
unfoldable pub node_row : ℕ → Node → List ℕ → List ℕ → List ℕ
node_row i n ss ps =
    bytes "(node" ++ spaced (i ∷ n.number ∷ n.line ∷ []) ++ bytes " (" ++ joined n.path ++ bytes ") (in" ++ spaced (list n.holder) ++ bytes ") (succ" ++ spaced ss
    ++ bytes ") (pred" ++ spaced ps ++ bytes "))\n"

unfoldable pub node_rows : List (List ℕ) → ℕ → List Node → List ℕ
node_rows ls i [] = []
node_rows ls i (n ∷ ns) = node_row i n (get_or ls i []) (predecessors_in i 0 ls) ++ node_rows ls (suc i) ns

-- "Then line entries by number (no row where there is none)"
unfoldable pub entry_row : ℕ × Option ℕ → List ℕ
entry_row d = each (λ e. bytes "(entry" ++ spaced (d.0 ∷ e ∷ []) ++ bytes ")\n") (list d.1)

-- "continuations (call, node) by call"
unfoldable pub back_row : Wired → ℕ → List ℕ
back_row W c = each (λ k. bytes "(back" ++ spaced (c ∷ k ∷ []) ++ bytes ")\n") (continuation W c)

-- "Graph: entry, node count", nodes, line entries, "return targets in order (`(returns)` if there are none)", continuations
unfoldable pub printed : Listing → List ℕ
printed L =
    let W = wire L in
    bytes "(graph" ++ spaced (0 ∷ length W.nodes ∷ []) ++ bytes "\n"
    ++ node_rows (all_successors L) 0 W.nodes
    ++ each entry_row W.entries.rows
    ++ bytes "(returns" ++ spaced (return_targets W) ++ bytes ")\n"
    ++ each (back_row W) (below (length W.nodes))
    ++ bytes ")\n"

-- "A refusal prints only `(refused NUMBER PLACE)`."
unfoldable pub printed_refusal : (number place : ℕ) → List ℕ
printed_refusal n p = bytes "(refused" ++ spaced (n ∷ p ∷ []) ++ bytes ")\n"
