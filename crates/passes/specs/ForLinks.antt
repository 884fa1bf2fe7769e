-- The rows of links of NEXTs: what each slot pops (document 01, "NEXT per slot"). Assumes nothing.
use Rattle.std.specs.Prelude.{ℕ, suc, ◌*◌, ◌≡◌, List, [], ◌∷◌, ◌++◌, length, take, drop}
use Rattle.listings.specs.Listing.{Name, Slot}
use Rattle.graph_laws.specs.Adding.{node_number, decode}
use Rattle.graph.specs.Lists.{each}
use Rattle.graph.specs.Nodes.{Node}
use Rattle.graph.specs.Edges.{ForMove, keep_fors, push_for, pop_fors, node_moves}
use Rattle.graph_laws.specs.PerNode.{pop_opener, for_openers_after}
use Rattle.passes.specs.ListedNodes.{Listed}

-- one more than the FOR that each slot pops, or 0
unfoldable pub slot_links : List Slot → List (Name × ℕ) → List ℕ
slot_links [] fs = []
slot_links (s ∷ ss) fs = node_number (pop_opener s fs).0 ∷ slot_links ss (pop_opener s fs).1

-- a node's row of 64: a NEXT's begins with what its slots pop, any other stays as it was
unfoldable pub linked_row : ForMove → List (Name × ℕ) → List ℕ → List ℕ
linked_row keep_fors fs row = row
linked_row (push_for v) fs row = row
linked_row (pop_fors ss) fs row = slot_links ss fs ++ drop (length ss) row

-- the table from the row of node i on
unfoldable pub linked_rows : ℕ → List Node → List (Name × ℕ) → List ℕ → List ℕ
linked_rows i [] fs t = t
linked_rows i (n ∷ ns) fs t =
    let m = (node_moves n.stmt).fors in
    linked_row m fs (take 64 t) ++ linked_rows (suc i) ns (for_openers_after i m fs) (drop 64 t)

-- what the pass makes of the table t, for the n nodes that the tables hold
abbrev pub ForsLinked : List ℕ → List ℕ → ℕ → List ℕ → List ℕ → Type 0
ForsLinked ts ks n t t' = (ns : List Node) → Listed ts ks ns → length ns ≡ n → t' ≡ linked_rows 0 ns [] t

-- the FORs that the NEXT i with so many slots pops
unfoldable pub popped_by : List ℕ → ℕ → ℕ → List ℕ
popped_by t i count = each decode (take count (drop (i * 64) t))
