-- What a build answers (document 01, "Refused because of the input", "Refused because of the state"), and what `flowlist` writes. Assumes nothing.
use Rattle.std.specs.Prelude.{ℕ, zero, suc, ◌+◌, ◌≤◌, List, [], ◌∷◌, Bool, true, false, ◌&&◌, leb, length}
use Rattle.listings.specs.Bytes.{pick}
use Rattle.listings.specs.Listing.{Listing, total, count}
use Rattle.listings.specs.Read.{Answer, listing, refusal}
use Rattle.listings.specs.Cut.{meant}
use Rattle.graph.specs.Graph.{all_successors}
use Rattle.graph.specs.Print.{printed, printed_refusal}

-- "edges": the successors of all nodes, RETURNs too
unfoldable pub lengths : List (List ℕ) → ℕ
lengths [] = 0
lengths (l ∷ ls) = length l + lengths ls

unfoldable pub edge_count : Listing → ℕ
edge_count L = lengths (all_successors L)

-- how many lines, statements and edges the lent tables can hold; of the two edge tables the shorter
pub record Capacity : Type 0 where
  pub lines : ℕ
  pub nodes : ℕ
  pub edges : ℕ

-- the graph is written, or refused with a number and a place
pub data Built : Type 0 where
  graph : Listing → Built
  refused : (number place : ℕ) → Built

-- "21 line tables too short, 22 node tables too short, 23 either edge table too short or over 32,768 edges; in this order, place the count of lines, statements or edges."
-- (27, an inner statement not found, is for the Rust's `expect`: no listing that was read lacks one.)
unfoldable pub fitted : Capacity → Listing → Built
fitted c L =
    pick (leb (count L.lines) c.lines)
    (pick (leb (total L.lines) c.nodes)
    (pick (leb (edge_count L) c.edges && leb (edge_count L) 32768) (graph L) (refused 23 (edge_count L)))
    (refused 22 (total L.lines)))
    (refused 21 (count L.lines))

-- "Checked after the input."
unfoldable pub built_of_answer : Capacity → Answer → Built
built_of_answer c (listing L) = fitted c L
built_of_answer c (refusal n p) = refused n p

-- of a text: the graph is that of the listing that it means, whose names are cut
abbrev pub build : Capacity → List ℕ → Built
build c t = built_of_answer c (meant t)

-- the numbers that a text can be refused by: "1 text too long" to "8 a 65th number or slot"
abbrev pub InputNumber : ℕ → Type 0
InputNumber n = (1 ≤ n) × (n ≤ 8)

-- the numbers that a refused build can have, of an input that is refused by the numbers N; "21 line tables too short, 22 node tables too short, 23 either edge table
-- too short or over 32,768 edges"
pub data BuildNumber (N : ℕ → Type 0) : ℕ → Type 0 where
  of_input : {n : ℕ} → N n → BuildNumber N n
  of_lines : BuildNumber N 21
  of_nodes : BuildNumber N 22
  of_edges : BuildNumber N 23

unfoldable pub written : Built → List ℕ
written (graph L) = printed L
written (refused n p) = printed_refusal n p

-- "every program lends tables that suffice at all limits": what `flowlist` writes for a text
unfoldable pub limits : Capacity
limits = record { lines = 1024; nodes = 4096; edges = 32768 }

unfoldable pub flowlist : List ℕ → List ℕ
flowlist t = written (build limits t)
