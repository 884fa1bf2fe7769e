-- The questions of document 01 ("Refused because of the state"; "Frame question"), asked of a listing's graph. Assumes nothing.
use Rattle.std.specs.Prelude.{ℕ, zero, suc, List, [], ◌∷◌, Bool, true, false, ◌&&◌, eqb, ltb, leb, length}
use Rattle.std.proofs.Math.Option.{Option, none, some}
use Rattle.std.proofs.Math.ListN.{get_elem?}
use Rattle.listings.specs.Bytes.{same, pick}
use Rattle.listings.specs.Listing.{Name, Simple, Listing}
use Rattle.listings.specs.Rows.{is_name}
use Rattle.listings.specs.Cut.{cut_name}
use Rattle.graph.specs.Lists.{has, keep}
use Rattle.graph.specs.Nodes.{NodeStmt, simple, cond, Node, nodes, entries, entry_of}
use Rattle.graph.specs.NodeWords.{stmt_word}
use Rattle.graph.specs.Targets.{on_for, on_next, on_simple}
use Rattle.graph.specs.Graph.{Role, call, returns, forgets, steps, no_node, wire, role, continuation, successors, predecessors}

-- an answer, or a refusal with its number and place
pub data Reply (A : Type 0) : Type 0 where
  answer : A → Reply A
  refused : (number place : ℕ) → Reply A

-- ---- the frame list

-- "a NEXT with the flag keeps those successors that the header has"
unfoldable pub kept : List ℕ → List ℕ → List ℕ
kept hs ss = keep (λ s. has s hs) ss

-- "nothing for .. a FOR of that name"; ss, hs: the successors of the node and of the header
unfoldable pub frame_simple : Name → Bool → List ℕ → List ℕ → Simple → List ℕ
frame_simple v flag ss hs o = on_for (λ w t. pick (same w v) [] ss) (on_next (λ m l. pick flag (kept hs ss) ss) ss o) o

-- "nothing for CLR, RUN, RETURN ..; a call gives its continuation, if any; else all successors": k is the continuation
unfoldable pub frame_by : Role → Name → Bool → List ℕ → List ℕ → List ℕ → NodeStmt → List ℕ
frame_by (call m ts) v flag ss hs k s = k
frame_by returns v flag ss hs k s = []
frame_by forgets v flag ss hs k s = []
frame_by no_node v flag ss hs k s = []
frame_by steps v flag ss hs k s = on_simple (frame_simple v flag ss hs) ss s

unfoldable pub frame_of : Listing → (header node : ℕ) → Name → Bool → Option Node → List ℕ
frame_of L h i v flag none = []
frame_of L h i v flag (some n) = frame_by (role (wire L) i) v flag (successors L i) (successors L h) (continuation (wire L) i) n.stmt

unfoldable pub frame_list : Listing → (header node : ℕ) → Name → Bool → List ℕ
frame_list L h i v flag = frame_of L h i v flag (get_elem? (nodes L.lines) i)

-- ---- statements

-- "a statement is answered by its node id and opening word" (`stmt_word`)

-- "A path is a line index and numbers": the node at a path, counted from i
unfoldable pub node_from : ℕ → ℕ → List ℕ → List Node → Option (ℕ × List ℕ)
node_from i li p [] = none
node_from i li p (n ∷ ns) = pick (eqb n.line li && same n.path p) (some (i, stmt_word n.stmt)) (node_from (suc i) li p ns)

-- ---- the questions, with the refusals that do not hang on tables: "They check 3 .., then 24 (the header first), 25, 26, 28."

-- "24 node id not below the node count (place: the id)"
unfoldable pub if_node : {A : Type 0} → Listing → ℕ → Reply A → Reply A
if_node L i r = pick (ltb i (length (nodes L.lines))) r (refused 24 i)

unfoldable pub ask_successors : Listing → ℕ → Reply (List ℕ)
ask_successors L i = if_node L i (answer (successors L i))

unfoldable pub ask_predecessors : Listing → ℕ → Reply (List ℕ)
ask_predecessors L i = if_node L i (answer (predecessors L i))

unfoldable pub statement_of : ℕ → Option Node → Reply (ℕ × List ℕ)
statement_of i none = refused 24 i
statement_of i (some n) = answer (i, stmt_word n.stmt)

unfoldable pub ask_statement : Listing → ℕ → Reply (ℕ × List ℕ)
ask_statement L i = statement_of i (get_elem? (nodes L.lines) i)

-- "Our editor .. asks for the statement around a node": the holder's id and opening word, or none
unfoldable pub around : List Node → Option ℕ → Option (ℕ × List ℕ)
around ns none = none
around ns (some j) = elim (get_elem? ns j) [ none ↦ none | some m ↦ some (j, stmt_word m.stmt) ]

unfoldable pub holder_in : List Node → ℕ → Option Node → Reply (Option (ℕ × List ℕ))
holder_in ns i none = refused 24 i
holder_in ns i (some n) = answer (around ns n.holder)

unfoldable pub ask_holder : Listing → ℕ → Reply (Option (ℕ × List ℕ))
ask_holder L i = holder_in (nodes L.lines) i (get_elem? (nodes L.lines) i)

-- "26 no statement at the path asked (place 0)"
unfoldable pub found_or : Option (ℕ × List ℕ) → Reply (ℕ × List ℕ)
found_or none = refused 26 0
found_or (some d) = answer d

unfoldable pub ask_path : Listing → ℕ → List ℕ → Reply (ℕ × List ℕ)
ask_path L li p = found_or (node_from 0 li p (nodes L.lines))

-- "a line's entry (a node or none)"
unfoldable pub ask_entry : Listing → ℕ → Reply (Option ℕ)
ask_entry L n = answer (entry_of (entries L.lines) n)

-- "28 the frame answer is longer than the slice lent for it (place: the answer's length)"
unfoldable pub if_room : ℕ → List ℕ → Reply (List ℕ)
if_room room l = pick (leb (length l) room) (answer l) (refused 28 (length l))

-- "3 (a bad name, place 0), then 24 (the header first)"; room: how many entries the lent slice has. The name is judged whole and then cut: "The name given to
-- the frame question is cut too." (document 02, L2); those of the listing are cut already
unfoldable pub ask_frame : Listing → (header node : ℕ) → Name → Bool → (room : ℕ) → Reply (List ℕ)
ask_frame L h i v flag room = pick (is_name v) (if_node L h (if_node L i (if_room room (frame_list L h i (cut_name v) flag)))) (refused 3 0)
