-- The table of frames: for each node the opener of the frame that it closes or joins, the closer of the frame that it
-- opens, the next ELSE of its DOIF. A node is one more than its id, none is 0. Assumes nothing.
use Rattle.std.specs.Prelude.{ℕ, suc, ◌*◌, ◌≡◌, Bool, List, [], ◌∷◌, eqb, ltb, length, drop, get_or}
use Rattle.std.proofs.Math.Option.{Option, none, some}
use Rattle.std.proofs.Math.ListN.{get_elem?}
use Rattle.layout.specs.Layout.{repeat_word, until_word, exit_word, doif_word, else_word, done_word}
use Rattle.listings.specs.Bytes.{pick}
use Rattle.listings.specs.Records.{padded}
use Rattle.graph.specs.Lists.{each, below}
use Rattle.graph.specs.Nodes.{Node}
use Rattle.graph.specs.NodeWords.{stmt_number}
use Rattle.graph.specs.Edges.{Move, stays, opens, closes, joins, Stack, loop_stack, do_stack}
use Rattle.graph_laws.specs.PerNode.{Met, nothing, closing, joining, no_openers, Fact, facts, is_closing, is_joining}

-- ---- what a statement does to each stack, by the number of its opening word

-- 15 and 16 are REPEAT and LOOP, 17 and 18 UNTIL and ENDLOOP, 19 and 20 EXIT and EXITIF
unfoldable pub loop_move : ℕ → Move
loop_move w = pick (ltb w repeat_word) stays (pick (ltb w until_word) opens (pick (ltb w exit_word) closes (pick (ltb w doif_word) joins stays)))

-- 21 is DOIF, 22 ELSE, 23 DONE
unfoldable pub do_move : ℕ → Move
do_move w = pick (eqb w doif_word) opens (pick (eqb w else_word) joins (pick (eqb w done_word) closes stays))

unfoldable pub word_move : Stack → ℕ → Move
word_move loop_stack w = loop_move w
word_move do_stack w = do_move w

-- the table of statements, 12 entries each, holds the words of these nodes
abbrev pub Worded : List ℕ → List Node → Type 0
Worded t ns = (i : ℕ) (d : Node) → get_elem? ns i ≡ some d → get_or t (i * 12) 0 ≡ stmt_number d.stmt

-- ---- the entries

-- a statement moves one of the two stacks at most: what a node meets on either
unfoldable pub either_met : Met → Met → Met
either_met nothing d = d
either_met (closing o) d = closing o
either_met (joining o) d = joining o

unfoldable pub frame_met : Fact → Met
frame_met f = either_met f.loop_met f.do_met

unfoldable pub met_number : Met → ℕ
met_number nothing = 0
met_number (closing o) = suc o
met_number (joining o) = suc o

-- the node closes the frame of opener o; it is an ELSE of the DOIF o
unfoldable pub closes_frame : ℕ → Fact → Bool
closes_frame o f = is_closing o (frame_met f)

unfoldable pub is_else_of : ℕ → Fact → Bool
is_else_of o f = is_joining o f.do_met

-- the first node that passes a test; fs are the facts from node k on
unfoldable pub first_where : (Fact → Bool) → ℕ → List Fact → ℕ
first_where p k [] = 0
first_where p k (f ∷ fs) = pick (p f) (suc k) (first_where p (suc k) fs)

-- the same, of all facts fs, from node k on
unfoldable pub next_where : (Fact → Bool) → ℕ → List Fact → ℕ
next_where p k fs = first_where p k (drop k fs)

unfoldable pub met_entry : Option Fact → ℕ
met_entry none = 0
met_entry (some f) = met_number (frame_met f)

unfoldable pub do_met_of : Option Fact → Met
do_met_of none = nothing
do_met_of (some f) = f.do_met

-- of node r: an ELSE has the next ELSE of its DOIF, any other node has the first ELSE, from node k on, that has joined
-- its own frame
unfoldable pub else_entry : List Fact → ℕ → ℕ → Met → ℕ
else_entry fs k r nothing = next_where (is_else_of r) k fs
else_entry fs k r (closing o) = next_where (is_else_of r) k fs
else_entry fs k r (joining o) = next_where (is_else_of o) (suc r) fs

unfoldable pub frame_row : List Fact → ℕ → List ℕ
frame_row fs r = met_entry (get_elem? fs r) ∷ next_where (closes_frame r) 0 fs ∷ else_entry fs 0 r (do_met_of (get_elem? fs r)) ∷ []

unfoldable pub frame_rows : List Fact → List ℕ
frame_rows fs = each (frame_row fs) (below (length fs))

-- the table of n entries
unfoldable pub frame_table : ℕ → List Fact → List ℕ
frame_table n fs = padded n (frame_rows fs)

-- of every list of n nodes whose words the table holds: t is the table of their frames
abbrev pub Framed : List ℕ → ℕ → List ℕ → Type 0
Framed words n t = (ns : List Node) → length ns ≡ n → Worded words ns → t ≡ frame_table (length t) (facts 0 ns no_openers)
