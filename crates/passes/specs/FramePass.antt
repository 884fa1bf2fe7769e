-- One node's step on the loop stack or on the DO stack, and the table of frames as the passes write it. Assumes
-- nothing.
use Rattle.std.specs.Prelude.{ℕ, zero, suc, ◌+◌, ◌*◌, ◌<◌, ◌≤◌, ◌≡◌, Bool, true, false, ◌||◌, List, eqb, leb, length, get_or, set}
use Rattle.std.proofs.Math.ListN.{get_elem?}
use Rattle.layout.specs.Layout.{exit_word, exitif_word, else_word}
use Rattle.listings.specs.Bytes.{pick}
use Rattle.graph.specs.Nodes.{Node}
use Rattle.graph.specs.Edges.{Move, stays, opens, closes, joins}
use Rattle.graph_laws.specs.PerNode.{openers_after, no_openers, Fact, facts, nothing}
use Rattle.passes.specs.FrameStacks.{top_of, Holds}
use Rattle.passes.specs.Frames.{Worded, met_entry, next_where, closes_frame, do_met_of, else_entry}
use Rattle.passes.specs.declared.moves.FrameMove.{FrameMove}
use Rattle.passes.specs.declared.moves.FrameMove.TheVariants.{Stays, Opens, Closes, Joins}

abbrev pub move_of : FrameMove → Move
move_of Stays = stays
move_of Opens = opens
move_of Closes = closes
move_of Joins = joins

-- node i writes the opener of the frame that it closes or joins
abbrev pub met_written : Move → ℕ → List ℕ → List ℕ → List ℕ
met_written stays i l t = t
met_written opens i l t = t
met_written closes i l t = set t (i * 3) (top_of l)
met_written joins i l t = set t (i * 3) (top_of l)

-- whether a move changes the stack
abbrev pub moves_stack : Move → Bool
moves_stack stays = false
moves_stack opens = true
moves_stack closes = true
moves_stack joins = false

-- of all openers l that the words hold: what is written, and what they hold after
abbrev pub FrameMet : Move → ℕ → List ℕ → List ℕ → List ℕ → Type 0
FrameMet m i ws t t' = (l : List ℕ) → Holds ws l → top_of l ≤ i → t' ≡ met_written m i l t

abbrev pub FrameMoved : Move → ℕ → List ℕ → List ℕ → Type 0
FrameMoved m i ws us = (l : List ℕ) → Holds ws l → top_of l ≤ i → Holds us (openers_after i m l)

-- one node's step
pub record Stepped (m : Move) (i : ℕ) (ws us t t' : List ℕ) : Type 0 where
  pub held : FrameMoved m i ws us
  pub written : FrameMet m i ws t t'

-- ---- the pass over the stacks

abbrev pub AllZero : List ℕ → Type 0
AllZero t = (q : ℕ) → get_or t q 0 ≡ 0

-- the first column, up to node i, of the facts F; all other entries are zero
pub record MetUpto (F : List Fact) (t : List ℕ) (i : ℕ) : Type 0 where
  pub met : (r : ℕ) → r < i → get_or t (r * 3) 0 ≡ met_entry (get_elem? F r)
  pub later : (r : ℕ) → i ≤ r → get_or t (r * 3) 0 ≡ 0
  pub closers : (r : ℕ) → get_or t (r * 3 + 1) 0 ≡ 0
  pub elses : (r : ℕ) → get_or t (r * 3 + 2) 0 ≡ 0

-- an opener stands before the nodes that meet its frame
abbrev pub MetBelow : List ℕ → Type 0
MetBelow t = (r : ℕ) → get_or t (r * 3) 0 ≤ r

-- the table after the pass, of every list of n nodes whose words the table of statements holds
pub record MetFrames (words : List ℕ) (n : ℕ) (t : List ℕ) : Type 0 where
  pub below : MetBelow t
  pub upto : (ns : List Node) → length ns ≡ n → Worded words ns → MetUpto (facts 0 ns no_openers) t n

-- ---- the links, from the last node to the first

-- the ELSE i of the DOIF o takes the place of the first ELSE so far, which is its next
abbrev pub else_linked : ℕ → ℕ → List ℕ → List ℕ
else_linked i o t = set (set t (i * 3 + 2) (get_or t (o * 3 + 2) 0)) (o * 3 + 2) (suc i)

-- node i with the opening word w, which meets the frame of opener o: an ELSE is linked to the other ELSEs, a closer is
-- that of the frame
unfoldable pub linked_to : ℕ → ℕ → ℕ → List ℕ → List ℕ
linked_to w i zero t = t
linked_to w i (suc o) t = pick (eqb w else_word) (else_linked i o t) (pick (eqb w exit_word || eqb w exitif_word) t (set t (o * 3 + 1) (suc i)))

unfoldable pub linked : ℕ → ℕ → List ℕ → List ℕ
linked w i t = linked_to w i (get_or t (i * 3) 0) t

-- the table of n nodes, the nodes from k on linked
pub record LinkedFrom (F : List Fact) (n : ℕ) (t : List ℕ) (k : ℕ) : Type 0 where
  pub met : (r : ℕ) → r < n → get_or t (r * 3) 0 ≡ met_entry (get_elem? F r)
  pub closers : (r : ℕ) → r < n → get_or t (r * 3 + 1) 0 ≡ next_where (closes_frame r) k F
  pub elses : (r : ℕ) → r < n → get_or t (r * 3 + 2) 0 ≡ else_entry F k r (pick (leb k r) (do_met_of (get_elem? F r)) nothing)
  pub past : (q : ℕ) → n * 3 ≤ q → get_or t q 0 ≡ 0
