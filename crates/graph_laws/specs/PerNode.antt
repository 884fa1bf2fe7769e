-- The lists of Edges, each node's by itself: from what the node meets on the stacks and from where other nodes fall. Assumes nothing.
-- This is the form that code needs which writes one list at a time; PerNodeLaws proves that it is the same.
use Rattle.std.specs.Prelude.{ℕ, zero, suc, List, [], ◌∷◌, ◌++◌, Bool, true, false, ◌||◌, eqb}
use Rattle.std.proofs.Math.Option.{Option, none, some}
use Rattle.std.proofs.Math.ListN.{get_elem?}
use Rattle.listings.specs.Bytes.{same, pick}
use Rattle.listings.specs.Listing.{Name, Slot}
use Rattle.graph.specs.Lists.{each, list}
use Rattle.graph.specs.Nodes.{NodeStmt, Node, Entries}
use Rattle.graph.specs.Targets.{orphan_edges}
use Rattle.graph.specs.Edges.{ForMove, keep_fors, push_for, pop_fors, Move, stays, opens, closes, joins, Moves, node_moves, Stack, loop_stack, do_stack, own}

-- ---- the stacks by their openers, newest first

pub record Openers : Type 0 where
  pub fors : List (Name × ℕ)
  pub loops : List ℕ
  pub dos : List ℕ

unfoldable pub no_openers : Openers
no_openers = record { fors = []; loops = []; dos = [] }

-- the newest FOR of that name, and what lies under it
unfoldable pub find_opener : Name → List (Name × ℕ) → Option (ℕ × List (Name × ℕ))
find_opener v [] = none
find_opener v (f ∷ fs) = pick (same v f.0) (some (f.1, fs)) (find_opener v fs)

unfoldable pub openers_under : List (Name × ℕ) → Option (ℕ × List (Name × ℕ)) → List (Name × ℕ)
openers_under fs none = fs
openers_under fs (some r) = r.1

unfoldable pub opener_found : List (Name × ℕ) → Option (ℕ × List (Name × ℕ)) → Option ℕ × List (Name × ℕ)
opener_found fs none = (none, fs)
opener_found fs (some r) = (some r.0, r.1)

unfoldable pub pop_opener : Slot → List (Name × ℕ) → Option ℕ × List (Name × ℕ)
pop_opener none [] = (none, [])
pop_opener none (f ∷ fs) = (some f.1, fs)
pop_opener (some v) fs = opener_found fs (find_opener v fs)

unfoldable pub openers_popped : List Slot → List (Name × ℕ) → List ℕ
openers_popped [] fs = []
openers_popped (s ∷ ss) fs = let r = pop_opener s fs in list r.0 ++ openers_popped ss r.1

unfoldable pub openers_left : List Slot → List (Name × ℕ) → List (Name × ℕ)
openers_left [] fs = fs
openers_left (s ∷ ss) fs = openers_left ss (pop_opener s fs).1

-- after node i
unfoldable pub for_openers_after : ℕ → ForMove → List (Name × ℕ) → List (Name × ℕ)
for_openers_after i keep_fors fs = fs
for_openers_after i (push_for v) fs = (v, i) ∷ openers_under fs (find_opener v fs)
for_openers_after i (pop_fors ss) fs = openers_left ss fs

unfoldable pub openers_after : ℕ → Move → List ℕ → List ℕ
openers_after i stays os = os
openers_after i opens os = i ∷ os
openers_after i closes [] = []
openers_after i closes (o ∷ os) = os
openers_after i joins os = os

unfoldable pub after : ℕ → Moves → Openers → Openers
after i m st = record { fors = for_openers_after i m.fors st.fors; loops = openers_after i m.loops st.loops; dos = openers_after i m.dos st.dos }

-- ---- what a node meets

-- the opener of the frame that it closes or joins
pub data Met : Type 0 where
  nothing : Met
  closing joining : ℕ → Met

unfoldable pub meets : Move → List ℕ → Met
meets stays os = nothing
meets opens os = nothing
meets closes [] = nothing
meets closes (o ∷ os) = closing o
meets joins [] = nothing
meets joins (o ∷ os) = joining o

-- the FORs that a NEXT pops
unfoldable pub pops : ForMove → List (Name × ℕ) → List ℕ
pops keep_fors fs = []
pops (push_for v) fs = []
pops (pop_fors ss) fs = openers_popped ss fs

pub record Fact : Type 0 where
  pub stmt : NodeStmt
  pub fall : Option ℕ
  pub popped : List ℕ
  pub loop_met : Met
  pub do_met : Met

unfoldable pub fact_of : Node → Openers → Fact
fact_of n st =
    let m = node_moves n.stmt in
    record { stmt = n.stmt; fall = n.fall; popped = pops m.fors st.fors; loop_met = meets m.loops st.loops; do_met = meets m.dos st.dos }

-- the facts of the nodes from i on
unfoldable pub facts : ℕ → List Node → Openers → List Fact
facts i [] st = []
facts i (n ∷ ns) st = fact_of n st ∷ facts (suc i) ns (after i (node_moves n.stmt) st)

-- ---- a node's list

unfoldable pub move_on : Stack → Moves → Move
move_on loop_stack m = m.loops
move_on do_stack m = m.dos

unfoldable pub met_on : Stack → Fact → Met
met_on loop_stack f = f.loop_met
met_on do_stack f = f.do_met

unfoldable pub is_closing : ℕ → Met → Bool
is_closing o nothing = false
is_closing o (closing p) = eqb o p
is_closing o (joining p) = false

unfoldable pub is_joining : ℕ → Met → Bool
is_joining o nothing = false
is_joining o (closing p) = false
is_joining o (joining p) = eqb o p

-- where the nodes fall that pass a test of what they meet
unfoldable pub falls_where : Stack → (Met → Bool) → List Fact → List ℕ
falls_where k p [] = []
falls_where k p (f ∷ fs) = pick (p (met_on k f)) (list f.fall ++ falls_where k p fs) (falls_where k p fs)

unfoldable pub some_where : Stack → (Met → Bool) → List Fact → Bool
some_where k p [] = false
some_where k p (f ∷ fs) = p (met_on k f) || some_where k p fs

-- where node i falls
unfoldable pub fall_of : Option Fact → List ℕ
fall_of none = []
fall_of (some f) = list f.fall

unfoldable pub fall_at : List Fact → ℕ → List ℕ
fall_at fs i = fall_of (get_elem? fs i)

-- the body of the loop that a node closes: where its opener falls
unfoldable pub body_met : List Fact → Met → Option (List ℕ)
body_met fs nothing = none
body_met fs (closing o) = some (fall_at fs o)
body_met fs (joining o) = none

-- where the closer of the frame falls that a node has joined
unfoldable pub closer_fall : Stack → List Fact → Met → List ℕ
closer_fall k fs nothing = []
closer_fall k fs (closing o) = []
closer_fall k fs (joining o) = falls_where k (is_closing o) fs

-- a DOIF goes where its ELSEs fall; where its DONE falls if it has none
unfoldable pub doif_falls : List Fact → ℕ → List ℕ
doif_falls fs i = pick (some_where do_stack (is_joining i) fs) (falls_where do_stack (is_joining i) fs) (falls_where do_stack (is_closing i) fs)

-- what later nodes add to node i's list
unfoldable pub late : Stack → List Fact → ℕ → Move → Met → List ℕ
late k fs i joins m = closer_fall k fs m
late do_stack fs i opens m = doif_falls fs i
late loop_stack fs i opens m = []
late k fs i stays m = []
late k fs i closes m = []

unfoldable pub per_node : Entries → List (Name × ℕ) → List Fact → ℕ → Fact → List ℕ
per_node es ds fs i f =
    let m = node_moves f.stmt in
    own es f.stmt f.fall (each (fall_at fs) f.popped) (body_met fs f.loop_met)
    ++ (late loop_stack fs i m.loops f.loop_met
    ++ (late do_stack fs i m.dos f.do_met
    ++ orphan_edges ds f.stmt))
