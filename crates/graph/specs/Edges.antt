-- The edges of a listing in the order in which the rules add them (document 01, "Port order and rules"), RETURN's left out. Assumes nothing.
-- "Statements are wired in reading order, with one set of stacks for the whole listing."
use Rattle.std.specs.Prelude.{ℕ, zero, suc, List, [], ◌∷◌, ◌++◌, map, Bool, true, false, eqb}
use Rattle.std.proofs.Math.Option.{Option, none, some}
use Rattle.listings.specs.Bytes.{same, pick}
use Rattle.listings.specs.Listing.{Name, Slot, BlockWord, repeat, loop, until, endloop, exit, exitif, doif, else, done, BareWord, return, run, clr, stop, any, Simple, jump, on, for, next, block, bare}
use Rattle.graph.specs.Lists.{each, list}
use Rattle.graph.specs.Nodes.{NodeStmt, simple, cond, Node, Entries, entry_of}
use Rattle.graph.specs.Targets.{target_entries, branch_edges, dispatch_targets, orphan_edges}

-- ---- the three stacks, newest frame first

-- a frame of the FOR stack: its name, the FOR, its body ("that node, if any")
pub record ForFrame : Type 0 where
  pub name : Name
  pub opener : ℕ
  pub body : Option ℕ

-- a frame of the loop stack or of the DO stack: REPEAT, LOOP or DOIF, where that falls, and the EXITs or ELSEs that have joined it
pub record Frame : Type 0 where
  pub opener : ℕ
  pub body : Option ℕ
  pub joined : List ℕ

pub record Stacks : Type 0 where
  pub fors : List ForFrame
  pub loops : List Frame
  pub dos : List Frame

unfoldable pub empty_stacks : Stacks
empty_stacks = record { fors = []; loops = []; dos = [] }

-- what a statement does to the FOR stack, and to each of the others
pub data ForMove : Type 0 where
  keep_fors : ForMove
  push_for : Name → ForMove
  pop_fors : List Slot → ForMove

pub data Move : Type 0 where
  stays opens closes joins : Move

pub record Moves : Type 0 where
  pub fors : ForMove
  pub loops : Move
  pub dos : Move

unfoldable pub no_moves : Moves
no_moves = record { fors = keep_fors; loops = stays; dos = stays }

unfoldable pub on_fors : ForMove → Moves
on_fors m = record { fors = m; loops = stays; dos = stays }

pub data Stack : Type 0 where
  loop_stack do_stack : Stack

unfoldable pub on_stack : Stack → Move → Moves
on_stack loop_stack m = record { fors = keep_fors; loops = m; dos = stays }
on_stack do_stack m = record { fors = keep_fors; loops = stays; dos = m }

-- ---- the words of loops and DOs: the stack that each moves, how, and whether it falls

pub record BlockRule : Type 0 where
  pub stack : Stack
  pub move : Move
  pub falls : Bool

unfoldable pub falling : Stack → Move → BlockRule
falling s m = record { stack = s; move = m; falls = true }

unfoldable pub not_falling : Stack → Move → BlockRule
not_falling s m = record { stack = s; move = m; falls = false }

unfoldable pub rule_of : BlockWord → BlockRule
unfolding falling not_falling
-- "REPEAT and LOOP fall and open a frame on one shared stack"
rule_of repeat = falling loop_stack opens
rule_of loop = falling loop_stack opens
-- "EXIT adds nothing, EXITIF falls; both join the top frame, if any"
rule_of exit = not_falling loop_stack joins
rule_of exitif = falling loop_stack joins
-- "UNTIL: body, then falls; ENDLOOP: body only"
rule_of until = falling loop_stack closes
rule_of endloop = not_falling loop_stack closes
-- "DOIF falls and opens a frame. Each ELSE joins the jumps .. DONE falls"
rule_of doif = falling do_stack opens
rule_of else = not_falling do_stack joins
rule_of done = falling do_stack closes

-- ---- what a statement does to the stacks

unfoldable pub moves_of : Simple → Moves
unfolding rule_of on_stack
moves_of (for v t) = on_fors (push_for v)
moves_of (next m ss) = on_fors (pop_fors ss)
moves_of (block w) = let r = rule_of w in on_stack r.stack r.move
moves_of (jump w t) = no_moves
moves_of (on w ts) = no_moves
moves_of (bare w) = no_moves

unfoldable pub node_moves : NodeStmt → Moves
node_moves (simple o) = moves_of o
node_moves (cond w a b) = no_moves

-- the newest frame of that name, and the frames under it
unfoldable pub find_for : Name → List ForFrame → Option (ForFrame × List ForFrame)
find_for v [] = none
find_for v (f ∷ fs) = pick (same v f.name) (some (f, fs)) (find_for v fs)

-- FOR: "after dropping its own older frame and all above"
unfoldable pub under_or : List ForFrame → Option (ForFrame × List ForFrame) → List ForFrame
under_or fs none = fs
under_or fs (some r) = r.1

-- NEXT, one slot: "`*` pops the top; a name pops down to its frame, if any": the popped frame, and the frames that are left
unfoldable pub found_or : List ForFrame → Option (ForFrame × List ForFrame) → Option ForFrame × List ForFrame
found_or fs none = (none, fs)
found_or fs (some r) = (some r.0, r.1)

unfoldable pub pop_for : Slot → List ForFrame → Option ForFrame × List ForFrame
pop_for none [] = (none, [])
pop_for none (f ∷ fs) = (some f, fs)
pop_for (some v) fs = found_or fs (find_for v fs)

unfoldable pub popped : List Slot → List ForFrame → List (Option ForFrame)
popped [] fs = []
popped (s ∷ ss) fs = let r = pop_for s fs in r.0 ∷ popped ss r.1

unfoldable pub left : List Slot → List ForFrame → List ForFrame
left [] fs = fs
left (s ∷ ss) fs = left ss (pop_for s fs).1

-- each stack after node i, which falls to e
unfoldable pub fors_after : ℕ → Option ℕ → ForMove → List ForFrame → List ForFrame
fors_after i e keep_fors fs = fs
fors_after i e (push_for v) fs = record { name = v; opener = i; body = e } ∷ under_or fs (find_for v fs)
fors_after i e (pop_fors ss) fs = left ss fs

unfoldable pub frames_after : ℕ → Option ℕ → Move → List Frame → List Frame
frames_after i e stays fs = fs
frames_after i e opens fs = record { opener = i; body = e; joined = [] } ∷ fs
frames_after i e closes [] = []
frames_after i e closes (f ∷ fs) = fs
frames_after i e joins [] = []
frames_after i e joins (f ∷ fs) = record { opener = f.opener; body = f.body; joined = f.joined ++ (i ∷ []) } ∷ fs

unfoldable pub stacks_after : ℕ → Option ℕ → Moves → Stacks → Stacks
stacks_after i e m st = record { fors = fors_after i e m.fors st.fors; loops = frames_after i e m.loops st.loops; dos = frames_after i e m.dos st.dos }

-- ---- what a statement adds to its own list

-- the bodies of the frames that a NEXT pops, in the order of its slots
unfoldable pub frame_body : Option ForFrame → List ℕ
frame_body none = []
frame_body (some f) = list f.body

unfoldable pub popped_bodies : ForMove → List ForFrame → List ℕ
popped_bodies keep_fors fs = []
popped_bodies (push_for v) fs = []
popped_bodies (pop_fors ss) fs = each frame_body (popped ss fs)

-- the body of the loop frame that a closer closes, where there is a frame
unfoldable pub closed_body : Move → List Frame → Option (List ℕ)
closed_body closes [] = none
closed_body closes (f ∷ fs) = some (list f.body)
closed_body stays fs = none
closed_body opens fs = none
closed_body joins fs = none

-- "UNTIL, ENDLOOP .. without a frame add nothing": the body, then l
unfoldable pub closer_edges : Option (List ℕ) → List ℕ → List ℕ
closer_edges none l = []
closer_edges (some b) l = b ++ l

-- a word of a loop or a DO; l: where it falls, if it does; b: the body of the loop that it closes
unfoldable pub own_block : Stack → Move → List ℕ → Option (List ℕ) → List ℕ
own_block loop_stack closes l b = closer_edges b l
own_block loop_stack stays l b = l
own_block loop_stack opens l b = l
own_block loop_stack joins l b = l
own_block do_stack m l b = l

-- es: the line entries; e: where it falls; bs: the bodies that a NEXT pops; b: the body of the loop that it closes
unfoldable pub own_simple : Entries → Simple → Option ℕ → List ℕ → Option (List ℕ) → List ℕ
-- "`plain` and CLR fall. GOTO, GOSUB, RUN with a number: target only. ON: targets, then falls. RUN without number: the first line's entry. STOP: none. `any`: all line entries, ascending."
own_simple es (bare BareWord.plain) e bs b = list e
own_simple es (bare clr) e bs b = list e
own_simple es (jump w t) e bs b = list (entry_of es t)
own_simple es (on w ts) e bs b = target_entries es ts ++ list e
own_simple es (bare run) e bs b = list es.first
own_simple es (bare stop) e bs b = []
own_simple es (bare any) e bs b = es.all
-- "FOR falls and pushes a frame"; NEXT: "the popped body is added; last it falls"
own_simple es (for v t) e bs b = list e
own_simple es (next m ss) e bs b = bs ++ list e
-- the words of loops and DOs, by their rules
own_simple es (block w) e bs b = let r = rule_of w in own_block r.stack r.move (pick r.falls (list e) []) b
-- RETURN's list is in Graph
own_simple es (bare return) e bs b = []

-- "IF: branch, then falls. IFELSE, RCOMP: each branch; RCOMP with one branch also falls." (a branch that is absent falls)
unfoldable pub own : Entries → NodeStmt → Option ℕ → List ℕ → Option (List ℕ) → List ℕ
own es (simple o) e bs b = own_simple es o e bs b
own es (cond w t u) e bs b = branch_edges es e t ++ branch_edges es e u

-- ---- what a statement adds to the lists of others: the nodes that it sends to where it falls

-- "DONE .. sends the jumps there, and the DOIF too if no ELSE was seen"
unfoldable pub jumps_or : ℕ → List ℕ → List ℕ
jumps_or o [] = o ∷ []
jumps_or o (j ∷ js) = j ∷ js

unfoldable pub sent : Stack → Move → List Frame → List ℕ
-- "Either closer sends the frame's EXITs to where it falls."
sent loop_stack closes [] = []
sent loop_stack closes (f ∷ fs) = f.joined
sent loop_stack joins fs = []
-- "Each ELSE joins the jumps and sends the DOIF to where the ELSE falls."
sent do_stack closes [] = []
sent do_stack closes (f ∷ fs) = jumps_or f.opener f.joined
sent do_stack joins [] = []
sent do_stack joins (f ∷ fs) = f.opener ∷ []
sent k stays fs = []
sent k opens fs = []

-- ---- all edges

-- from a node, to a node
abbrev pub Edge : Type 0
Edge = ℕ × ℕ

unfoldable pub from_node : ℕ → List ℕ → List Edge
from_node i l = map (λ t. (i, t)) l

unfoldable pub to_fall : List ℕ → Option ℕ → List Edge
to_fall l none = []
to_fall l (some t) = map (λ i. (i, t)) l

-- the edges that the statements from node i on add
unfoldable pub wired : Entries → ℕ → List Node → Stacks → List Edge
wired es i [] st = []
wired es i (n ∷ ns) st =
    let m = node_moves n.stmt in
    from_node i (own es n.stmt n.fall (popped_bodies m.fors st.fors) (closed_body m.loops st.loops))
    ++ (to_fall (sent loop_stack m.loops st.loops) n.fall
    ++ (to_fall (sent do_stack m.dos st.dos) n.fall
    ++ wired es (suc i) ns (stacks_after i n.fall m st)))

unfoldable pub orphans : List (Name × ℕ) → ℕ → List Node → List Edge
orphans ds i [] = []
orphans ds i (n ∷ ns) = from_node i (orphan_edges ds n.stmt) ++ orphans ds (suc i) ns

-- "Then each orphan NEXT"
unfoldable pub edges : Entries → List Node → List Edge
edges es ns = wired es 0 ns empty_stacks ++ orphans (dispatch_targets ns) 0 ns

-- where the edges from node i lead, in their order
unfoldable pub ends : ℕ → List Edge → List ℕ
ends i [] = []
ends i (d ∷ ds) = pick (eqb i d.0) (d.1 ∷ ends i ds) (ends i ds)
