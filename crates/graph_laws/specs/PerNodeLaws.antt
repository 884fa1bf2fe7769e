-- Each node's list by itself, PerNode, is its list by the rules, Edges. Assumes nothing.
use Prim.Native.Nat.{ℕ, zero, suc, ◌+◌, ◌<◌, ◌≤◌}
use Rattle.std.proofs.Math.Path.{◌≡◌, refl, ap}
use Rattle.std.proofs.Common.{sym, ◌∙◌, zero-add}
use mathlib.Core.List.{List, [], ◌∷◌, ◌++◌, map, append_assoc, append-nil}
use Rattle.std.specs.Prelude.{◌⊎◌, length}
use Rattle.std.proofs.Math.Logic.{inl, inr}
use Rattle.std.proofs.Math.Option.{Option, none, some}
use native.Mathlib.Omega.{arith}
use Rattle.std.proofs.Math.Nat.{add-zero}
use Rattle.std.proofs.Math.ListN.{get_elem?}
use borrow.Author.Tests.{ne_eqb, eq-eqb}
use Rattle.listings.specs.Listing.{Name, Simple, jump, on, for, next, block, bare}
use Rattle.graph.specs.Lists.{each, list}
use Rattle.graph.specs.Nodes.{NodeStmt, simple, cond, Node, Entries}
use Rattle.graph.specs.Targets.{dispatch_targets, orphan_edges}
use Rattle.listings.specs.Every.{All, all[], all∷}
use Rattle.graph.specs.Edges.{Frame, Stacks, empty_stacks, Move, stays, opens, closes, joins, Moves, on_fors, on_stack, rule_of, no_moves, moves_of, node_moves, frames_after, stacks_after, popped_bodies, closed_body, own, Stack, loop_stack, do_stack, sent, Edge, from_node, to_fall, wired, orphans, edges, ends}
use Rattle.graph_laws.specs.PerNode.{Openers, no_openers, openers_after, after, meets, pops, Fact, fact_of, facts, move_on, met_on, fall_of, fall_at, body_met, per_node}
use Rattle.graph_laws.specs.EdgeLaws.{Outside, out_head, out_tail, ends-append, ends-own, ends-other}
use Rattle.graph_laws.specs.StackLaws.{opener_of, all_after, openers_after_lem, desc[], Unknown, unknown_after, never_sent, Turns, end, turn, idle, closing_law}
use Rattle.graph_laws.specs.ForLaws.{frame_at, fors_after_lem, bodies_law}

pub length-facts : (i : ℕ) (ns : List Node) (st : Openers) → length (facts i ns st) ≡ length ns
unfolding facts
length-facts i [] st = refl
length-facts i (n ∷ ns) st = ap suc (length-facts (suc i) ns (after i (node_moves n.stmt) st))

-- ---- the edges that one stack sends
unfoldable later : Stack → ℕ → List Node → List Frame → List Edge
later s k [] fs = []
later s k (n ∷ ns) fs = let m = move_on s (node_moves n.stmt) in to_fall (sent s m fs) n.fall ++ later s (suc k) ns (frames_after k n.fall m fs)

abbrev openers_on : Stack → Openers → List ℕ
openers_on loop_stack os = os.loops
openers_on do_stack os = os.dos

met_law : (s : Stack) (n : Node) (os : Openers) (fs : List Frame) → map opener_of fs ≡ openers_on s os → met_on s (fact_of n os) ≡ meets (move_on s (node_moves n.stmt)) (map opener_of fs)
unfolding met_on fact_of move_on
met_law loop_stack n os fs h = rw h
met_law do_stack n os fs h = rw h

after_law : (s : Stack) (k : ℕ) (m : Moves) (os : Openers) → openers_on s (after k m os) ≡ openers_after k (move_on s m) (openers_on s os)
unfolding after move_on
after_law loop_stack k m os = refl
after_law do_stack k m os = refl

turns_of : (s : Stack) (k : ℕ) (ns : List Node) (os : Openers) (fs : List Frame) → map opener_of fs ≡ openers_on s os → Turns s k fs (facts k ns os) (later s k ns fs)
unfolding facts later fact_of
turns_of s k [] os fs h = end
turns_of s k (n ∷ ns) os fs h =
    let m = node_moves n.stmt in
    turn (move_on s m) refl (met_law s n os fs h)
    (turns_of s (suc k) ns (after k m os) (frames_after k n.fall (move_on s m) fs) (openers_after_lem k n.fall (move_on s m) fs ∙ ap (openers_after k (move_on s m)) h ∙ sym (after_law s k m os)))

-- a statement moves one of the two stacks at most
one_of : (s : Stack) (m : Move) → ((on_stack s m).loops ≡ stays) ⊎ ((on_stack s m).dos ≡ stays)
unfolding on_stack
one_of loop_stack m = inr refl
one_of do_stack m = inl refl

one_stack : (o : Simple) → ((moves_of o).loops ≡ stays) ⊎ ((moves_of o).dos ≡ stays)
unfolding moves_of on_fors no_moves
one_stack (for v t) = inl refl
one_stack (next m ss) = inl refl
one_stack (block w) = let r = rule_of w in one_of r.stack r.move
one_stack (jump w t) = inl refl
one_stack (on w ts) = inl refl
one_stack (bare w) = inl refl

module _ (i : ℕ) where
  -- frames that do not know node i send it nowhere
  none-later : (s : Stack) (k : ℕ) (ns : List Node) (fs : List Frame) → Outside i k (length ns) → Unknown s i fs → ends i (later s k ns fs) ≡ []
  none-later s k ns fs o u =
      let os : Openers = record { fors = []; loops = map opener_of fs; dos = map opener_of fs } in
      idle s i k (turns_of s k ns os fs (same s)) (rw (length-facts k ns os) o) u
    where
      same : (s : Stack) → map opener_of fs ≡ openers_on s (record { fors = []; loops = map opener_of fs; dos = map opener_of fs })
      same loop_stack = refl
      same do_stack = refl

  later_pass : (s : Stack) (k : ℕ) (n : Node) (ns : List Node) (fs : List Frame) → Unknown s i fs
      → ends i (later s k (n ∷ ns) fs) ≡ ends i (later s (suc k) ns (frames_after k n.fall (move_on s (node_moves n.stmt)) fs))
  unfolding later
  later_pass s k n ns fs u = rw (ends-append, never_sent s i (move_on s (node_moves n.stmt)) u n.fall)

  -- after node i's turn one of the two stacks does not know it
  moved-one : (n : NodeStmt) (k : ℕ) (e : Option ℕ) (st : Stacks) → Unknown loop_stack i st.loops → Unknown do_stack i st.dos
      → let t = stacks_after k e (node_moves n) st in Unknown loop_stack i t.loops ⊎ Unknown do_stack i t.dos
  unfolding node_moves stacks_after frames_after no_moves
  moved-one (cond w a b) k e st u v = inl u
  moved-one (simple o) k e st u v = elim (one_stack o) [ inl h ↦ inl (rw h u) | inr h ↦ inr (rw h v) ]

  -- ---- orphans
  orphans-outside : (ds : List (Name × ℕ)) (k : ℕ) (ns : List Node) → Outside i k (length ns) → ends i (orphans ds k ns) ≡ []
  unfolding orphans ends
  orphans-outside ds k [] o = refl
  orphans-outside ds k (n ∷ ns) o =
      rw (ends-append, ends-other i k (orphan_edges ds n.stmt) (out_head i k (length ns) o)) (orphans-outside ds (suc k) ns (out_tail i k (length ns) o))

  orphans_law : (ds : List (Name × ℕ)) (k : ℕ) (ns : List Node) (os : Openers) (j : ℕ) (f : Fact) → k + j ≡ i → get_elem? (facts k ns os) j ≡ some f → ends i (orphans ds k ns) ≡ orphan_edges ds f.stmt
  unfolding orphans ends facts fact_of
  orphans_law ds k [] os j f z at = absurd (let y : ◌≡◌ {A = ℕ} 0 1 = cc in omega arith)
  orphans_law ds k (n ∷ ns) os zero f z at =
      let same : n.stmt ≡ f.stmt = cc in
      rw (ends-append, ends-own i k (orphan_edges ds n.stmt) (eq-eqb i k (omega arith)), orphans-outside ds (suc k) ns (inl (omega arith)), append-nil, same)
  orphans_law ds k (n ∷ ns) os (suc j) f z at =
      rw (ends-append, ends-other i k (orphan_edges ds n.stmt) (ne_eqb i k (λ e. omega arith))) (orphans_law ds (suc k) ns (after k (node_moves n.stmt) os) j f (omega arith) at)

-- what a node adds to its own list
abbrev own_edges : Entries → Node → Stacks → List ℕ
own_edges es n st = let m = node_moves n.stmt in own es n.stmt n.fall (popped_bodies m.fors st.fors) (closed_body m.loops st.loops)

abbrev other : Stack → Stack
other loop_stack = do_stack
other do_stack = loop_stack

abbrev frames_on : Stack → Stacks → List Frame
frames_on loop_stack st = st.loops
frames_on do_stack st = st.dos

frames_after_lem : (s : Stack) (k : ℕ) (e : Option ℕ) (m : Moves) (st : Stacks) → frames_on s (stacks_after k e m st) ≡ frames_after k e (move_on s m) (frames_on s st)
unfolding stacks_after move_on
frames_after_lem loop_stack k e m st = refl
frames_after_lem do_stack k e m st = refl

module _ (es : Entries) (i : ℕ) where
  abbrev rest : ℕ → Node → List Node → Stacks → List Edge
  rest k n ns st = wired es (suc k) ns (stacks_after k n.fall (node_moves n.stmt) st)

  abbrev sent_by : Stack → Node → List Frame → List ℕ
  sent_by s n fs = ends i (to_fall (sent s (move_on s (node_moves n.stmt)) fs) n.fall)

  wired_turn : (k : ℕ) (n : Node) (ns : List Node) (st : Stacks) → ends i (wired es k (n ∷ ns) st)
      ≡ ends i (from_node k (own_edges es n st)) ++ (sent_by loop_stack n st.loops ++ (sent_by do_stack n st.dos ++ ends i (rest k n ns st)))
  unfolding wired move_on
  wired_turn k n ns st = simp ends-append

  wired_pass : (k : ℕ) (n : Node) (ns : List Node) (st : Stacks) → Unknown loop_stack i st.loops → Unknown do_stack i st.dos
      → ends i (wired es k (n ∷ ns) st) ≡ ends i (from_node k (own_edges es n st)) ++ ends i (rest k n ns st)
  wired_pass k n ns st u v =
      wired_turn k n ns st ∙ rw (never_sent loop_stack i (move_on loop_stack (node_moves n.stmt)) u n.fall, never_sent do_stack i (move_on do_stack (node_moves n.stmt)) v n.fall)

  -- where the other stack does not know node i, stack s sends it
  one_sends : (s : Stack) (n : Node) (st : Stacks) (W : List ℕ) → Unknown (other s) i (frames_on (other s) st)
      → sent_by loop_stack n st.loops ++ (sent_by do_stack n st.dos ++ W) ≡ sent_by s n (frames_on s st) ++ W
  one_sends loop_stack n st W u = rw (never_sent do_stack i (move_on do_stack (node_moves n.stmt)) u n.fall)
  one_sends do_stack n st W u = rw (never_sent loop_stack i (move_on loop_stack (node_moves n.stmt)) u n.fall)

  one_only : (s : Stack) (k : ℕ) (ns : List Node) (st : Stacks) → Outside i k (length ns) → Unknown (other s) i (frames_on (other s) st) → ends i (wired es k ns st) ≡ ends i (later s k ns (frames_on s st))
  unfolding wired later
  one_only s k [] st o u = refl
  one_only s k (n ∷ ns) st o u =
      let m = node_moves n.stmt in
      let h = out_head i k (length ns) o in
      let v = unknown_after (other s) i k n.fall (move_on (other s) m) h u in
      wired_turn k n ns st
      ∙ rw (
        ends-other i k (own_edges es n st) h,
        one_sends s n st (ends i (rest k n ns st)) u,
        ends-append,
        one_only s (suc k) ns (stacks_after k n.fall m st) (out_tail i k (length ns) o) (rw (frames_after_lem (other s) k n.fall m st) v),
        frames_after_lem s k n.fall m st,
      )

  after-own : (k : ℕ) (ns : List Node) (st : Stacks) → i < k → Unknown loop_stack i st.loops ⊎ Unknown do_stack i st.dos
      → ends i (wired es k ns st) ≡ ends i (later loop_stack k ns st.loops) ++ ends i (later do_stack k ns st.dos)
  after-own k ns st h (inl u) = one_only do_stack k ns st (inl h) u ∙ rw (none-later i loop_stack k ns st.loops (inl h) u)
  after-own k ns st h (inr u) = one_only loop_stack k ns st (inl h) u ∙ rw (none-later i do_stack k ns st.dos (inl h) u, append-nil)

-- ---- F: all facts; the body of a frame is where its opener falls
abbrev fall_in : Option Fact → Option ℕ
fall_in none = none
fall_in (some f) = f.fall

module _ (F : List Fact) where
  abbrev body_at : ℕ → Option ℕ
  body_at o = fall_in (get_elem? F o)

  body_fall : (o : ℕ) → list (body_at o) ≡ fall_at F o
  unfolding fall_at fall_of list
  body_fall o = go (get_elem? F o)
    where
      go : (x : Option Fact) → list (fall_in x) ≡ fall_of x
      go none = refl
      go (some f) = refl

  -- the openers of PerNode are those of the stacks' frames
  record Agrees (os : Openers) (st : Stacks) : Type 0 where
    fors : st.fors ≡ map (frame_at body_at) os.fors
    loops : map opener_of st.loops ≡ os.loops
    bodies : All (λ (f : Frame). f.body ≡ body_at f.opener) st.loops

  agrees_after : (k : ℕ) (e : Option ℕ) (m : Moves) (os : Openers) (st : Stacks) → body_at k ≡ e → Agrees os st → Agrees (after k m os) (stacks_after k e m st)
  unfolding after stacks_after
  agrees_after k e m os st h a = record {
    fors = rw a.fors (fors_after_lem body_at k e m.fors os.fors h);
    loops = openers_after_lem k e m.loops st.loops ∙ rw a.loops;
    bodies = all_after k e (sym h) (λ f p. p) m.loops a.bodies;
  }

  closed_law : (m : Move) {fs : List Frame} → All (λ (f : Frame). f.body ≡ body_at f.opener) fs → closed_body m fs ≡ body_met F (meets m (map opener_of fs))
  unfolding closed_body body_met meets
  closed_law stays b = refl
  closed_law opens b = refl
  closed_law joins all[] = refl
  closed_law joins (all∷ p b) = refl
  closed_law closes all[] = refl
  closed_law closes (all∷ {a = f} p b) = rw p (ap some (body_fall f.opener))

  own_law : (es : Entries) (n : Node) (os : Openers) (st : Stacks) → Agrees os st
      → let f = fact_of n os in own_edges es n st ≡ own es f.stmt f.fall (each (fall_at F) f.popped) (body_met F f.loop_met)
  unfolding fact_of
  own_law es n os st a =
      let m = node_moves n.stmt in
      rw (a.fors, bodies_law body_at m.fors os.fors, closed_law m.loops a.bodies, a.loops)
      (λ t. own es n.stmt n.fall (each (λ o. body_fall o t) (pops m.fors os.fors)) (body_met F (meets m.loops os.loops)))

  -- from k on F has the facts of the nodes ns
  abbrev From : ℕ → List Node → Openers → Type 0
  From k ns os = (j : ℕ) → get_elem? F (k + j) ≡ get_elem? (facts k ns os) j

  from_head : (k : ℕ) (n : Node) (ns : List Node) (os : Openers) → From k (n ∷ ns) os → body_at k ≡ n.fall
  unfolding facts fact_of
  from_head k n ns os h = ap fall_in (rw add-zero at (h 0))

  from_tail : (k : ℕ) (n : Node) (ns : List Node) (os : Openers) → From k (n ∷ ns) os → From (suc k) ns (after k (node_moves n.stmt) os)
  unfolding facts
  from_tail k n ns os h j = let z : k + suc j ≡ suc k + j = omega arith in rw z at (h (suc j))

  -- ---- node i's own list and what each stack sends it
  module _ (es : Entries) (i : ℕ) (f : Fact) where
    abbrev own_list : List ℕ
    own_list = own es f.stmt f.fall (each (fall_at F) f.popped) (body_met F f.loop_met)

    walk : (k : ℕ) (ns : List Node) (os : Openers) (st : Stacks) → From k ns os → Agrees os st → Unknown loop_stack i st.loops → Unknown do_stack i st.dos
        → (j : ℕ) → k + j ≡ i → get_elem? (facts k ns os) j ≡ some f
        → ends i (wired es k ns st) ≡ own_list ++ (ends i (later loop_stack k ns st.loops) ++ ends i (later do_stack k ns st.dos))
    unfolding facts stacks_after move_on
    walk k [] os st t a u v j z at = absurd (let y : ◌≡◌ {A = ℕ} 0 1 = cc in omega arith)
    walk k (n ∷ ns) os st t a u v zero z at =
        let m = node_moves n.stmt in
        let same : fact_of n os ≡ f = cc in
        wired_pass es i k n ns st u v
        ∙ rw (
          ends-own i k (own_edges es n st) (eq-eqb i k (omega arith)),
          own_law es n os st a,
          same,
          after-own es i (suc k) ns (stacks_after k n.fall m st) (omega arith) (moved-one i n.stmt k n.fall st u v),
          later_pass i loop_stack k n ns st.loops u,
          later_pass i do_stack k n ns st.dos v,
        )
    walk k (n ∷ ns) os st t a u v (suc j) z at =
        let m = node_moves n.stmt in
        let e = ne_eqb i k (λ q. omega arith) in
        wired_pass es i k n ns st u v ∙ rw (ends-other i k (own_edges es n st) e)
        (walk (suc k) ns (after k m os) (stacks_after k n.fall m st) (from_tail k n ns os t) (agrees_after k n.fall m os st (from_head k n ns os t) a)
        (unknown_after loop_stack i k n.fall m.loops e u) (unknown_after do_stack i k n.fall m.dos e v) j (omega arith) at
        ∙ rw (later_pass i loop_stack k n ns st.loops u, later_pass i do_stack k n ns st.dos v))

-- the list by the rules is the list by itself
pub per_node_lem : (es : Entries) (ns : List Node) (i : ℕ) (f : Fact) → get_elem? (facts 0 ns no_openers) i ≡ some f
    → ends i (edges es ns) ≡ per_node es (dispatch_targets ns) (facts 0 ns no_openers) i f
unfolding edges per_node empty_stacks no_openers move_on met_on
per_node_lem es ns i f at =
    let F = facts 0 ns no_openers in
    let z : 0 + i ≡ i = omega arith in
    let own-and-closing = walk F es i f 0 ns no_openers empty_stacks (λ j. rw zero-add) (record { fors = refl; loops = refl; bodies = all[] }) all[] all[] i z at in
    let loop_closing = closing_law loop_stack i 0 (turns_of loop_stack 0 ns no_openers [] refl) desc[] all[] i f z at in
    let do_closing = closing_law do_stack i 0 (turns_of do_stack 0 ns no_openers [] refl) desc[] all[] i f z at in
    rw (ends-append, own-and-closing, loop_closing, do_closing, orphans_law i (dispatch_targets ns) 0 ns no_openers i f z at) (simp append_assoc)

-- there are no edges from elsewhere
pub no_edges : (es : Entries) (ns : List Node) (i : ℕ) → length ns ≤ i → ends i (edges es ns) ≡ []
unfolding edges empty_stacks
no_edges es ns i h =
    let o : Outside i 0 (length ns) = inr (omega arith) in
    rw (ends-append, one_only es i loop_stack 0 ns empty_stacks o all[], none-later i loop_stack 0 ns [] o all[]) (orphans-outside i (dispatch_targets ns) 0 ns o)
