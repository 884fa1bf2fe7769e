-- Every edge leads to a node: the targets of all edges are below the node count. Assumes nothing.
use Rattle.std.specs.Prelude.{ℕ, zero, suc, ◌<◌, ◌≡◌, refl, Bool, eqb}
use mathlib.Core.List.{List, [], ◌∷◌, ◌++◌, map}
use Rattle.std.proofs.Math.Bool.{true, false}
use Rattle.std.proofs.Math.Option.{Option, none, some}
use Rattle.listings.specs.Bytes.{same, pick}
use Rattle.listings.specs.Listing.{Name, Tier, static, framed, dispatched, Mark, orphan, Slot, BareWord, return, run, clr, stop, any, Simple, jump, on, for, next, block, bare}
use Rattle.graph.specs.Lists.{has, add, add_all, each, list}
use Rattle.listings.specs.Every.{All, all[], all∷, all_append}
use Rattle.graph_laws.specs.Members.{all-each}
use Rattle.graph.specs.Nodes.{BranchTarget, to_line, to_node, falls, NodeStmt, simple, cond, Node, Entries, entry_of}
use Rattle.graph_laws.specs.NodeLaws.{Below, BelowTarget, BelowStmt, NodeFits, EntriesFit, entry_fits}
use Rattle.graph.specs.Targets.{target_entries, branch_edges, on_for, on_next, on_simple, dispatch_target, dispatch_targets, selectable, orphan_targets, orphan_edges}
use Rattle.graph_laws.specs.TargetLaws.{on_for_lem, on_next_lem, on_simple_lem}
use Rattle.graph.specs.Edges.{ForFrame, Frame, Stacks, empty_stacks, ForMove, keep_fors, push_for, pop_fors, Move, stays, opens, closes, joins, Moves, node_moves, find_for, under_or, found_or, pop_for, popped, left, fors_after, frames_after, stacks_after, frame_body, popped_bodies, closed_body, rule_of, closer_edges, own_block, own_simple, own, Edge, from_node, to_fall, wired, orphans, edges, ends, sent, Stack, loop_stack, do_stack}

-- node ids below n
abbrev pub Ids : ℕ → List ℕ → Type 0
Ids n l = All (λ (a : ℕ). a < n) l

abbrev pub EdgesTo : ℕ → List Edge → Type 0
EdgesTo n ds = All (λ (d : Edge). d.1 < n) ds

abbrev IdsIn : ℕ → Option (List ℕ) → Type 0
IdsIn n none = Unit {0}
IdsIn n (some l) = Ids n l

module _ (n : ℕ) where
  pub list-ids : (o : Option ℕ) → Below n o → Ids n (list o)
  unfolding list
  list-ids none h = all[]
  list-ids (some a) h = all∷ h all[]

  -- ---- frames

  abbrev FrameFits : Frame → Type 0
  FrameFits f = Below n f.body

  abbrev ForFits : ForFrame → Type 0
  ForFits f = Below n f.body

  abbrev FoundFits : Option (ForFrame × List ForFrame) → Type 0
  FoundFits none = Unit {0}
  FoundFits (some r) = ForFits r.0 × All ForFits r.1

  abbrev PopFits : Option ForFrame → Type 0
  PopFits none = Unit {0}
  PopFits (some f) = ForFits f

  find_fits : (v : Name) {fs : List ForFrame} → All ForFits fs → FoundFits (find_for v fs)
  unfolding find_for
  find_fits v all[] = tt
  find_fits v (all∷ {a = f} {l = fs} p ps) = go (same v f.name) (find_fits v ps)
    where
      go : (x : Bool) → FoundFits (find_for v fs) → FoundFits (pick x (some (f, fs)) (find_for v fs))
      go true h = (p, ps)
      go false h = h

  pop_fits : (s : Slot) {fs : List ForFrame} → All ForFits fs → PopFits (pop_for s fs).0 × All ForFits (pop_for s fs).1
  unfolding pop_for found_or
  pop_fits none all[] = (tt, all[])
  pop_fits none (all∷ p ps) = (p, ps)
  pop_fits (some v) {fs} h = go (find_for v fs) (find_fits v h)
    where
      go : (x : Option (ForFrame × List ForFrame)) → FoundFits x → PopFits (found_or fs x).0 × All ForFits (found_or fs x).1
      go none g = (tt, h)
      go (some r) g = g

  left-fits : (ss : List Slot) {fs : List ForFrame} → All ForFits fs → All ForFits (left ss fs)
  unfolding left
  left-fits [] h = h
  left-fits (s ∷ ss) h = left-fits ss (pop_fits s h).1

  popped-ids : (ss : List Slot) {fs : List ForFrame} → All ForFits fs → Ids n (each frame_body (popped ss fs))
  unfolding popped each frame_body
  popped-ids [] h = all[]
  popped-ids (s ∷ ss) {fs} h = let r = pop_fits s h in all_append (go (pop_for s fs).0 r.0) (popped-ids ss r.1)
    where
      go : (o : Option ForFrame) → PopFits o → Ids n (frame_body o)
      go none p = all[]
      go (some f) p = list-ids f.body p

  bodies-ids : (m : ForMove) {fs : List ForFrame} → All ForFits fs → Ids n (popped_bodies m fs)
  unfolding popped_bodies
  bodies-ids keep_fors h = all[]
  bodies-ids (push_for v) h = all[]
  bodies-ids (pop_fors ss) h = popped-ids ss h

  closed-ids : (m : Move) {fs : List Frame} → All FrameFits fs → IdsIn n (closed_body m fs)
  unfolding closed_body
  closed-ids closes all[] = tt
  closed-ids closes (all∷ {a = f} p ps) = list-ids f.body p
  closed-ids stays h = tt
  closed-ids opens h = tt
  closed-ids joins h = tt

  fors_fit : (i : ℕ) (e : Option ℕ) (m : ForMove) {fs : List ForFrame} → Below n e → All ForFits fs → All ForFits (fors_after i e m fs)
  unfolding fors_after under_or
  fors_fit i e keep_fors be h = h
  fors_fit i e (push_for v) {fs} be h = all∷ be (go (find_for v fs) (find_fits v h))
    where
      go : (x : Option (ForFrame × List ForFrame)) → FoundFits x → All ForFits (under_or fs x)
      go none g = h
      go (some r) g = g.1
  fors_fit i e (pop_fors ss) be h = left-fits ss h

  frames_fit : (i : ℕ) (e : Option ℕ) (m : Move) {fs : List Frame} → Below n e → All FrameFits fs → All FrameFits (frames_after i e m fs)
  unfolding frames_after
  frames_fit i e stays be h = h
  frames_fit i e opens be h = all∷ be h
  frames_fit i e closes be all[] = all[]
  frames_fit i e closes be (all∷ p ps) = ps
  frames_fit i e joins be all[] = all[]
  frames_fit i e joins be (all∷ p ps) = all∷ p ps

  -- ---- a statement's own targets

  closer_ids : (b : Option (List ℕ)) {l : List ℕ} → IdsIn n b → Ids n l → Ids n (closer_edges b l)
  unfolding closer_edges
  closer_ids none hb hl = all[]
  closer_ids (some b) hb hl = all_append hb hl

  block_ids : (s : Stack) (m : Move) (b : Option (List ℕ)) {l : List ℕ} → IdsIn n b → Ids n l → Ids n (own_block s m l b)
  unfolding own_block
  block_ids loop_stack closes b hb hl = closer_ids b hb hl
  block_ids loop_stack stays b hb hl = hl
  block_ids loop_stack opens b hb hl = hl
  block_ids loop_stack joins b hb hl = hl
  block_ids do_stack m b hb hl = hl

  either_ids : (x : Bool) (e : Option ℕ) → Below n e → Ids n (pick x (list e) [])
  either_ids true e be = list-ids e be
  either_ids false e be = all[]

  module _ (es : Entries) (he : EntriesFit n es) where
    to_ids : (t : ℕ) → Ids n (list (entry_of es t))
    to_ids t = list-ids (entry_of es t) (entry_fits n he t)

    pub targets_ids : (ts : List ℕ) → Ids n (target_entries es ts)
    unfolding target_entries each
    targets_ids [] = all[]
    targets_ids (t ∷ ts) = all_append (to_ids t) (targets_ids ts)

    simple_ids : (o : Simple) (e : Option ℕ) (bs : List ℕ) (b : Option (List ℕ)) → Below n e → Ids n bs → IdsIn n b → Ids n (own_simple es o e bs b)
    unfolding own_simple
    simple_ids (bare BareWord.plain) e bs b be hs hb = list-ids e be
    simple_ids (bare clr) e bs b be hs hb = list-ids e be
    simple_ids (jump w t) e bs b be hs hb = to_ids t
    simple_ids (on w ts) e bs b be hs hb = all_append (targets_ids ts) (list-ids e be)
    simple_ids (bare run) e bs b be hs hb = list-ids es.first he.first
    simple_ids (bare stop) e bs b be hs hb = all[]
    simple_ids (bare any) e bs b be hs hb = he.all
    simple_ids (for v t) e bs b be hs hb = list-ids e be
    simple_ids (next m ss) e bs b be hs hb = all_append hs (list-ids e be)
    simple_ids (block w) e bs b be hs hb = let r = rule_of w in block_ids r.stack r.move b hb (either_ids r.falls e be)
    simple_ids (bare return) e bs b be hs hb = all[]

    branch-ids : (e : Option ℕ) (t : BranchTarget) → Below n e → BelowTarget n t → Ids n (branch_edges es e t)
    unfolding branch_edges
    branch-ids e (to_line t) be h = to_ids t
    branch-ids e (to_node j) be h = all∷ h all[]
    branch-ids e falls be h = list-ids e be

    pub own-ids : (s : NodeStmt) (e : Option ℕ) (bs : List ℕ) (b : Option (List ℕ)) → Below n e → BelowStmt n s → Ids n bs → IdsIn n b → Ids n (own es s e bs b)
    unfolding own
    own-ids (simple o) e bs b be h hs hb = simple_ids o e bs b be hs hb
    own-ids (cond w t u) e bs b be h hs hb = all_append (branch-ids e t be h.0) (branch-ids e u be h.1)

    -- ---- edges

    from_to : (i : ℕ) {l : List ℕ} → Ids n l → EdgesTo n (from_node i l)
    unfolding from_node
    from_to i all[] = all[]
    from_to i (all∷ p ps) = all∷ p (from_to i ps)

    fall_to : (l : List ℕ) (e : Option ℕ) → Below n e → EdgesTo n (to_fall l e)
    unfolding to_fall
    fall_to l none be = all[]
    fall_to [] (some t) be = all[]
    fall_to (i ∷ l) (some t) be = all∷ be (fall_to l (some t) be)

    wired_to : (i : ℕ) {ns : List Node} (st : Stacks) → All (NodeFits n) ns → All ForFits st.fors → All FrameFits st.loops → All FrameFits st.dos → EdgesTo n (wired es i ns st)
    unfolding wired stacks_after
    wired_to i st all[] hf hl hd = all[]
    wired_to i st (all∷ {a = d} p ps) hf hl hd =
        let m = node_moves d.stmt in
        all_append (from_to i (own-ids d.stmt d.fall (popped_bodies m.fors st.fors) (closed_body m.loops st.loops) p.0 p.1 (bodies-ids m.fors hf) (closed-ids m.loops hl)))
        (all_append (fall_to (sent loop_stack m.loops st.loops) d.fall p.0)
        (all_append (fall_to (sent do_stack m.dos st.dos) d.fall p.0)
        (wired_to (suc i) (stacks_after i d.fall m st) ps (fors_fit i d.fall m.fors p.0 hf) (frames_fit i d.fall m.loops p.0 hl) (frames_fit i d.fall m.dos p.0 hd))))

    -- ---- orphan NEXTs

    abbrev DispatchFits : Name × ℕ → Type 0
    DispatchFits d = d.1 < n

    tier_fits : (v : Name) (t : Tier) (e : Option ℕ) → Below n e → All DispatchFits (dispatch_target v t e)
    unfolding dispatch_target list
    tier_fits v dispatched none be = all[]
    tier_fits v dispatched (some b) be = all∷ be all[]
    tier_fits v static e be = all[]
    tier_fits v framed e be = all[]

    stmt_dispatch : (s : NodeStmt) (e : Option ℕ) → Below n e → All DispatchFits (on_simple (on_for (λ v t. dispatch_target v t e) []) [] s)
    stmt_dispatch s e be = on_simple_lem (All DispatchFits) all[] (on_for_lem (All DispatchFits) all[] (λ v t. tier_fits v t e be)) s

    pub dispatch_fits : {ns : List Node} → All (NodeFits n) ns → All DispatchFits (dispatch_targets ns)
    unfolding dispatch_targets
    dispatch_fits h = all-each (λ (d : Node). on_simple (on_for (λ v t. dispatch_target v t d.fall) []) [] d.stmt) (λ d p. stmt_dispatch d.stmt d.fall p.0) h

    all_seconds : {ds : List (Name × ℕ)} → All DispatchFits ds → Ids n (map (λ d. d.1) ds)
    all_seconds all[] = all[]
    all_seconds (all∷ p ps) = all∷ p (all_seconds ps)

    slot-ids : {ds : List (Name × ℕ)} → All DispatchFits ds → (s : Slot) → Ids n (selectable ds s)
    unfolding selectable
    slot-ids h none = all_seconds h
    slot-ids h (some v) = all-each (λ (d : Name × ℕ). pick (same v d.0) (d.1 ∷ []) []) (λ d p. go (same v d.0) d.1 p) h
      where
        go : (x : Bool) (b : ℕ) → b < n → Ids n (pick x (b ∷ []) [])
        go true b p = all∷ p all[]
        go false b p = all[]

    slots-ids : {ds : List (Name × ℕ)} → All DispatchFits ds → (ss : List Slot) → Ids n (each (selectable ds) ss)
    unfolding each
    slots-ids h [] = all[]
    slots-ids h (s ∷ ss) = all_append (slot-ids h s) (slots-ids h ss)

    mark_ids : {ds : List (Name × ℕ)} → All DispatchFits ds → (m : Mark) (ss : List Slot) → Ids n (orphan_targets ds m ss)
    unfolding orphan_targets
    mark_ids h orphan ss = slots-ids h ss
    mark_ids h Mark.plain ss = all[]

    orphan_ids : {ds : List (Name × ℕ)} → All DispatchFits ds → (s : NodeStmt) → Ids n (orphan_edges ds s)
    unfolding orphan_edges
    orphan_ids h s = on_simple_lem (Ids n) all[] (on_next_lem (Ids n) all[] (mark_ids h)) s

    orphans_to : (i : ℕ) {ds : List (Name × ℕ)} → All DispatchFits ds → (ns : List Node) → EdgesTo n (orphans ds i ns)
    unfolding orphans
    orphans_to i h [] = all[]
    orphans_to i h (d ∷ ns) = all_append (from_to i (orphan_ids h d.stmt)) (orphans_to (suc i) h ns)

    pub edges_to : {ns : List Node} → All (NodeFits n) ns → EdgesTo n (edges es ns)
    unfolding edges empty_stacks
    edges_to {ns} h = all_append (wired_to 0 empty_stacks h all[] all[] all[]) (orphans_to 0 (dispatch_fits h) ns)

-- ---- lists

pub ends-ids : (n i : ℕ) {ds : List Edge} → EdgesTo n ds → Ids n (ends i ds)
unfolding ends
ends-ids n i all[] = all[]
ends-ids n i (all∷ {a = d} {l = ds} p ps) = go (eqb i d.0) (ends-ids n i ps)
  where
    go : (x : Bool) → Ids n (ends i ds) → Ids n (pick x (d.1 ∷ ends i ds) (ends i ds))
    go true h = all∷ p h
    go false h = h

add-ids : (n a : ℕ) {l : List ℕ} → Ids n l → a < n → Ids n (add l a)
unfolding add
add-ids n a {l} h p = go (has a l)
  where
    go : (x : Bool) → Ids n (pick x l (l ++ (a ∷ [])))
    go true = h
    go false = all_append h (all∷ p all[])

pub add_all-ids : (n : ℕ) {l k : List ℕ} → Ids n l → Ids n k → Ids n (add_all l k)
unfolding add_all
add_all-ids n h all[] = h
add_all-ids n {l = l} h (all∷ {a = a} {l = k} p ps) = add_all-ids n {l = add l a} (add-ids n a h p) ps
