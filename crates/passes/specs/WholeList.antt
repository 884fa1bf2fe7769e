-- A node's whole list from the prepared tables: own edges, late edges, an orphan's targets; room for each, and the list
-- that they make. Assumes nothing.
use Rattle.std.specs.Prelude.{ℕ, ◌+◌, ◌*◌, ◌≤◌, ◌<◌, ◌≡◌, refl, Bool, true, false, ◌||◌, List, [], ◌++◌, ◌⊎◌, eqb, get_or}
use Rattle.std.proofs.Math.Path.{sym, ap}
use Rattle.std.proofs.Common.{◌∙◌, append-nil, append_assoc, inl, inr, eqb-true, ne_eqb, length-take-le}
use Rattle.std.proofs.Math.Logic.{⊎_elim}
use Rattle.std.proofs.Math.Option.{some}
use native.Mathlib.Omega.{arith}
use Rattle.std.proofs.Math.ListN.{length, get_elem?, take}
use Rattle.listings.specs.Bytes.{same, bytes}
use Rattle.listings.specs.Listing.{if, ifelse, rcomp, Simple, Listing}
use Rattle.listings.specs.ListingText.{cond_word}
use Rattle.listings.specs.Rows.{opening_words}
use Rattle.listings.specs.WordTable.{words, first, word_index}
use Rattle.graph.specs.Lists.{add_all}
use Rattle.graph_laws.specs.Adding.{node_number, Added, added_both}
use Rattle.graph_laws.specs.Members.{all_map}
use Rattle.graph.specs.Nodes.{NodeStmt, simple, cond, Node}
use Rattle.graph.specs.NodeWords.{stmt_word, stmt_number}
use Rattle.graph.specs.Targets.{dispatch_targets, orphan_edges}
use Rattle.graph.specs.Edges.{loop_stack, no_moves, node_moves}
use Rattle.graph_laws.specs.EdgeBounds.{Ids, edges_to, ends-ids}
use Rattle.graph.specs.Graph.{wire, base}
use Rattle.graph_laws.specs.GraphLaws.{node_count, fits, entry_ids}
use Rattle.graph_laws.specs.PerNode.{no_openers, Fact, facts, late, per_node}
use Rattle.graph_laws.specs.PerNodeLaws.{length-facts, per_node_lem}
use Rattle.graph_laws.specs.Theorems.{facts_of, lists_per_node}
use Rattle.passes.specs.OpenerLaws.{some_at, node_of, fall_at_lem, stmt_at_lem}
use Rattle.passes.specs.ListedNodes.{SimpleListed, SlotsCounted}
use Rattle.passes.specs.LineSearch.{table-nodes}
use Rattle.passes.specs.Closing.{FitsPart, ClosingTables, ClosingReady, closing_edges, ClosingAdded}
use Rattle.passes.specs.ClosingLaws.{closing_ready}
use Rattle.passes.specs.Growing.{Grown, Grows, all_left, all_right, grown_added}
use Rattle.passes.specs.NextBodies.{SelectRoom, orphan_bodies}
use Rattle.passes.specs.NextBodyLaws.{dispatched_below}
use Rattle.passes.specs.AddRoom.{grown_start}
use Rattle.passes.specs.EntryOrder.{entries_rise}
use Rattle.passes.specs.Prepared.{Prepared, Keys}
use Rattle.tables.specs.Columns.{call_word}
use Rattle.passes.specs.NodeList.{jump_edges, own_edges, OwnRoom, ListIs}
use Rattle.passes.specs.NodeListLaws.{own_jump}
use Rattle.passes.specs.PreparedLaws.{call_moves}
use Rattle.passes.specs.NodeTables.{falling, falls_ok, entered}
use Rattle.passes.specs.OwnTables.{own_are}
use Rattle.passes.specs.OrphanKeys.{dispatched_are, slots-counted, orphan_are}

-- the words of IF, IFELSE and RCOMP are below 7
cond_low : (s : NodeStmt) → 7 ≤ stmt_number s → (o : Simple) × (s ≡ simple o)
unfolding stmt_number stmt_word cond_word word_index words first same bytes opening_words
cond_low (simple o) h = (o, refl)
cond_low (cond if a b) h = absurd (omega arith)
cond_low (cond ifelse a b) h = absurd (omega arith)
cond_low (cond rcomp a b) h = absurd (omega arith)

call_number : (w : ℕ) → call_word w ≡ true → (w ≡ 8) ⊎ (w ≡ 12)
unfolding call_word
call_number w h = go (eqb w 8) refl h
  where
    go : (b : Bool) → eqb w 8 ≡ b → (b || eqb w 12) ≡ true → (w ≡ 8) ⊎ (w ≡ 12)
    go true e q = inl (eqb-true w 8 e)
    go false e q = inr (eqb-true w 12 q)

module _ {L : Listing} {stmts ks entries falls links frames ds : List ℕ} {lines n : ℕ} (P : Prepared L stmts ks entries falls links frames ds lines n) where
  pub closing_tables : ClosingTables stmts falls frames (wire L).nodes
  closing_tables = record {
    worded = λ i x e. (P.listed i x e).word;
    falling = λ j f e. let x = node_of loop_stack (wire L).nodes j f e in falling P j x.0 x.1 ∙ ap node_number (sym (fall_at_lem loop_stack (wire L).nodes j x.0 f x.1 e));
    framed = P.framed;
    stmts_fit = omega (arith, P.stmts_fit, P.nodes_are);
    falls_fit = omega (arith, P.falls_fit, P.nodes_are);
    frames_fit = omega (arith, P.frames_fit, P.nodes_are);
  }

  module _ (args : List ℕ) (i : ℕ) (lt : i < n) (kept : Keys stmts ks args i) (size : length args ≡ length ks) where
    -- the edges that the code adds, in its order
    abbrev edges_by : Fact → List ℕ
    edges_by f = own_edges stmts entries falls links frames lines i ++ (closing_edges (facts 0 (wire L).nodes no_openers) i f ++ orphan_bodies stmts args falls ds i)

    module _ (x : Node) (f : Fact) (ex : get_elem? (wire L).nodes i ≡ some x) (ef : get_elem? (facts 0 (wire L).nodes no_openers) i ≡ some f) where
      edges_are : edges_by f ≡ per_node (wire L).entries (dispatch_targets (wire L).nodes) (facts 0 (wire L).nodes no_openers) i f
      unfolding per_node closing_edges
      edges_are =
          let s : orphan_edges (dispatch_targets (wire L).nodes) x.stmt ≡ orphan_edges (dispatch_targets (wire L).nodes) f.stmt = ap (orphan_edges (dispatch_targets (wire L).nodes)) (sym (stmt_at_lem loop_stack (wire L).nodes i x f ex ef)) in
          rw (own_are P i lt x f ex ef, orphan_are P args i x lt ex kept size, s) (simp append_assoc)

      edges-ids : Ids n (edges_by f)
      unfolding wire
      edges-ids = rw (edges_are, ← per_node_lem (wire L).entries (wire L).nodes i f ef, P.nodes_are) (ends-ids (node_count L) i (edges_to (node_count L) (wire L).entries (entry_ids L) (fits L)))

      own-ids : Ids n (own_edges stmts entries falls links frames lines i)
      own-ids = all_left (own_edges stmts entries falls links frames lines i) _ edges-ids

      closing-ids : Ids n (closing_edges (facts 0 (wire L).nodes no_openers) i f)
      closing-ids = all_left (closing_edges (facts 0 (wire L).nodes no_openers) i f) (orphan_bodies stmts args falls ds i) (all_right (own_edges stmts entries falls links frames lines i) _ edges-ids)

      orphan_ids : Ids n (orphan_bodies stmts args falls ds i)
      orphan_ids = all_right (closing_edges (facts 0 (wire L).nodes no_openers) i f) (orphan_bodies stmts args falls ds i) (all_right (own_edges stmts entries falls links frames lines i) _ edges-ids)

      few_args : 7 ≤ get_or stmts (i * 12) 0 → get_or stmts (i * 12 + 10) 0 ≤ 64
      few_args h =
          let o = cond_low x.stmt (omega (arith, (P.listed i x ex).word)) in
          let s : SimpleListed stmts ks i o.0 = rw o.1 at (P.listed i x ex).stmt in
          omega (arith, s.count, s.few)

      own-fits : (part : List ℕ) → n ≤ length part → OwnRoom stmts entries falls links frames lines i part 0
      own-fits part h = record {
        fresh = refl;
        stmts = omega (arith, P.stmts_fit);
        entries = P.entries_fit;
        falls = omega (arith, P.falls_fit);
        links = omega (arith, P.links_fit);
        frames = omega (arith, P.frames_fit);
        few = few_args;
        rises = rw (table-nodes (entered P)) (entries_rise L.lines);
        room = record { nodes = n; grown = grown_start n part h; ids = own-ids };
      }

    here : (x : Node) × (get_elem? (wire L).nodes i ≡ some x)
    here = some_at (wire L).nodes i (omega (arith, P.nodes_are))

    fact : (f : Fact) × (get_elem? (facts 0 (wire L).nodes no_openers) i ≡ some f)
    fact = some_at (facts 0 (wire L).nodes no_openers) i (omega (arith, P.nodes_are, length-facts 0 (wire L).nodes no_openers))

    -- ---- room for each piece

    pub own_room : (part : List ℕ) → n ≤ length part → OwnRoom stmts entries falls links frames lines i part 0
    own_room part h = own-fits here.0 fact.0 here.1 fact.1 part h

    pub after-own : (part p : List ℕ) (r : ℕ) → n ≤ length part → Grows part 0 p r (own_edges stmts entries falls links frames lines i) → Grown n p r
    after-own part p r h a = a.grown n (grown_start n part h) (own-ids here.0 fact.0 here.1 fact.1)

    pub closing_room : (p : List ℕ) (r : ℕ) → Grown n p r → FitsPart p r × ClosingReady stmts falls frames i (length p)
    closing_room p r g = (
      record { within = g.within; distinct = g.distinct; below = all_map (λ (a : ℕ) h. omega (arith, g.room)) g.below },
      closing_ready stmts falls frames i (length p) (wire L).nodes closing_tables (omega (arith, P.nodes_are)) (omega (arith, P.nodes_are, g.room)) (fits L),
    )

    pub after-closing : (p q : List ℕ) (r s : ℕ) → Grown n p r → ClosingAdded stmts falls frames i p r q s → length q ≡ length p → s ≤ length q → Grown n q s
    after-closing p q r s g a e h =
        grown_added n p q r s (closing_edges (facts 0 (wire L).nodes no_openers) i fact.0) (a (wire L).nodes closing_tables fact.0 fact.1) e h g (closing-ids here.0 fact.0 here.1 fact.1)

    pub orphan_room : (q : List ℕ) (s : ℕ) → Grown n q s → SlotsCounted stmts i × SelectRoom args falls ds q s
    orphan_room q s g = (
      slots-counted P i lt,
      record { nodes = n; grown = g; falls = falls_ok P; args = omega (arith, P.args_fit); ids = rw (dispatched_are P) (dispatched_below stmts falls n) },
    )

    pub after_orphan : (q z : List ℕ) (s t : ℕ) → Grown n q s → Grows q s z t (orphan_bodies stmts args falls ds i) → Grown n z t
    after_orphan q z s t g a = a.grown n g (orphan_ids here.0 fact.0 here.1 fact.1)

    -- ---- a call's list is what its statement adds

    call_own : call_word (get_or stmts (i * 12) 0) ≡ true → own_edges stmts entries falls links frames lines i ≡ jump_edges stmts falls links i
    call_own w =
        ⊎_elim (λ e. sym (own_jump stmts entries falls links frames lines i (omega arith) (λ z. omega arith) (omega arith)))
        (λ e. sym (own_jump stmts entries falls links frames lines i (omega arith) (λ z. omega arith) (omega arith))) (call_number (get_or stmts (i * 12) 0) w)

    call_closing : call_word (get_or stmts (i * 12) 0) ≡ true → closing_edges (facts 0 (wire L).nodes no_openers) i fact.0 ≡ []
    unfolding closing_edges late no_moves
    call_closing w =
        let s = stmt_at_lem loop_stack (wire L).nodes i here.0 fact.0 here.1 fact.1 in
        let m : node_moves fact.0.stmt ≡ no_moves = call_moves fact.0.stmt (ap (λ (y : NodeStmt). call_word (stmt_number y)) s ∙ ap call_word (sym (P.listed i here.0 here.1).word) ∙ w) in
        rw m

    call_orphan : call_word (get_or stmts (i * 12) 0) ≡ true → orphan_bodies stmts args falls ds i ≡ []
    unfolding orphan_bodies
    call_orphan w = rw (ne_eqb (get_or stmts (i * 12) 0) 14 (λ e. ⊎_elim (λ q. omega arith) (λ q. omega arith) (call_number (get_or stmts (i * 12) 0) w)))

    pub call_made : call_word (get_or stmts (i * 12) 0) ≡ true → add_all [] (jump_edges stmts falls links i) ≡ base (wire L) i
    unfolding facts_of
    call_made w =
        let e : edges_by fact.0 ≡ jump_edges stmts falls links i = rw (call_own w, call_closing w, call_orphan w) (append-nil (jump_edges stmts falls links i)) in
        ap (add_all []) (sym e ∙ edges_are here.0 fact.0 here.1 fact.1) ∙ sym (lists_per_node L i fact.0 fact.1)

    -- ---- the list that they make

    pub list_made : (part p q z : List ℕ) (r s t : ℕ) → Added part 0 p r (own_edges stmts entries falls links frames lines i) → ClosingAdded stmts falls frames i p r q s
        → Added q s z t (orphan_bodies stmts args falls ds i) → length z ≡ length part → t ≤ length z → ListIs (base (wire L) i) part z t
    unfolding facts_of
    list_made part p q z r s t a b c e h =
        let l = closing_edges (facts 0 (wire L).nodes no_openers) i fact.0 in
        let o = orphan_bodies stmts args falls ds i in
        let m = added_both part p z 0 r t (own_edges stmts entries falls links frames lines i) (l ++ o) a (added_both p q z r s t l o (b (wire L).nodes closing_tables fact.0 fact.1) c) in
        let is : take t z ≡ base (wire L) i = m.list ∙ ap (add_all []) (edges_are here.0 fact.0 here.1 fact.1) ∙ sym (lists_per_node L i fact.0 fact.1) in
        record { count = sym (length-take-le t z h) ∙ ap length is; list = is; size = e; within = omega arith }
