-- What the prepared tables say of a node: where it leads, what it pops, the frame that it closes. Assumes nothing.
use Rattle.std.specs.Prelude.{ℕ, ◌+◌, ◌*◌, ◌≤◌, ◌<◌, length, take, drop, replicate}
use Rattle.std.proofs.Math.Path.{◌≡◌, ap}
use Rattle.std.proofs.Common.{sym, ◌∙◌, length-drop, take-take, ext_get_or, get_or-take, get_or-drop, length-take-le}
use mathlib.Core.List.{List, [], ◌∷◌}
use Rattle.std.proofs.Math.Option.{some}
use native.Mathlib.Omega.{arith}
use Rattle.std.proofs.Math.ListN.{get_or, get_elem?}
use Rattle.std.proofs.lemmas.List.{length-replicate}
use Rattle.listings.specs.Every.{All}
use Rattle.listings.specs.Listing.{Mark, Slot, next, Listing}
use Rattle.graph.specs.Lists.{each, list}
use Rattle.graph_laws.specs.Adding.{decode}
use Rattle.graph_laws.specs.Members.{all-at}
use Rattle.graph.specs.Nodes.{simple, Node, Entries, entries as entries_of}
use Rattle.graph.specs.NodeWords.{stmt_number}
use Rattle.graph.specs.Targets.{target_entries}
use Rattle.graph.specs.Edges.{closes, Moves, on_stack, node_moves, loop_stack, do_stack}
use Rattle.graph.specs.Graph.{wire}
use Rattle.graph_laws.specs.GraphLaws.{node_count, fits}
use Rattle.graph_laws.specs.PerNode.{Met, nothing, closing, joining, meets, move_on, met_on, no_openers, Fact, facts, fall_at, body_met}
use Rattle.graph_laws.specs.PerNodeLaws.{length-facts}
use Rattle.passes.specs.OpenerLaws.{some_at, MetIs, open_at, met_at, met-below}
use Rattle.passes.specs.Frames.{met_number, either_met, frame_met, met_entry}
use Rattle.passes.specs.FrameRows.{met_entry_lem}
use Rattle.passes.specs.FramePassLaws.{either_nothing}
use Rattle.passes.specs.ClosingLaws.{number_below}
use Rattle.passes.specs.ListedNodes.{Listed, FallsListed}
use Rattle.passes.specs.ForLinks.{linked_rows, popped_by}
use Rattle.passes.specs.ForLinkLaws.{other_links}
use Rattle.passes.specs.NextBodies.{FallsFit, body_at}
use Rattle.passes.specs.NextBodyLaws.{body_is, next_bodies}
use Rattle.tables.specs.EntryRows.{entry_column}
use Rattle.passes.specs.LineSearch.{EntryTable, table-nodes, entry_table}
use Rattle.passes.specs.EntryOrder.{all-entries, first_entry_lem}
use Rattle.passes.specs.Jumps.{stmt_targets, link_row, linked}
use Rattle.passes.specs.JumpLaws.{link_length}
use Rattle.passes.specs.TableReads.{Few, targets_fit, falls-listed, links_edges, linked-length, link_of}
use Rattle.passes.specs.Prepared.{Prepared, link_entries, link_table}
use Rattle.passes.specs.OwnLaws.{BodyIs, no_frame, closes_frame}

-- ---- links

module _ (es : Entries) (ns : List Node) (few : All Few ns) (ts ks : List ℕ) (listed : Listed ts ks ns) (k : ℕ) (room : length ns * 64 ≤ k) (i : ℕ) (d : Node) (f : Fact)
    (ed : get_elem? ns i ≡ some d) (ef : get_elem? (facts 0 ns no_openers) i ≡ some f) (lt : i < length ns) where
  -- the table before the NEXTs' rows are written
  abbrev jumps : List ℕ
  jumps = linked es (replicate k 0) 0 ns

  jumps-size : length jumps ≡ k
  jumps-size = linked-length es (replicate k 0) 0 ns ∙ length-replicate k 0

  -- a row begins with its targets
  row_targets : take (length (stmt_targets d.stmt)) (drop (i * 64) jumps) ≡ link_row es (stmt_targets d.stmt)
  row_targets =
      let c = length (stmt_targets d.stmt) in
      let w : c ≤ 64 = all-at few i d ed in
      let s : length (take c (drop (i * 64) jumps)) ≡ c = length-take-le c (drop (i * 64) jumps) (simp length-drop (omega (arith, jumps-size))) in
      ext_get_or 0 (take c (drop (i * 64) jumps)) (link_row es (stmt_targets d.stmt)) (s ∙ sym (link_length es (stmt_targets d.stmt))) (λ j h.
      let g : j < c = omega arith in
      get_or-take c (drop (i * 64) jumps) j 0 g ∙ get_or-drop (i * 64) jumps j 0 ∙ link_of es (replicate k 0) ns few i d ed j g (omega (arith, length-replicate {A = ℕ} k 0)) w)

  -- no NEXT: the links lead to the lines that the statement names
  pub links_lead : (stmt_number f.stmt ≡ 14 → ⊥) → (c : ℕ) → c ≡ length (stmt_targets d.stmt)
      → each decode (take c (drop (i * 64) (linked_rows 0 ns [] jumps))) ≡ target_entries es (stmt_targets d.stmt)
  links_lead q c e =
      let w : c ≤ 64 = omega (arith, all-at few i d ed) in
      let t = linked_rows 0 ns [] jumps in
      let o = other_links ts ks ns listed jumps (omega (arith, jumps-size)) i f ef q in
      let a : take c (drop (i * 64) t) ≡ take c (drop (i * 64) jumps) = sym (take-take c 64 (drop (i * 64) t) w) ∙ ap (take c) o ∙ take-take c 64 (drop (i * 64) jumps) w in
      ap (each decode) (a ∙ ap (λ (x : ℕ). take x (drop (i * 64) jumps)) e ∙ row_targets) ∙ links_edges es (stmt_targets d.stmt)

-- ---- the frame that a closer closes

module _ (fs : List ℕ) (F : List Fact) (i n : ℕ) (lt : i < n) (bodies : (o : ℕ) → o < n → body_at fs o ≡ fall_at F o) (os : List ℕ) where
  pub closed_body_lem : (m : Met) → m ≡ meets closes os → MetIs (λ (o : ℕ). o < i) m → BodyIs fs (met_number m) (body_met F m)
  unfolding met_number body_met meets
  closed_body_lem nothing e h = no_frame
  closed_body_lem (closing o) e h = closes_frame (bodies o (omega arith))
  closed_body_lem (joining o) e h = absurd (go os e)
    where
      go : (l : List ℕ) → joining o ≡ meets closes l → ⊥
      go [] q = let z : ◌≡◌ {A = ℕ} 0 1 = cc in omega arith
      go (p ∷ l) q = let z : ◌≡◌ {A = ℕ} 0 1 = cc in omega arith

-- ---- all tables

module _ {L : Listing} {stmts ks entries falls links frames dispatched : List ℕ} {lines n : ℕ} (P : Prepared L stmts ks entries falls links frames dispatched lines n) where
  pub falling : FallsListed falls (wire L).nodes
  falling = falls-listed (wire L).entries (wire L).nodes (length falls) falls P.falling

  pub falls_ok : FallsFit n falls
  falls_ok = record {
    table = P.falls_fit;
    fits = λ k h.
        let x = some_at (wire L).nodes k (omega (arith, P.nodes_are)) in
        omega (arith, falling k x.0 x.1, number_below (node_count L) x.0.fall (all-at (fits L) k x.0 x.1).0, P.nodes_are);
  }

  pub entered : EntryTable (entries_of L.lines) entries lines
  entered = rw P.lines_are (entry_table L.lines (length entries) entries P.in_form P.entered)

  -- where RUN and `any` lead
  pub first-is : each decode (take 1 (entry_column 1 lines entries)) ≡ list (wire L).entries.first
  unfolding wire entries_of
  first-is = ap (λ (x : List ℕ). each decode (take 1 x)) (table-nodes entered) ∙ first_entry_lem (entries_of L.lines).rows

  pub all_are : each decode (entry_column 1 lines entries) ≡ (wire L).entries.all
  unfolding wire entries_of
  all_are = ap (each decode) (table-nodes entered) ∙ all-entries (entries_of L.lines).rows

  few_targets : All Few (wire L).nodes
  unfolding wire
  few_targets = targets_fit L.lines P.in_form

  module _ (i : ℕ) (lt : i < n) (x : Node) (f : Fact) (ex : get_elem? (wire L).nodes i ≡ some x) (ef : get_elem? (facts 0 (wire L).nodes no_openers) i ≡ some f) where
    below-count : i < length (wire L).nodes
    below-count = omega (arith, P.nodes_are)

    -- no NEXT: where the lines lead that it names
    pub targets_are : (stmt_number f.stmt ≡ 14 → ⊥) → get_or stmts (i * 12 + 10) 0 ≡ length (stmt_targets x.stmt) → link_entries stmts links i ≡ target_entries (wire L).entries (stmt_targets x.stmt)
    unfolding link_entries link_table
    targets_are q e =
        rw P.linking (links_lead (wire L).entries (wire L).nodes few_targets stmts ks P.listed (length links) (omega (arith, P.links_fit, P.nodes_are)) i x f ex ef below-count q (get_or stmts (i * 12 + 10) 0) e)

    module _ (m : Mark) (ss : List Slot) (s : f.stmt ≡ simple (next m ss)) (e : get_or stmts (i * 12 + 10) 0 ≡ length ss) where
      links_room : length (wire L).nodes * 64 ≤ length (linked (wire L).entries (replicate (length links) 0) 0 (wire L).nodes)
      links_room = omega (arith, linked-length (wire L).entries (replicate (length links) 0) 0 (wire L).nodes, length-replicate {A = ℕ} (length links) 0, P.links_fit, P.nodes_are)

      pub popped-bodies : each (body_at falls) (popped_by links i (get_or stmts (i * 12 + 10) 0)) ≡ each (fall_at (facts 0 (wire L).nodes no_openers)) f.popped
      unfolding link_table
      popped-bodies = rw (e, P.linking) (next_bodies stmts ks falls (wire L).nodes P.listed _ links_room i f ef m ss s below-count falling)

    met_number_here : get_or frames (i * 3) 0 ≡ met_number (frame_met f)
    unfolding met_entry
    met_number_here =
        let F = facts 0 (wire L).nodes no_openers in
        ap (λ (t : List ℕ). get_or t (i * 3) 0) P.framed ∙ met_entry_lem F (length frames) i (omega (arith, length-facts 0 (wire L).nodes no_openers, below-count)) ∙ ap met_entry ef

    pub body_of : node_moves x.stmt ≡ on_stack loop_stack closes → BodyIs falls (get_or frames (i * 3) 0) (body_met (facts 0 (wire L).nodes no_openers) f.loop_met)
    unfolding on_stack met_on move_on meets frame_met
    body_of q =
        let F = facts 0 (wire L).nodes no_openers in
        let os = open_at loop_stack (wire L).nodes i in
        let l : f.loop_met ≡ meets closes os = met_at loop_stack (wire L).nodes i x f ex ef ∙ ap (λ (v : Moves). meets v.loops os) q in
        let z : f.do_met ≡ nothing = met_at do_stack (wire L).nodes i x f ex ef ∙ ap (λ (v : Moves). meets v.dos (open_at do_stack (wire L).nodes i)) q in
        let e : get_or frames (i * 3) 0 ≡ met_number f.loop_met = met_number_here ∙ ap met_number (ap (either_met f.loop_met) z ∙ either_nothing f.loop_met) in
        rw e (closed_body_lem falls F i n lt (λ o h. body_is falls (wire L).nodes falling no_openers o (omega (arith, P.nodes_are))) os f.loop_met l (met-below loop_stack (wire L).nodes i f ef))
