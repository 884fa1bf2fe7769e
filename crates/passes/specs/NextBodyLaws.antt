-- What a NEXT's list gets of FORs is what the definition says: the bodies of those that it pops, and an orphan's
-- targets. Assumes nothing.
use Rattle.std.specs.Prelude.{ℕ, zero, suc, ◌+◌, ◌*◌, ◌≤◌, ◌<◌, ◌≡◌, length, get_or}
use Rattle.std.proofs.Math.Path.{refl, sym, ap}
use Rattle.std.proofs.Common.{◌∙◌, arith}
use mathlib.Core.List.{List, [], ◌∷◌, map}
use Rattle.std.proofs.Math.Option.{none, some}
use borrow.Author.Tests.{eq-eqb, ne_eqb, eqb-false}
use Rattle.std.proofs.Math.ListN.{get_elem?}
use Rattle.listings.specs.Bytes.{same, pick}
use Rattle.listings.specs.Every.{all[], all∷}
use Rattle.listings.specs.Listing.{Name, Mark, orphan, Slot, next}
use Rattle.listings.specs.ListingText.{NameOk, SlotsOk, SimpleOk}
use Rattle.listings.specs.Records.{name_key, slot_key, args_of, detail_of, mark_number}
use Rattle.graph.specs.Lists.{each, list}
use Rattle.graph_laws.specs.Adding.{decode, decode_number}
use Rattle.graph_laws.specs.Members.{all_map}
use Rattle.graph.specs.Nodes.{NodeStmt, simple, Node}
use Rattle.graph.specs.NodeWords.{stmt_number}
use Rattle.graph.specs.Targets.{on_next, on_simple, dispatch_targets, selectable, orphan_targets, orphan_edges}
use Rattle.graph.specs.Edges.{node_moves}
use Rattle.graph_laws.specs.EdgeBounds.{Ids}
use Rattle.graph_laws.specs.PerNode.{Openers, no_openers, after, Fact, fact_of, facts, fall_of, fall_at}
use Rattle.passes.specs.ListedNodes.{StmtListed, Listed, FallsListed, keys_at, keys_are, ForKind, is_for, is_next, is_other, for_kind, for_number, next_number, key_some, key_same}
use Rattle.passes.specs.ForLinks.{linked_rows, popped_by}
use Rattle.passes.specs.ForLinkLaws.{next_links, popped-before}
use Rattle.passes.specs.ListedWhere.{where_all}
use Rattle.passes.specs.Dispatched.{is_dispatched, dispatched_ids, Bodies, bodies[], bodies∷, bodies_are}
use Rattle.passes.specs.NextBodies.{body_at, selects_key, selected_body, slot_bodies, orphan_bodies}
use Rattle.passes.specs.LineEntries.{at_place}

-- ---- the FORs that a NEXT pops

facts_fall : (i : ℕ) (ns : List Node) (st : Openers) (k : ℕ) (n : Node) → get_elem? ns k ≡ some n → fall_at (facts i ns st) k ≡ list n.fall
unfolding facts fact_of fall_at fall_of
facts_fall i [] st k n e = absurd (let z : ◌≡◌ {A = ℕ} 0 1 = cc in omega arith)
facts_fall i (m ∷ ns) st zero n e = let q : m ≡ n = cc in rw q
facts_fall i (m ∷ ns) st (suc k) n e = facts_fall (suc i) ns (after i (node_moves m.stmt) st) k n e

module _ (es : List ℕ) (ns : List Node) (h : FallsListed es ns) (st : Openers) where
  pub body_is : (o : ℕ) → o < length ns → body_at es o ≡ fall_at (facts 0 ns st) o
  unfolding body_at
  body_is o lt =
      let d = at_place ns o lt in
      ap decode (h o d.0 d.1) ∙ decode_number d.0.fall ∙ sym (facts_fall 0 ns st o d.0 d.1)

  pub bodies_fall : {l : List ℕ} → Ids (length ns) l → each (body_at es) l ≡ each (fall_at (facts 0 ns st)) l
  unfolding each
  bodies_fall all[] = refl
  bodies_fall (all∷ {a = o} {l = l} p q) = rw (body_is o p, bodies_fall q)

module _ (ts ks es : List ℕ) (ns : List Node) (h : Listed ts ks ns) (t : List ℕ) (room : length ns * 64 ≤ length t) (k : ℕ) (f : Fact) (e : get_elem? (facts 0 ns no_openers) k ≡ some f)
    (m : Mark) (ss : List Slot) (s : f.stmt ≡ simple (next m ss)) (lt : k < length ns) where
  pub next_ids : Ids (length ns) (popped_by (linked_rows 0 ns [] t) k (length ss))
  next_ids = rw (next_links ts ks ns h t room k f e m ss s) (all_map (λ a g. omega arith) (popped-before ns k f e))

  -- what the code adds for the FORs that a NEXT pops, by the definition
  pub next_bodies : FallsListed es ns → each (body_at es) (popped_by (linked_rows 0 ns [] t) k (length ss)) ≡ each (fall_at (facts 0 ns no_openers)) f.popped
  next_bodies g = bodies_fall es ns g no_openers next_ids ∙ ap (each (fall_at (facts 0 ns no_openers))) (next_links ts ks ns h t room k f e m ss s)

-- ---- an orphan's targets

pub dispatched_below : (ts es : List ℕ) (n : ℕ) → Ids n (dispatched_ids ts es n)
dispatched_below ts es n = where_all (is_dispatched ts es) (λ (o : ℕ). o < n) n (λ c lt e. lt)

module _ (ks es : List ℕ) where
  any_selected : {os : List ℕ} {ds : List (Name × ℕ)} → Bodies ks es os ds → slot_bodies ks es os 0 ≡ map (λ (d : Name × ℕ). d.1) ds
  unfolding slot_bodies selected_body selects_key body_at each
  any_selected bodies[] = refl
  any_selected (bodies∷ {b = b} g k f q) = rw (f, any_selected q)

  name_selected : (v : Name) → NameOk v → {os : List ℕ} {ds : List (Name × ℕ)} → Bodies ks es os ds
      → slot_bodies ks es os (name_key v) ≡ each (λ (d : Name × ℕ). pick (same v d.0) (d.1 ∷ []) []) ds
  unfolding slot_bodies selected_body selects_key body_at each
  name_selected v h bodies[] = refl
  name_selected v h (bodies∷ {v = w} g k f q) = rw (ne_eqb (name_key v) 0 (key_some v h), k, f, key_same v w h g, name_selected v h q)

  slots_selected : (ss : List Slot) → SlotsOk ss → {os : List ℕ} {ds : List (Name × ℕ)} → Bodies ks es os ds → each (slot_bodies ks es os) (map slot_key ss) ≡ each (selectable ds) ss
  unfolding each selectable SlotsOk slot_key
  slots_selected [] h q = refl
  slots_selected (none ∷ ss) h q = rw (any_selected q, slots_selected ss h q)
  slots_selected (some v ∷ ss) h q = rw (name_selected v h.0 q, slots_selected ss h.1 q)

module _ (ts ks es os : List ℕ) (ds : List (Name × ℕ)) (q : Bodies ks es os ds) (i : ℕ) (room : i * 64 + 64 ≤ length ks) where
  mark_bodies : (m : Mark) (ss : List Slot) → keys_at ts ks i ≡ map slot_key ss → SlotsOk ss → get_or ts (i * 12) 0 ≡ 14 → get_or ts (i * 12 + 11) 0 ≡ mark_number m → orphan_bodies ts ks es os i ≡ orphan_targets ds m ss
  unfolding orphan_bodies orphan_targets mark_number
  mark_bodies Mark.plain ss k h w d = rw (eq-eqb (get_or ts (i * 12) 0) 14 w, d)
  mark_bodies orphan ss k h w d = rw (eq-eqb (get_or ts (i * 12) 0) 14 w, d, k) (slots_selected ks es ss h q)

  no_next : (get_or ts (i * 12) 0 ≡ 14 → ⊥) → orphan_bodies ts ks es os i ≡ []
  unfolding orphan_bodies
  no_next g = rw (ne_eqb (get_or ts (i * 12) 0) 14 g)

  stmt_bodies : (s : NodeStmt) → get_or ts (i * 12) 0 ≡ stmt_number s → StmtListed ts ks i s → ForKind s → orphan_bodies ts ks es os i ≡ orphan_edges ds s
  unfolding orphan_edges on_simple on_next SimpleOk args_of detail_of
  stmt_bodies s w h (is_for v t) = no_next (λ e. omega (arith, w, for_number v t))
  stmt_bodies s w h (is_next m ss) = mark_bodies m ss (keys_are ts ks i (next m ss) h room) h.names (w ∙ next_number m ss) h.detail
  stmt_bodies s w h (is_other n) = no_next (λ e. eqb-false (stmt_number s) 14 n.not_next (sym w ∙ e)) ∙ sym (n.no_orphan ds)

-- what the code adds for node i's slots, by the definition: "all for `*`, else those of its name"
pub orphan_bodies_lem : (ts ks es : List ℕ) (ns : List Node) → Listed ts ks ns → FallsListed es ns → length ns * 64 ≤ length ks → (i : ℕ) (n : Node) → get_elem? ns i ≡ some n → i < length ns
    → orphan_bodies ts ks es (dispatched_ids ts es (length ns)) i ≡ orphan_edges (dispatch_targets ns) n.stmt
orphan_bodies_lem ts ks es ns h f room i n e lt =
    stmt_bodies ts ks es (dispatched_ids ts es (length ns)) (dispatch_targets ns) (bodies_are ts ks es ns h f) i (omega arith) n.stmt (h i n e).word (h i n e).stmt (for_kind n.stmt)
