-- An orphan NEXT's targets from the prepared tables, where rows of arguments that it does not read may have changed.
-- Assumes nothing.
use Rattle.std.specs.Prelude.{ℕ, zero, suc, ◌+◌, ◌*◌, ◌≤◌, ◌<◌, ◌≡◌, Bool, true, false, eqb, get_or, drop}
use Rattle.std.proofs.Math.Path.{refl, sym, ap}
use Rattle.std.proofs.Common.{◌∙◌, arith, length-take, length-drop, drop_of_length-le, ext_get_or, get_or-take, get_or-drop}
use mathlib.Core.List.{List, [], ◌∷◌, ◌++◌, map, append_assoc, append-nil}
use Rattle.std.proofs.Math.Option.{Option, none, some}
use Rattle.std.proofs.Math.Decide.{ℕ_discrete}
use borrow.Author.Tests.{eqb-true, eqb-false, ne_eqb}
use Rattle.std.proofs.Math.ListN.{length, get_elem?}
use Rattle.listings.specs.Bytes.{pick}
use Rattle.listings.specs.Every.{All, all[], all∷}
use Rattle.listings.specs.Listing.{Name, Tier, static, framed, dispatched, Listing}
use Rattle.listings.specs.Records.{detail_of, tier_number}
use Rattle.graph.specs.Lists.{each, list}
use Rattle.graph_laws.specs.Adding.{node_number}
use Rattle.graph_laws.specs.Members.{all_map}
use Rattle.graph.specs.Nodes.{NodeStmt, Node}
use Rattle.graph.specs.NodeWords.{stmt_number}
use Rattle.graph.specs.Targets.{on_for, on_simple, dispatch_target, dispatch_targets, orphan_edges}
use Rattle.graph.specs.Graph.{wire}
use Rattle.passes.specs.ListedNodes.{StmtListed, Listed, FallsListed, SlotsCounted, keys_at, listed-counted, ForKind, is_for, is_next, is_other, for_kind, for_number, next_number}
use Rattle.passes.specs.Sets.{one_if}
use Rattle.passes.specs.ListedWhere.{listed_where, where_all}
use Rattle.passes.specs.Dispatched.{is_dispatched, dispatched_ids, not_for, not_tier, by_fall}
use Rattle.passes.specs.NextBodies.{selected_body, slot_bodies, orphan_bodies}
use Rattle.passes.specs.NextBodyLaws.{orphan_bodies_lem}
use Rattle.passes.specs.Prepared.{Prepared, Keys, dispatched_from}
use Rattle.passes.specs.NodeTables.{falling}
use Rattle.passes.specs.LineEntries.{at_place}

-- ---- the dispatched FORs that have a body

module _ (ts ks es : List ℕ) (k : ℕ) where
  for_dispatched : (v : Name) (t : Tier) (e : Option ℕ) → get_or ts (k * 12) 0 ≡ 13 → get_or ts (k * 12 + 11) 0 ≡ tier_number t → get_or es (k * 3) 0 ≡ node_number e
      → one_if (is_dispatched ts es k) k ≡ map (λ d. k) (dispatch_target v t e)
  unfolding dispatch_target tier_number list
  for_dispatched v static e w d f = rw (not_tier ts es k w (λ q. omega arith))
  for_dispatched v framed e w d f = rw (not_tier ts es k w (λ q. omega arith))
  for_dispatched v dispatched none w d f = rw (by_fall ts es k w d, f)
  for_dispatched v dispatched (some b) w d f = rw (by_fall ts es k w d, f, ne_eqb (suc b) 0 (λ q. omega arith))

  node_dispatched : (s : NodeStmt) (e : Option ℕ) → get_or ts (k * 12) 0 ≡ stmt_number s → StmtListed ts ks k s → get_or es (k * 3) 0 ≡ node_number e → ForKind s
      → one_if (is_dispatched ts es k) k ≡ map (λ d. k) (on_simple (on_for (λ v t. dispatch_target v t e) []) [] s)
  unfolding on_simple on_for detail_of
  node_dispatched s e w h f (is_for v t) = for_dispatched v t e (w ∙ for_number v t) h.detail f
  node_dispatched s e w h f (is_next m ss) = rw (not_for ts es k (λ q. omega (arith, w, q, next_number m ss)))
  node_dispatched s e w h f (is_other n) = rw (n.no_dispatch e, not_for ts es k (λ q. eqb-false (stmt_number s) 13 n.not_for (sym w ∙ q)))

-- those of the nodes below k, then those from k on
ids_from : (ts ks es : List ℕ) (ns : List Node) → Listed ts ks ns → FallsListed es ns → (k : ℕ) → k ≤ length ns → dispatched_ids ts es k ++ dispatched_from k (drop k ns) ≡ dispatched_from 0 ns
unfolding listed_where dispatched_from
ids_from ts ks es ns h f zero lt = refl
ids_from ts ks es ns h f (suc k) lt =
    let d = at_place ns k (omega arith) in
    let n = d.0 in
    let r = h k n d.1 in
    append_assoc (dispatched_ids ts es k) (one_if (is_dispatched ts es k) k) (dispatched_from (suc k) (drop (suc k) ns))
    ∙ ap (λ (l : List ℕ). dispatched_ids ts es k ++ (l ++ dispatched_from (suc k) (drop (suc k) ns))) (node_dispatched ts ks es k n.stmt n.fall r.word r.stmt (f k n d.1) (for_kind n.stmt))
    ∙ sym (ap (λ (l : List Node). dispatched_ids ts es k ++ dispatched_from k l) d.2) ∙ ids_from ts ks es ns h f k (omega arith)

pub ids_are : (ts ks es : List ℕ) (ns : List Node) → Listed ts ks ns → FallsListed es ns → dispatched_ids ts es (length ns) ≡ dispatched_from 0 ns
unfolding dispatched_from
ids_are ts ks es ns h f =
    sym (ap (λ (l : List Node). dispatched_ids ts es (length ns) ++ dispatched_from (length ns) l) (drop_of_length-le ns {i = length ns} (omega arith)) ∙ append-nil (dispatched_ids ts es (length ns)))
    ∙ ids_from ts ks es ns h f (length ns) (omega arith)

-- they are FORs
for_of : (ts es : List ℕ) (k : ℕ) → is_dispatched ts es k ≡ true → get_or ts (k * 12) 0 ≡ 13
unfolding is_dispatched
for_of ts es k = go (eqb (get_or ts (k * 12) 0) 13) _ refl
  where
    go : (x y : Bool) → eqb (get_or ts (k * 12) 0) 13 ≡ x → pick x y false ≡ true → get_or ts (k * 12) 0 ≡ 13
    go true y e t = eqb-true (get_or ts (k * 12) 0) 13 e
    go false y e t = absurd (let z : ◌≡◌ {A = ℕ} 0 1 = cc in omega arith)

ids_fors : (ts es : List ℕ) (n : ℕ) → All (λ (o : ℕ). get_or ts (o * 12) 0 ≡ 13) (dispatched_ids ts es n)
ids_fors ts es n = where_all (is_dispatched ts es) (λ (o : ℕ). get_or ts (o * 12) 0 ≡ 13) n (λ c lt e. for_of ts es c e)

-- ---- arguments that have changed elsewhere

module _ (es ks args : List ℕ) where
  same_selected : {os : List ℕ} → All (λ (o : ℕ). get_or args (o * 64) 0 ≡ get_or ks (o * 64) 0) os → (key : ℕ) → slot_bodies args es os key ≡ slot_bodies ks es os key
  unfolding slot_bodies selected_body each
  same_selected all[] key = refl
  same_selected (all∷ p ps) key = rw (p, same_selected ps key)

  same-slots : {os : List ℕ} → All (λ (o : ℕ). get_or args (o * 64) 0 ≡ get_or ks (o * 64) 0) os → (vs : List ℕ) → each (slot_bodies args es os) vs ≡ each (slot_bodies ks es os) vs
  unfolding each
  same-slots h [] = refl
  same-slots h (v ∷ vs) = rw (same_selected h v, same-slots h vs)

  same_keys : (ts : List ℕ) (i : ℕ) → length args ≡ length ks → get_or ts (i * 12 + 10) 0 ≤ 64 → ((j : ℕ) → j < 64 → get_or args (i * 64 + j) 0 ≡ get_or ks (i * 64 + j) 0) → keys_at ts args i ≡ keys_at ts ks i
  same_keys ts i s c h =
      let n = get_or ts (i * 12 + 10) 0 in
      let a = length-take n (drop (i * 64) args) in
      let l : length (keys_at ts args i) ≡ length (keys_at ts ks i) = simp (length-take, length-drop) (rw s) in
      ext_get_or 0 (keys_at ts args i) (keys_at ts ks i) l (λ j g.
      let b : j < n = omega (arith, a) in
      get_or-take n (drop (i * 64) args) j 0 b ∙ get_or-drop (i * 64) args j 0 ∙ h j (omega arith) ∙ sym (get_or-take n (drop (i * 64) ks) j 0 b ∙ get_or-drop (i * 64) ks j 0))

-- the NEXT's own row and the FORs' names are kept, so its targets are
pub orphan_kept : (ts ks args es : List ℕ) (n i : ℕ) → SlotsCounted ts i → length args ≡ length ks → Keys ts ks args i → orphan_bodies ts args es (dispatched_ids ts es n) i ≡ orphan_bodies ts ks es (dispatched_ids ts es n) i
unfolding orphan_bodies
orphan_kept ts ks args es n i c s h =
    elim (ℕ_discrete (get_or ts (i * 12) 0) 14) [
      | yes e ↦
          let k = h e in
          let f = all_map (λ (o : ℕ) w. k.names o w) (ids_fors ts es n) in
          rw (same_keys es ks args ts i s (c e) k.own, same-slots es ks args f (keys_at ts ks i))
      | no e ↦ rw (ne_eqb (get_or ts (i * 12) 0) 14 e)
    ]

-- ---- of a prepared listing

module _ {L : Listing} {stmts ks entries falls links frames ds : List ℕ} {lines n : ℕ} (P : Prepared L stmts ks entries falls links frames ds lines n) where
  pub dispatched_are : ds ≡ dispatched_ids stmts falls n
  dispatched_are =
      P.dispatching ∙ sym (ids_are stmts ks falls (wire L).nodes P.listed (falling P)) ∙ ap (dispatched_ids stmts falls) (sym P.nodes_are)

  pub slots-counted : (i : ℕ) → i < n → SlotsCounted stmts i
  slots-counted i h = listed-counted stmts ks (wire L).nodes P.listed i (omega (arith, P.nodes_are))

  -- what the code adds for node i's slots, by the definition
  pub orphan_are : (args : List ℕ) (i : ℕ) (x : Node) → i < n → get_elem? (wire L).nodes i ≡ some x → Keys stmts ks args i → length args ≡ length ks
      → orphan_bodies stmts args falls ds i ≡ orphan_edges (dispatch_targets (wire L).nodes) x.stmt
  orphan_are args i x h e k s =
      ap (λ (l : List ℕ). orphan_bodies stmts args falls l i) dispatched_are ∙ orphan_kept stmts ks args falls n i (slots-counted i h) s k
      ∙ ap (λ (m : ℕ). orphan_bodies stmts ks falls (dispatched_ids stmts falls m) i) P.nodes_are
      ∙ orphan_bodies_lem stmts ks falls (wire L).nodes P.listed (falling P) (omega (arith, P.nodes_are, P.args_fit)) i x e (omega (arith, P.nodes_are))
