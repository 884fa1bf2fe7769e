-- The dispatched FORs that have a body, in reading order, as the tables have them. Assumes nothing.
use Rattle.std.specs.Prelude.{ℕ, zero, suc, ◌+◌, ◌*◌, ◌≤◌, ◌≡◌, Bool, false, not, List, [], ◌∷◌, ◌++◌, eqb, length, take}
use Rattle.std.proofs.Common.{sym, ap, ◌∙◌, take_all}
use Rattle.std.proofs.Math.Option.{Option, none, some}
use native.Mathlib.Omega.{arith}
use borrow.Author.Tests.{eq-eqb, ne_eqb, eqb-false}
use Rattle.std.proofs.Math.ListN.{get_or, get_elem?}
use Rattle.layout.specs.Layout.{for_word, dispatched_tier}
use Rattle.listings.specs.Bytes.{pick}
use Rattle.listings.specs.Listing.{Name, Tier, static, framed, dispatched}
use Rattle.listings.specs.ListingText.{NameOk, SimpleOk}
use Rattle.listings.specs.Records.{name_key, args_of, detail_of, tier_number}
use Rattle.graph.specs.Lists.{each, list}
use Rattle.graph_laws.specs.Adding.{node_number}
use Rattle.graph.specs.Nodes.{NodeStmt, Node}
use Rattle.graph.specs.NodeWords.{stmt_number}
use Rattle.graph.specs.Targets.{on_for, on_simple, dispatch_target, dispatch_targets}
use Rattle.passes.specs.ListedNodes.{StmtListed, Listed, FallsListed, ForKind, is_for, is_next, is_other, for_kind, for_number, next_number}
use Rattle.passes.specs.Growing.{each_snoc}
use Rattle.passes.specs.Sets.{one_if}
use Rattle.passes.specs.ListedWhere.{listed_where}
use Rattle.passes.specs.LineEntries.{at_place}

-- ts: the records; es: where nodes fall. A FOR, dispatched, that falls:
unfoldable pub is_dispatched : List ℕ → List ℕ → ℕ → Bool
is_dispatched ts es k = pick (eqb (get_or ts (k * 12) 0) for_word) (pick (eqb (get_or ts (k * 12 + 11) 0) dispatched_tier) (not (eqb (get_or es (k * 3) 0) 0)) false) false

-- those among the nodes below n
abbrev pub dispatched_ids : List ℕ → List ℕ → ℕ → List ℕ
dispatched_ids ts es = listed_where (is_dispatched ts es)

-- ---- the test

module _ (ts es : List ℕ) (k : ℕ) where
  pub not_for : (get_or ts (k * 12) 0 ≡ 13 → ⊥) → is_dispatched ts es k ≡ false
  unfolding is_dispatched
  not_for h = rw (ne_eqb (get_or ts (k * 12) 0) 13 h)

  pub not_tier : get_or ts (k * 12) 0 ≡ 13 → (get_or ts (k * 12 + 11) 0 ≡ 2 → ⊥) → is_dispatched ts es k ≡ false
  unfolding is_dispatched
  not_tier e h = rw (eq-eqb (get_or ts (k * 12) 0) 13 e, ne_eqb (get_or ts (k * 12 + 11) 0) 2 h)

  pub by_fall : get_or ts (k * 12) 0 ≡ 13 → get_or ts (k * 12 + 11) 0 ≡ 2 → is_dispatched ts es k ≡ not (eqb (get_or es (k * 3) 0) 0)
  unfolding is_dispatched
  by_fall e h = rw (eq-eqb (get_or ts (k * 12) 0) 13 e, eq-eqb (get_or ts (k * 12 + 11) 0) 2 h)

-- ---- they are the targets of the definition

-- side by side: a FOR o, its name by the key in its row, and its body, where it falls
pub data Bodies (ks es : List ℕ) : List ℕ → List (Name × ℕ) → Type 0 where
  bodies[] : Bodies ks es [] []
  bodies∷ : {o b : ℕ} {v : Name} {os : List ℕ} {ds : List (Name × ℕ)} → NameOk v → get_or ks (o * 64) 0 ≡ name_key v → get_or es (o * 3) 0 ≡ suc b → Bodies ks es os ds → Bodies ks es (o ∷ os) ((v, b) ∷ ds)

bodies-append : {ks es os ps : List ℕ} {ds gs : List (Name × ℕ)} → Bodies ks es os ds → Bodies ks es ps gs → Bodies ks es (os ++ ps) (ds ++ gs)
bodies-append bodies[] c = c
bodies-append (bodies∷ h k f b) c = bodies∷ h k f (bodies-append b c)

abbrev target : NodeStmt → Option ℕ → List (Name × ℕ)
target s e = on_simple (on_for (λ v t. dispatch_target v t e) []) [] s

module _ (ts ks es : List ℕ) (k : ℕ) where
  for_bodies : (v : Name) (t : Tier) (e : Option ℕ) → NameOk v → get_or ks (k * 64) 0 ≡ name_key v → get_or ts (k * 12) 0 ≡ 13 → get_or ts (k * 12 + 11) 0 ≡ tier_number t → get_or es (k * 3) 0 ≡ node_number e
      → Bodies ks es (one_if (is_dispatched ts es k) k) (dispatch_target v t e)
  unfolding dispatch_target tier_number list
  for_bodies v static e h n w d f = rw (not_tier ts es k w (λ q. omega arith)) bodies[]
  for_bodies v framed e h n w d f = rw (not_tier ts es k w (λ q. omega arith)) bodies[]
  for_bodies v dispatched none h n w d f = rw (by_fall ts es k w d, f) bodies[]
  for_bodies v dispatched (some b) h n w d f = rw (by_fall ts es k w d, f, ne_eqb (suc b) 0 (λ q. omega arith)) (bodies∷ h n f bodies[])

  pub node_bodies : (s : NodeStmt) (e : Option ℕ) → get_or ts (k * 12) 0 ≡ stmt_number s → StmtListed ts ks k s → get_or es (k * 3) 0 ≡ node_number e → ForKind s
      → Bodies ks es (one_if (is_dispatched ts es k) k) (target s e)
  unfolding on_simple on_for args_of detail_of SimpleOk
  node_bodies s e w h f (is_for v t) =
      let z : k * 64 ≡ k * 64 + 0 = omega arith in
      for_bodies v t e h.names (ap (λ (x : ℕ). get_or ks x 0) z ∙ h.args 0 (omega arith)) (w ∙ for_number v t) h.detail f
  node_bodies s e w h f (is_next m ss) = rw (not_for ts es k (λ q. omega (arith, w, q, next_number m ss))) bodies[]
  node_bodies s e w h f (is_other n) = rw (n.no_dispatch e, not_for ts es k (λ q. eqb-false (stmt_number s) 13 n.not_for (sym w ∙ q))) bodies[]

pub take_node : {A : Type 0} (l : List A) (k : ℕ) (a : A) → get_elem? l k ≡ some a → take (suc k) l ≡ take k l ++ (a ∷ [])
take_node [] k a e = absurd (let z : ◌≡◌ {A = ℕ} 0 1 = cc in omega arith)
take_node (x ∷ l) zero a e = let q : x ≡ a = cc in rw q
take_node (x ∷ l) (suc k) a e = ap (λ y. x ∷ y) (take_node l k a e)

bodies_upto : (ts ks es : List ℕ) (ns : List Node) → Listed ts ks ns → FallsListed es ns → (k : ℕ) → k ≤ length ns → Bodies ks es (dispatched_ids ts es k) (dispatch_targets (take k ns))
unfolding listed_where dispatch_targets each
bodies_upto ts ks es ns h f zero lt = bodies[]
bodies_upto ts ks es ns h f (suc k) lt =
    let d = at_place ns k (omega arith) in
    let n = d.0 in
    let r = h k n d.1 in
    rw (take_node ns k n d.1, each_snoc) (bodies-append (bodies_upto ts ks es ns h f k (omega arith)) (node_bodies ts ks es k n.stmt n.fall r.word r.stmt (f k n d.1) (for_kind n.stmt)))

-- "the bodies of dispatched FORs in reading order": the name of each with where it falls
pub bodies_are : (ts ks es : List ℕ) (ns : List Node) → Listed ts ks ns → FallsListed es ns → Bodies ks es (dispatched_ids ts es (length ns)) (dispatch_targets ns)
bodies_are ts ks es ns h f = let e : take (length ns) ns ≡ ns = take_all (length ns) ns (omega arith) in rw e at (bodies_upto ts ks es ns h f (length ns) (omega arith))
