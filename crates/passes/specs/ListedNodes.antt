-- A list of nodes as the tables hold it: the entries of the records that the passes over FOR and NEXT read. Assumes
-- nothing.
use Rattle.std.specs.Prelude.{ℕ, ◌+◌, ◌*◌, ◌<◌, ◌≤◌, ◌≡◌, refl, Bool, true, false, List, [], ◌∷◌, eqb, length, get_or, take, drop}
use Rattle.std.proofs.Common.{sym, ap, subst, ◌∙◌, arith, length-drop, ext_get_or, get_or-take, get_or-drop, length-take-le, eq-eqb, ne_eqb}
use Rattle.std.proofs.Math.Option.{Option, some}
use Rattle.std.proofs.Math.ListN.{get_elem?}
use Rattle.std.proofs.lemmas.Bool.{eqb-false}
use Rattle.layout.specs.Layout.{next_word}
use Rattle.listings.specs.Bytes.{same, bytes}
use Rattle.listings.specs.Listing.{Name, Tier, Mark, Slot, Simple, jump, on, for, next, block, bare, if, ifelse, rcomp}
use Rattle.listings.specs.ListingText.{simple_word, cond_word, NameOk, SimpleOk}
use Rattle.listings.specs.Rows.{opening_words}
use Rattle.listings.specs.WordTable.{words, first, word_index}
use Rattle.listing_laws.specs.WordKinds.{jump_never, on_never, block_never, bare_never}
use Rattle.listing_laws.specs.WordText.{same_equal}
use Rattle.listings.specs.Records.{name_key, args_of, detail_of}
use Rattle.tokens.specs.Names.{key_injective, key_not-zero}
use Rattle.graph_laws.specs.Adding.{node_number}
use Rattle.graph.specs.Nodes.{NodeStmt, simple, cond, Node}
use Rattle.graph.specs.NodeWords.{stmt_word, stmt_number}
use Rattle.graph.specs.Targets.{on_for, on_next, on_simple, dispatch_target, orphan_edges}
use Rattle.graph.specs.Edges.{keep_fors, Stack, loop_stack, do_stack, Move, rule_of, on_stack, no_moves, moves_of, node_moves}
use Rattle.passes.specs.LineEntries.{at_place}

-- ts: 12 entries a statement; ks: 64 arguments a statement. Of statement i, which holds no others:
pub record SimpleListed (ts ks : List ℕ) (i : ℕ) (o : Simple) : Type 0 where
  pub count : get_or ts (i * 12 + 10) 0 ≡ length (args_of o)
  pub few : length (args_of o) ≤ 64
  pub detail : get_or ts (i * 12 + 11) 0 ≡ detail_of o
  pub args : (j : ℕ) → j < 64 → get_or ks (i * 64 + j) 0 ≡ get_or (args_of o) j 0
  pub names : SimpleOk o

abbrev pub StmtListed : List ℕ → List ℕ → ℕ → NodeStmt → Type 0
StmtListed ts ks i (simple o) = SimpleListed ts ks i o
StmtListed ts ks i (cond w a b) = Unit {0}

pub record NodeListed (ts ks : List ℕ) (i : ℕ) (n : Node) : Type 0 where
  pub word : get_or ts (i * 12) 0 ≡ stmt_number n.stmt
  pub stmt : StmtListed ts ks i n.stmt

-- the tables hold these nodes
abbrev pub Listed : List ℕ → List ℕ → List Node → Type 0
Listed ts ks ns = (i : ℕ) (n : Node) → get_elem? ns i ≡ some n → NodeListed ts ks i n

-- 3 entries a node: the first is one more than where it falls, or 0
abbrev pub FallsListed : List ℕ → List Node → Type 0
FallsListed es ns = (i : ℕ) (n : Node) → get_elem? ns i ≡ some n → get_or es (i * 3) 0 ≡ node_number n.fall

-- a NEXT has at most 64 slots
abbrev pub SlotsCounted : List ℕ → ℕ → Type 0
SlotsCounted ts i = get_or ts (i * 12) 0 ≡ next_word → get_or ts (i * 12 + 10) 0 ≤ 64

abbrev pub AllCounted : List ℕ → ℕ → Type 0
AllCounted ts n = (i : ℕ) → i < n → SlotsCounted ts i

-- the arguments of statement i
abbrev pub keys_at : List ℕ → List ℕ → ℕ → List ℕ
keys_at ts ks i = take (get_or ts (i * 12 + 10) 0) (drop (i * 64) ks)

-- ---- FOR, NEXT, and the others

pub record NeitherIs (s : NodeStmt) : Type 0 where
  pub not_for : eqb (stmt_number s) 13 ≡ false
  pub not_next : eqb (stmt_number s) 14 ≡ false
  pub keeps : (node_moves s).fors ≡ keep_fors
  pub no_dispatch : (e : Option ℕ) → on_simple (on_for (λ v t. dispatch_target v t e) []) [] s ≡ []
  pub no_orphan : (ds : List (Name × ℕ)) → orphan_edges ds s ≡ []

pub data ForKind : NodeStmt → Type 0 where
  is_for : (v : Name) (t : Tier) → ForKind (simple (for v t))
  is_next : (m : Mark) (ss : List Slot) → ForKind (simple (next m ss))
  is_other : {s : NodeStmt} → NeitherIs s → ForKind s

pub for_number : (v : Name) (t : Tier) → stmt_number (simple (for v t)) ≡ 13
unfolding stmt_number stmt_word simple_word word_index words first same bytes opening_words
for_number v t = refl

pub next_number : (m : Mark) (ss : List Slot) → stmt_number (simple (next m ss)) ≡ 14
unfolding stmt_number stmt_word simple_word word_index words first same bytes opening_words
next_number m ss = refl

neither : {s : NodeStmt} → eqb (stmt_number s) 13 ≡ false → eqb (stmt_number s) 14 ≡ false → (node_moves s).fors ≡ keep_fors
    → ((e : Option ℕ) → on_simple (on_for (λ v t. dispatch_target v t e) []) [] s ≡ []) → ((ds : List (Name × ℕ)) → orphan_edges ds s ≡ []) → ForKind s
neither f n k d o = is_other (record { not_for = f; not_next = n; keeps = k; no_dispatch = d; no_orphan = o })

fors_kept : (s : Stack) (m : Move) → (on_stack s m).fors ≡ keep_fors
unfolding on_stack
fors_kept loop_stack m = refl
fors_kept do_stack m = refl

-- the words are tested by kind, and not computed
simple_kind : (o : Simple) → ForKind (simple o)
unfolding stmt_number stmt_word simple_word node_moves moves_of no_moves on_simple on_for on_next orphan_edges
simple_kind (for v t) = is_for v t
simple_kind (next m ss) = is_next m ss
simple_kind (jump w t) = neither (jump_never (λ k. eqb k 13) refl w) (jump_never (λ k. eqb k 14) refl w) refl (λ e. refl) (λ ds. refl)
simple_kind (on w ts) = neither (on_never (λ k. eqb k 13) refl w) (on_never (λ k. eqb k 14) refl w) refl (λ e. refl) (λ ds. refl)
simple_kind (block w) =
    let r = rule_of w in
    neither (block_never (λ k. eqb k 13) refl w) (block_never (λ k. eqb k 14) refl w) (fors_kept r.stack r.move) (λ e. refl) (λ ds. refl)
simple_kind (bare w) = neither (bare_never (λ k. eqb k 13) refl w) (bare_never (λ k. eqb k 14) refl w) refl (λ e. refl) (λ ds. refl)

pub for_kind : (s : NodeStmt) → ForKind s
unfolding stmt_number stmt_word cond_word word_index words first same bytes opening_words node_moves no_moves on_simple orphan_edges
for_kind (simple o) = simple_kind o
for_kind (cond if a b) = neither refl refl refl (λ e. refl) (λ ds. refl)
for_kind (cond ifelse a b) = neither refl refl refl (λ e. refl) (λ ds. refl)
for_kind (cond rcomp a b) = neither refl refl refl (λ e. refl) (λ ds. refl)

-- ---- names by their keys

pub key_some : (v : Name) → NameOk v → name_key v ≡ 0 → ⊥
key_some v h e = omega (arith, key_not-zero v h)

pub same_self : (v : List ℕ) → same v v ≡ true
unfolding same
same_self [] = refl
same_self (b ∷ v) = rw (eq-eqb b b refl) (same_self v)

pub key_same : (v w : Name) → NameOk v → NameOk w → eqb (name_key w) (name_key v) ≡ same v w
key_same v w g h = go (same v w) refl
  where
    go : (t : Bool) → same v w ≡ t → eqb (name_key w) (name_key v) ≡ t
    go true e = eq-eqb (name_key w) (name_key v) (ap name_key (sym (same_equal v w e)))
    go false e =
        ne_eqb (name_key w) (name_key v) (λ q.
        let p : v ≡ w = key_injective v w g h (sym q) in
        let r : same v w ≡ true = subst (λ (x : List ℕ). same v x ≡ true) p (same_self v) in
        let z : true ≡ false = sym r ∙ e in
        absurd (let y : ◌≡◌ {A = ℕ} 0 1 = cc in omega arith))

-- ---- what a listed node's tests say

module _ (ts ks : List ℕ) (i : ℕ) where
  pub keys_are : (o : Simple) → SimpleListed ts ks i o → i * 64 + 64 ≤ length ks → keys_at ts ks i ≡ args_of o
  keys_are o h room =
      let c : length (take (length (args_of o)) (drop (i * 64) ks)) ≡ length (args_of o) = length-take-le (length (args_of o)) (drop (i * 64) ks) (simp length-drop (omega (arith, h.few))) in
      rw h.count (ext_get_or 0 (take (length (args_of o)) (drop (i * 64) ks)) (args_of o) c (λ j g.
      let k : j < length (args_of o) = omega (arith, c) in
      get_or-take (length (args_of o)) (drop (i * 64) ks) j 0 k ∙ get_or-drop (i * 64) ks j 0 ∙ h.args j (omega (arith, h.few))))

  next_few : (s : NodeStmt) → get_or ts (i * 12) 0 ≡ stmt_number s → StmtListed ts ks i s → ForKind s → SlotsCounted ts i
  next_few s w h (is_for v t) e = omega (arith, w, for_number v t)
  next_few s w h (is_next m ss) e = omega (arith, h.count, h.few)
  next_few s w h (is_other n) e = absurd (eqb-false (stmt_number s) 14 n.not_next (sym w ∙ e))

-- so a NEXT of theirs has at most 64 slots
pub listed-counted : (ts ks : List ℕ) (ns : List Node) → Listed ts ks ns → AllCounted ts (length ns)
listed-counted ts ks ns h i lt =
    let d = at_place ns i lt in
    let s = d.0.stmt in
    next_few ts ks i s (h i d.0 d.1).word (h i d.0 d.1).stmt (for_kind s)
