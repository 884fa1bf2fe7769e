-- The pass over the FOR stack makes the rows of links; each NEXT's row lists what PerNode says that it pops. Assumes
-- nothing.
use Prim.Native.Nat.{ℕ, zero, suc, ◌+◌, ◌*◌, ◌≤◌, ◌<◌}
use Rattle.std.specs.Prelude.{◌≡◌, Bool}
use Rattle.std.proofs.Math.Path.{refl, sym, ap, subst}
use Rattle.std.proofs.Common.{◌∙◌, add-one, take-append-drop, drop_of_length-le, take_at, drop_at, length-take-le, take-take}
use Rattle.std.proofs.Math.Bool.{true, false}
use mathlib.Core.List.{List, [], ◌∷◌, ◌++◌, map, append_assoc}
use Rattle.std.proofs.Math.Option.{Option, none, some}
use native.Mathlib.Omega.{arith}
use Rattle.std.proofs.Math.ListN.{length, get_or, get_elem?, take, drop, length-append, length-drop}
use Rattle.std.proofs.Math.Seq.{drop-drop, drop-append-add}
use Rattle.std.proofs.lemmas.List.{drop-append-le}
use Rattle.listings.specs.Bytes.{same, pick}
use Rattle.listings.specs.Every.{All, all[], all∷, all_append}
use Rattle.listings.specs.Listing.{Name, Mark, Slot, next}
use Rattle.listings.specs.ListingText.{NameOk, SlotsOk, SimpleOk}
use Rattle.listings.specs.Records.{name_key, slot_key, args_of}
use Rattle.graph.specs.Lists.{each, list}
use Rattle.graph_laws.specs.Adding.{node_number, decode, decode_number}
use Rattle.graph_laws.specs.Members.{all_map}
use Rattle.graph.specs.Nodes.{NodeStmt, simple, Node}
use Rattle.graph.specs.NodeWords.{stmt_number}
use Rattle.graph.specs.Edges.{ForMove, keep_fors, push_for, pop_fors, on_fors, moves_of, node_moves}
use Rattle.graph_laws.specs.PerNode.{Openers, no_openers, find_opener, openers_under, opener_found, pop_opener, openers_popped, openers_left, for_openers_after, after, pops, Fact, fact_of, facts}
use Rattle.passes.specs.FrameStacks.{top_of, Holds}
use Rattle.passes.specs.ListedNodes.{StmtListed, Listed, keys_at, keys_are, ForKind, is_for, is_next, is_other, for_kind, for_number, next_number, key_some, key_same}
use Rattle.passes.specs.ForStack.{find_key, found_number, under_found, pop_key, key_links, keys_left, push_key, fors_open, fors_linked, NodeLinked}
use Rattle.passes.specs.ForStackLaws.{open_le}
use Rattle.passes.specs.ForLinks.{slot_links, linked_row, linked_rows, ForsLinked, popped_by}
use Rattle.passes.specs.LineEntries.{at_place}

-- ---- open FORs by name, and by key

abbrev pub ids : List (Name × ℕ) → List ℕ
ids fs = map (λ p. p.1) fs

-- an open FOR's row of arguments begins with its name's key
abbrev pub Named : List ℕ → Name × ℕ → Type 0
Named ks p = NameOk p.0 × (get_or ks (p.1 * 64) 0 ≡ name_key p.0)

module _ (ks : List ℕ) where
  data Alike : Option (ℕ × List ℕ) → Option (ℕ × List (Name × ℕ)) → Type 0 where
    missing : Alike none none
    found : {o : ℕ} {fs : List (Name × ℕ)} → All (Named ks) fs → Alike (some (o, ids fs)) (some (o, fs))

  find_alike : (v : Name) → NameOk v → {fs : List (Name × ℕ)} → All (Named ks) fs → Alike (find_key ks (name_key v) (ids fs)) (find_opener v fs)
  unfolding find_key find_opener
  find_alike v h all[] = missing
  find_alike v h (all∷ {a = p} {l = fs} q qs) = rw (q.1, key_same v p.0 h q.0) (go (same v p.0) (find_alike v h qs))
    where
      go : (x : Bool) {a : Option (ℕ × List ℕ)} {b : Option (ℕ × List (Name × ℕ))} → Alike a b → Alike (pick x (some (p.1, ids fs)) a) (pick x (some (p.1, fs)) b)
      go true r = found qs
      go false r = r

  -- what a slot pops and leaves, and what a FOR leaves
  record PopAlike (a : ℕ × List ℕ) (b : Option ℕ × List (Name × ℕ)) : Type 0 where
    number : a.0 ≡ node_number b.0
    left : a.1 ≡ ids b.1
    named : All (Named ks) b.1

  found_alike : {fs : List (Name × ℕ)} → All (Named ks) fs → {a : Option (ℕ × List ℕ)} {b : Option (ℕ × List (Name × ℕ))} → Alike a b → PopAlike (found_number a, under_found (ids fs) a) (opener_found fs b)
  unfolding opener_found
  found_alike qs missing = record { number = refl; left = refl; named = qs }
  found_alike qs (found r) = record { number = refl; left = refl; named = r }

  under_alike : {fs : List (Name × ℕ)} → All (Named ks) fs → {a : Option (ℕ × List ℕ)} {b : Option (ℕ × List (Name × ℕ))} → Alike a b → (under_found (ids fs) a ≡ ids (openers_under fs b)) × All (Named ks) (openers_under fs b)
  unfolding openers_under
  under_alike qs missing = (refl, qs)
  under_alike qs (found r) = (refl, r)

  name_alike : (k : ℕ) (v : Name) {fs : List (Name × ℕ)} → k ≡ name_key v → NameOk v → All (Named ks) fs → PopAlike (pop_key ks k (ids fs)) (pop_opener (some v) fs)
  unfolding pop_key pop_opener
  name_alike zero v e h qs = absurd (key_some v h (sym e))
  name_alike (suc k) v {fs} e h qs = rw e (found_alike qs (find_alike v h qs))

  any_alike : {fs : List (Name × ℕ)} → All (Named ks) fs → PopAlike (pop_key ks 0 (ids fs)) (pop_opener none fs)
  unfolding pop_key pop_opener
  any_alike all[] = record { number = refl; left = refl; named = all[] }
  any_alike (all∷ q qs) = record { number = refl; left = refl; named = qs }

  record SlotsAlike (ss : List Slot) (fs : List (Name × ℕ)) : Type 0 where
    links : key_links ks (map slot_key ss) (ids fs) ≡ slot_links ss fs
    left : keys_left ks (map slot_key ss) (ids fs) ≡ ids (openers_left ss fs)
    named : All (Named ks) (openers_left ss fs)

  slots_alike : (ss : List Slot) → SlotsOk ss → {fs : List (Name × ℕ)} → All (Named ks) fs → SlotsAlike ss fs
  unfolding key_links keys_left slot_links openers_left SlotsOk slot_key
  slots_alike [] h qs = record { links = refl; left = refl; named = qs }
  slots_alike (none ∷ ss) h {fs} qs =
      let p = any_alike qs in
      let r = slots_alike ss h p.named in
      record { links = rw (p.left, p.number, r.links); left = ap (keys_left ks (map slot_key ss)) p.left ∙ r.left; named = r.named }
  slots_alike (some v ∷ ss) h {fs} qs =
      let p = name_alike (name_key v) v refl h.0 qs in
      let r = slots_alike ss h.1 p.named in
      record { links = rw (p.left, p.number, r.links); left = ap (keys_left ks (map slot_key ss)) p.left ∙ r.left; named = r.named }

slot_keys : (ss : List Slot) → length (map slot_key ss) ≡ length ss
slot_keys [] = refl
slot_keys (s ∷ ss) = ap suc (slot_keys ss)

-- ---- one node

module _ (ts ks : List ℕ) (i : ℕ) where
  -- by key, node i does what its move does
  record NodeAlike (m : ForMove) (s : NodeStmt) (fs : List (Name × ℕ)) (t : List ℕ) : Type 0 where
    opened : fors_open ks (stmt_number s) i (keys_at ts ks i) (ids fs) ≡ ids (for_openers_after i m fs)
    linked : fors_linked ks (stmt_number s) i (keys_at ts ks i) (ids fs) t ≡ take (i * 64) t ++ linked_row m fs (drop (i * 64) t)
    named : All (Named ks) (for_openers_after i m fs)

  for_alike : (v : Name) (k : ℕ) → k ≡ name_key v → NameOk v → get_or ks (i * 64) 0 ≡ k → {fs : List (Name × ℕ)} → All (Named ks) fs
      → (push_key ks i (ids fs) ≡ ids (for_openers_after i (push_for v) fs)) × All (Named ks) (for_openers_after i (push_for v) fs)
  unfolding push_key for_openers_after
  for_alike v k q h e {fs} qs =
      let u = under_alike ks qs (find_alike ks v h qs) in
      (rw (e, q) (ap (λ x. i ∷ x) u.0), all∷ (h, e ∙ q) u.1)

  row_links : (vs : List ℕ) (ss : List Slot) (fs : List (Name × ℕ)) (t : List ℕ) → key_links ks vs (ids fs) ≡ slot_links ss fs → length vs ≡ length ss
      → key_links ks vs (ids fs) ++ drop (i * 64 + length vs) t ≡ slot_links ss fs ++ drop (length ss) (drop (i * 64) t)
  row_links vs ss fs t e n = rw (e, n, drop-drop (length ss) (i * 64) t)

  node_alike : (s : NodeStmt) → StmtListed ts ks i s → i * 64 + 64 ≤ length ks → ForKind s → {fs : List (Name × ℕ)} → All (Named ks) fs → (t : List ℕ) → i * 64 + 64 ≤ length t
      → NodeAlike (node_moves s).fors s fs t
  unfolding node_moves moves_of on_fors fors_open fors_linked linked_row for_openers_after args_of SimpleOk
  node_alike s h room (is_for v tier) {fs} qs t g =
      let z : i * 64 ≡ i * 64 + 0 = omega arith in
      let r = for_alike v (name_key v) refl h.names (ap (λ (x : ℕ). get_or ks x 0) z ∙ h.args 0 (omega arith)) qs in
      record { opened = rw (for_number v tier) r.0; linked = rw (for_number v tier) (sym (take-append-drop (i * 64) t)); named = r.1 }
  node_alike s h room (is_next m ss) {fs} qs t g =
      let k : keys_at ts ks i ≡ map slot_key ss = keys_are ts ks i (next m ss) h room in
      let r = slots_alike ks ss h.names qs in
      record { opened = rw (next_number m ss, k) r.left; linked = rw (next_number m ss, k) (ap (λ x. take (i * 64) t ++ x) (row_links (map slot_key ss) ss fs t r.links (slot_keys ss))); named = r.named }
  node_alike s h room (is_other n) {fs} qs t g =
      let e = n.keeps in
      record { opened = rw (e, n.not_for, n.not_next); linked = rw (e, n.not_next) (sym (take-append-drop (i * 64) t)); named = rw e qs }

-- ---- the row of a node is 64 entries

abbrev pub MoveFits : ForMove → Type 0
MoveFits keep_fors = Unit {0}
MoveFits (push_for v) = Unit {0}
MoveFits (pop_fors ss) = length ss ≤ 64

pub slots_length : (ss : List Slot) (fs : List (Name × ℕ)) → length (slot_links ss fs) ≡ length ss
unfolding slot_links
slots_length [] fs = refl
slots_length (s ∷ ss) fs = ap suc (slots_length ss (pop_opener s fs).1)

row_length : (m : ForMove) (fs : List (Name × ℕ)) (row : List ℕ) → MoveFits m → 64 ≤ length row → length (linked_row m fs (take 64 row)) ≡ 64
unfolding linked_row
row_length keep_fors fs row f h = length-take-le 64 row h
row_length (push_for v) fs row f h = length-take-le 64 row h
row_length (pop_fors ss) fs row f h =
    simp (length-append, length-drop) (omega (arith, slots_length ss fs, length-take-le 64 row h, f))

row_split : (m : ForMove) (fs : List (Name × ℕ)) (row : List ℕ) → MoveFits m → 64 ≤ length row → linked_row m fs row ≡ linked_row m fs (take 64 row) ++ drop 64 row
unfolding linked_row
row_split keep_fors fs row f h = sym (take-append-drop 64 row)
row_split (push_for v) fs row f h = sym (take-append-drop 64 row)
row_split (pop_fors ss) fs row f h =
    let e : drop (length ss) row ≡ drop (length ss) (take 64 row) ++ drop 64 row
    = ap (drop (length ss)) (sym (take-append-drop 64 row)) ∙ drop-append-le (length ss) (take 64 row) (drop 64 row) (omega (arith, length-take-le 64 row h, f)) in
    rw e (sym (append_assoc (slot_links ss fs) (drop (length ss) (take 64 row)) (drop 64 row)))

move_fits : (ts ks : List ℕ) (i : ℕ) (s : NodeStmt) → StmtListed ts ks i s → ForKind s → MoveFits (node_moves s).fors
unfolding node_moves moves_of on_fors args_of
move_fits ts ks i s h (is_for v t) = tt
move_fits ts ks i s h (is_next m ss) = omega (arith, h.few, slot_keys ss)
move_fits ts ks i s h (is_other n) = rw n.keeps tt

-- ---- the pass: the rows before node i are done

pub record Going (ks : List ℕ) (ns : List Node) (t₀ ws t : List ℕ) (i : ℕ) : Type 0 where
  pub done : List ℕ
  pub fors : List (Name × ℕ)
  pub size : length done ≡ i * 64
  pub made : t ≡ done ++ drop (i * 64) t₀
  pub held : Holds ws (ids fors)
  pub below : top_of (ids fors) ≤ i
  pub named : All (Named ks) fors
  pub rest : done ++ linked_rows i (drop i ns) fors (drop (i * 64) t₀) ≡ linked_rows 0 ns [] t₀

abbrev pub GoingOn : List ℕ → List ℕ → ℕ → List ℕ → List ℕ → List ℕ → ℕ → Type 0
GoingOn ts ks n t₀ ws t i = (ns : List Node) → Listed ts ks ns → length ns ≡ n → Going ks ns t₀ ws t i

pub going_start : (ts ks : List ℕ) (n : ℕ) (t ws : List ℕ) → Holds ws [] → GoingOn ts ks n t ws t 0
going_start ts ks n t ws o ns h e = record { done = []; fors = []; size = refl; made = refl; held = o; below = omega arith; named = all[]; rest = refl }

module _ (ts ks : List ℕ) (n : ℕ) (t₀ ws us t t' : List ℕ) (i : ℕ) (lt : i < n) (args : n * 64 ≤ length ks) (room : n * 64 ≤ length t₀) where
  pub going_on : GoingOn ts ks n t₀ ws t i → NodeLinked ts ks i ws us t t' → GoingOn ts ks n t₀ us t' (i + 1)
  unfolding linked_rows
  going_on p q ns h e =
      let g = p ns h e in
      let d = at_place ns i (omega arith) in
      let s = d.0.stmt in
      let m = (node_moves s).fors in
      let fs = g.fors in
      let r = h i d.0 d.1 in
      let L = drop (i * 64) t₀ in
      let k = for_kind s in
      let f = move_fits ts ks i s r.stmt k in
      let long : 64 ≤ length L = simp length-drop (omega arith) in
      let tl : i * 64 + 64 ≤ length t = rw (g.made, length-append) (omega (arith, g.size)) in
      let a = node_alike ts ks i s r.stmt (omega arith) k g.named t tl in
      let tk : take (i * 64) t ≡ g.done = rw g.made (take_at g.done L (i * 64) g.size) in
      let dr : drop (i * 64) t ≡ L = rw g.made (drop_at g.done L (i * 64) g.size) in
      let row = linked_row m fs (take 64 L) in
      let n64 : (i + 1) * 64 ≡ i * 64 + 64 = omega arith in
      let dd : drop 64 L ≡ drop ((i + 1) * 64) t₀ = drop-drop 64 (i * 64) t₀ ∙ ap (λ (x : ℕ). drop x t₀) (sym n64) in
      let vs = keys_at ts ks i in
      let split : take (i * 64) t ++ linked_row m fs (drop (i * 64) t) ≡ (g.done ++ row) ++ drop ((i + 1) * 64) t₀
      = ap (λ (x : List ℕ). x ++ linked_row m fs (drop (i * 64) t)) tk ∙ ap (λ (x : List ℕ). g.done ++ linked_row m fs x) dr
      ∙ ap (λ (x : List ℕ). g.done ++ x) (row_split m fs L f long) ∙ sym (append_assoc g.done row (drop 64 L)) ∙ ap (λ (x : List ℕ). (g.done ++ row) ++ x) dd in
      let opens : fors_open ks (get_or ts (i * 12) 0) i vs (ids fs) ≡ ids (for_openers_after i m fs) = ap (λ (w : ℕ). fors_open ks w i vs (ids fs)) r.word ∙ a.opened in
      let next : row ++ linked_rows (i + 1) (drop (i + 1) ns) (for_openers_after i m fs) (drop ((i + 1) * 64) t₀) ≡ linked_rows i (drop i ns) fs L
      = ap (λ (x : ℕ). row ++ linked_rows x (drop x ns) (for_openers_after i m fs) (drop ((i + 1) * 64) t₀)) (add-one i)
      ∙ ap (λ (x : List ℕ). row ++ linked_rows (suc i) (drop (suc i) ns) (for_openers_after i m fs) x) (sym dd) ∙ sym (ap (λ (x : List Node). linked_rows i x fs L) d.2) in
      record {
        done = g.done ++ row;
        fors = for_openers_after i m fs;
        size = simp length-append (omega (arith, g.size, row_length m fs L f long));
        made = q.links (ids fs) g.held g.below ∙ ap (λ (w : ℕ). fors_linked ks w i vs (ids fs) t) r.word ∙ a.linked ∙ split;
        held = subst (λ (x : List ℕ). Holds us x) opens (q.held (ids fs) g.held g.below);
        below = omega (arith, open_le ks (get_or ts (i * 12) 0) i vs (ids fs) g.held g.below, ap top_of opens);
        named = a.named;
        rest = append_assoc g.done row (linked_rows (i + 1) (drop (i + 1) ns) (for_openers_after i m fs) (drop ((i + 1) * 64) t₀)) ∙ ap (λ (x : List ℕ). g.done ++ x) next ∙ g.rest;
      }

pub going_end : (ts ks : List ℕ) (n : ℕ) (t₀ ws t : List ℕ) (i : ℕ) → n ≤ i → i ≤ n → GoingOn ts ks n t₀ ws t i → ForsLinked ts ks n t₀ t
unfolding linked_rows
going_end ts ks n t₀ ws t i a b p ns h e =
    let g = p ns h e in
    let l : length ns ≤ i = omega arith in
    let z : drop i ns ≡ [] = drop_of_length-le ns l in
    g.made ∙ sym (ap (λ (x : List Node). g.done ++ linked_rows i x g.fors (drop (i * 64) t₀)) z) ∙ g.rest

-- ---- the rows by node

each_number : (ss : List Slot) (fs : List (Name × ℕ)) → each decode (slot_links ss fs) ≡ openers_popped ss fs
unfolding each slot_links openers_popped
each_number [] fs = refl
each_number (s ∷ ss) fs = let r = pop_opener s fs in rw (decode_number r.0, each_number ss r.1)

-- the row of node k, by its fact: fors are the FORs open there
pub record RowLinked (t t' : List ℕ) (k : ℕ) (f : Fact) : Type 0 where
  pub fors : List (Name × ℕ)
  pub row : take 64 (drop (k * 64) t') ≡ linked_row (node_moves f.stmt).fors fors (take 64 (drop (k * 64) t))
  pub popped : f.popped ≡ pops (node_moves f.stmt).fors fors
  pub fits : MoveFits (node_moves f.stmt).fors

abbrev pub RowsFit : List Node → Type 0
RowsFit ns = All (λ (n : Node). MoveFits (node_moves n.stmt).fors) ns

rows_by_lem : (i : ℕ) {ns : List Node} → RowsFit ns → (st : Openers) (t : List ℕ) → length ns * 64 ≤ length t → (k : ℕ) (f : Fact) → get_elem? (facts i ns st) k ≡ some f
    → RowLinked t (linked_rows i ns st.fors t) k f
unfolding linked_rows facts fact_of after
rows_by_lem i all[] st t h k f e = absurd (let z : ◌≡◌ {A = ℕ} 0 1 = cc in omega arith)
rows_by_lem i (all∷ {a = n} {l = ns} p ps) st t h zero f e =
    let m = (node_moves n.stmt).fors in
    let q : fact_of n st ≡ f = cc in
    let l : length (linked_row m st.fors (take 64 t)) ≡ 64 = row_length m st.fors t p (omega arith) in
    rw (← q) (record { fors = st.fors; row = take_at (linked_row m st.fors (take 64 t)) (linked_rows (suc i) ns (for_openers_after i m st.fors) (drop 64 t)) 64 l; popped = refl; fits = p })
rows_by_lem i (all∷ {a = n} {l = ns} p ps) st t h (suc k) f e =
    let m = (node_moves n.stmt).fors in
    let r = rows_by_lem (suc i) ps (after i (node_moves n.stmt) st) (drop 64 t) (simp length-drop (omega arith)) k f e in
    let a = linked_row m st.fors (take 64 t) in
    let b = linked_rows (suc i) ns (for_openers_after i m st.fors) (drop 64 t) in
    let z : suc k * 64 ≡ length a + k * 64 = rw (row_length m st.fors t p (omega arith)) (omega arith) in
    let x : drop (suc k * 64) (a ++ b) ≡ drop (k * 64) b = rw z (drop-append-add a b (k * 64)) in
    let w : 64 + k * 64 ≡ suc k * 64 = omega arith in
    let y : drop (k * 64) (drop 64 t) ≡ drop (suc k * 64) t = drop-drop (k * 64) 64 t ∙ ap (λ (v : ℕ). drop v t) w in
    record { fors = r.fors; row = ap (take 64) x ∙ r.row ∙ ap (λ (v : List ℕ). linked_row (node_moves f.stmt).fors r.fors (take 64 v)) y; popped = r.popped; fits = r.fits }

pub rows_fit : (ts ks : List ℕ) (ns : List Node) → Listed ts ks ns → RowsFit ns
rows_fit ts ks ns h = go 0 ns (λ k n e. move_fits ts ks k n.stmt (h k n e).stmt (for_kind n.stmt))
  where
    go : (i : ℕ) (ms : List Node) → ((k : ℕ) (n : Node) → get_elem? ms k ≡ some n → MoveFits (node_moves n.stmt).fors) → RowsFit ms
    go i [] g = all[]
    go i (n ∷ ms) g = all∷ (g 0 n refl) (go (suc i) ms (λ k. g (suc k)))

front : (m : Mark) (ss : List Slot) (fs : List (Name × ℕ)) (row t p : List ℕ) → take 64 t ≡ linked_row (node_moves (simple (next m ss))).fors fs row
    → p ≡ pops (node_moves (simple (next m ss))).fors fs → MoveFits (node_moves (simple (next m ss))).fors → each decode (take (length ss) t) ≡ p
unfolding node_moves moves_of on_fors linked_row pops
front m ss fs row t p r u v =
    let a : take (length ss) t ≡ slot_links ss fs = sym (take-take (length ss) 64 t v) ∙ ap (take (length ss)) r ∙ take_at (slot_links ss fs) (drop (length ss) row) (length ss) (slots_length ss fs) in
    ap (each decode) a ∙ each_number ss fs ∙ sym u

stays : (s : NodeStmt) (fs : List (Name × ℕ)) (row r : List ℕ) → ForKind s → (stmt_number s ≡ 14 → ⊥) → r ≡ linked_row (node_moves s).fors fs row → r ≡ row
unfolding node_moves moves_of on_fors linked_row
stays s fs row r (is_for v t) q e = e
stays s fs row r (is_next m ss) q e = absurd (q (next_number m ss))
stays s fs row r (is_other n) q e = rw n.keeps at e

module _ (ts ks : List ℕ) (ns : List Node) (h : Listed ts ks ns) (t : List ℕ) (room : length ns * 64 ≤ length t) (k : ℕ) (f : Fact) (e : get_elem? (facts 0 ns no_openers) k ≡ some f) where
  pub row_linked : RowLinked t (linked_rows 0 ns [] t) k f
  unfolding no_openers
  row_linked = rows_by_lem 0 (rows_fit ts ks ns h) no_openers t room k f e

  -- "the popped body is added": joined, a NEXT's links are the FORs that it pops
  pub next_links : (m : Mark) (ss : List Slot) → f.stmt ≡ simple (next m ss) → popped_by (linked_rows 0 ns [] t) k (length ss) ≡ f.popped
  unfolding popped_by
  next_links m ss q = go f.stmt f.popped q row_linked.row row_linked.popped row_linked.fits
    where
      go : (s : NodeStmt) (p : List ℕ) → s ≡ simple (next m ss) → take 64 (drop (k * 64) (linked_rows 0 ns [] t)) ≡ linked_row (node_moves s).fors row_linked.fors (take 64 (drop (k * 64) t))
          → p ≡ pops (node_moves s).fors row_linked.fors → MoveFits (node_moves s).fors → each decode (take (length ss) (drop (k * 64) (linked_rows 0 ns [] t))) ≡ p
      go s p q r u v = front m ss row_linked.fors (take 64 (drop (k * 64) t)) (drop (k * 64) (linked_rows 0 ns [] t)) p (rw q at r) (rw q at u) (rw q at v)

  -- any other node's links stay
  pub other_links : (stmt_number f.stmt ≡ 14 → ⊥) → take 64 (drop (k * 64) (linked_rows 0 ns [] t)) ≡ take 64 (drop (k * 64) t)
  other_links q = stays f.stmt row_linked.fors (take 64 (drop (k * 64) t)) (take 64 (drop (k * 64) (linked_rows 0 ns [] t))) (for_kind f.stmt) q row_linked.row

-- ---- what is popped stands before

module _ (b : ℕ) where
  abbrev Before : List (Name × ℕ) → Type 0
  Before fs = All (λ (p : Name × ℕ). p.1 < b) fs

  abbrev FoundBefore : Option (ℕ × List (Name × ℕ)) → Type 0
  FoundBefore none = Unit {0}
  FoundBefore (some r) = (r.0 < b) × Before r.1

  find_before : (v : Name) {fs : List (Name × ℕ)} → Before fs → FoundBefore (find_opener v fs)
  unfolding find_opener
  find_before v all[] = tt
  find_before v (all∷ {a = p} {l = fs} q qs) = go (same v p.0) (find_opener v fs) (find_before v qs)
    where
      go : (x : Bool) (s : Option (ℕ × List (Name × ℕ))) → FoundBefore s → FoundBefore (pick x (some (p.1, fs)) s)
      go true s r = (q, qs)
      go false s r = r

  under-before : {fs : List (Name × ℕ)} → Before fs → (s : Option (ℕ × List (Name × ℕ))) → FoundBefore s → Before (openers_under fs s)
  unfolding openers_under
  under-before qs none r = qs
  under-before qs (some x) r = r.1

  pop_before : (s : Slot) {fs : List (Name × ℕ)} → Before fs → All (λ (a : ℕ). a < b) (list (pop_opener s fs).0) × Before (pop_opener s fs).1
  unfolding pop_opener opener_found list
  pop_before none all[] = (all[], all[])
  pop_before none (all∷ q qs) = (all∷ q all[], qs)
  pop_before (some v) {fs} qs = go (find_opener v fs) (find_before v qs)
    where
      go : (s : Option (ℕ × List (Name × ℕ))) → FoundBefore s → All (λ (a : ℕ). a < b) (list (opener_found fs s).0) × Before (opener_found fs s).1
      go none r = (all[], qs)
      go (some x) r = (all∷ r.0 all[], r.1)

  slots-before : (ss : List Slot) {fs : List (Name × ℕ)} → Before fs → All (λ (a : ℕ). a < b) (openers_popped ss fs) × Before (openers_left ss fs)
  unfolding openers_popped openers_left
  slots-before [] qs = (all[], qs)
  slots-before (s ∷ ss) qs = let p = pop_before s qs in let r = slots-before ss p.1 in (all_append p.0 r.0, r.1)

pops-before : (b : ℕ) (m : ForMove) {fs : List (Name × ℕ)} → Before b fs → All (λ (a : ℕ). a < b) (pops m fs)
unfolding pops
pops-before b keep_fors qs = all[]
pops-before b (push_for v) qs = all[]
pops-before b (pop_fors ss) qs = (slots-before b ss qs).0

later : (b : ℕ) {fs : List (Name × ℕ)} → Before b fs → Before (suc b) fs
later b qs = all_map (λ p h. omega arith) qs

after-before : (b : ℕ) (m : ForMove) {fs : List (Name × ℕ)} → Before b fs → Before (suc b) (for_openers_after b m fs)
unfolding for_openers_after
after-before b keep_fors qs = later b qs
after-before b (push_for v) {fs} qs = all∷ {a = (v, b)} (omega arith) (later b (under-before b qs (find_opener v fs) (find_before b v qs)))
after-before b (pop_fors ss) qs = later b (slots-before b ss qs).1

popped_from : (i : ℕ) (ns : List Node) (st : Openers) → Before i st.fors → (k : ℕ) (f : Fact) → get_elem? (facts i ns st) k ≡ some f → All (λ (a : ℕ). a < i + k) f.popped
unfolding facts fact_of after
popped_from i [] st h k f e = absurd (let z : ◌≡◌ {A = ℕ} 0 1 = cc in omega arith)
popped_from i (n ∷ ns) st h zero f e =
    let q : fact_of n st ≡ f = cc in
    let z : i ≡ i + 0 = omega arith in
    rw (← q, ← z) (pops-before i (node_moves n.stmt).fors h)
popped_from i (n ∷ ns) st h (suc k) f e =
    let z : suc i + k ≡ i + suc k = omega arith in
    rw z at (popped_from (suc i) ns (after i (node_moves n.stmt) st) (after-before i (node_moves n.stmt).fors h) k f e)

pub popped-before : (ns : List Node) (k : ℕ) (f : Fact) → get_elem? (facts 0 ns no_openers) k ≡ some f → All (λ (a : ℕ). a < k) f.popped
unfolding no_openers
popped-before ns k f e = let z : 0 + k ≡ k = omega arith in rw z at (popped_from 0 ns no_openers all[] k f e)
