-- The nodes of a listing by their paths: no two stand at one path, and the reader's records lead from a path to its node. Assumes nothing.
use Prim.Native.Nat.{ℕ, zero, suc, ◌+◌, ◌*◌, ◌≤◌, ◌<◌}
use Rattle.std.specs.Prelude.{◌≡◌, get_or}
use Rattle.std.proofs.Math.Path.{refl}
use Rattle.std.proofs.Common.{sym, ap, ◌∙◌, arith, add-zero, length-append}
use mathlib.Core.List.{List, [], ◌∷◌, ◌++◌, append_assoc}
use Rattle.std.proofs.Math.Option.{Option, none, some}
use Rattle.std.proofs.Math.ListN.{length, get_elem?}
use Rattle.std.proofs.lemmas.List.{get_or_at}
use Rattle.listings.specs.Every.{All, all[], all∷, all_append}
use Rattle.listings.specs.Listing.{Stmts, ∅, ◌▸◌, branching, Lines, nolines, line, size, len, total, count}
use Rattle.listings.specs.Records.{Rec, simple_rec, cond_rec, stmt_recs, line_recs, rec_row, rec_rows}
use Rattle.listing_laws.specs.RecordLaws.{rec_at}
use Rattle.graph_laws.specs.Members.{all-at, all_map}
use Rattle.graph.specs.Nodes.{NodeStmt, simple, cond, Node, allocate, line_entry, nodes_before}
use Rattle.graph_laws.specs.NodeLaws.{length-allocate, length-nodes}
use Rattle.tables.specs.Columns.{holder_of, index_of}

-- ---- no two nodes stand at one path

abbrev Apart : Node → Node → Type 0
Apart a b = a.line ≡ b.line → a.path ≡ b.path → ⊥

data Distinct : List Node → Type 0 where
  dist[] : Distinct []
  dist∷ : {a : Node} {l : List Node} → All (Apart a) l → Distinct l → Distinct (a ∷ l)

cross : {P Q : Node → Type 0} → ((a b : Node) → P a → Q b → Apart a b) → {k l : List Node} → All P k → All Q l → All (λ (a : Node). All (Apart a) l) k
cross f all[] h = all[]
cross f (all∷ {a = a} p g) h = all∷ (all_map (λ b q. f a b p q) h) (cross f g h)

distinct_append : {k l : List Node} → Distinct k → Distinct l → All (λ (a : Node). All (Apart a) l) k → Distinct (k ++ l)
distinct_append dist[] d h = d
distinct_append (dist∷ g e) d (all∷ p h) = dist∷ (all_append g p) (distinct_append e d h)

distinct_at : {l : List Node} → Distinct l → (i j : ℕ) (a b : Node) → get_elem? l i ≡ some a → get_elem? l j ≡ some b → a.line ≡ b.line → a.path ≡ b.path → i ≡ j
distinct_at dist[] i j a b e f g h = absurd (let z : ◌≡◌ {A = ℕ} 0 1 = cc in omega arith)
distinct_at (dist∷ {a = x} p d) zero zero a b e f g h = refl
distinct_at (dist∷ {a = x} p d) zero (suc j) a b e f g h = let q : x ≡ a = cc in absurd (all-at p j b f (ap (λ (n : Node). n.line) q ∙ g) (ap (λ (n : Node). n.path) q ∙ h))
distinct_at (dist∷ {a = x} p d) (suc i) zero a b e f g h = let q : x ≡ b = cc in absurd (all-at p i a e (ap (λ (n : Node). n.line) q ∙ sym g) (ap (λ (n : Node). n.path) q ∙ sym h))
distinct_at (dist∷ {a = x} p d) (suc i) (suc j) a b e f g h = ap suc (distinct_at d i j a b e f g h)

-- the path goes on from p with a number from k to below m
record Under (p : List ℕ) (k m : ℕ) (d : Node) : Type 0 where
  at : ℕ
  rest : List ℕ
  path_is : d.path ≡ p ++ (at ∷ rest)
  from : k ≤ at
  below : at < m

under_apart : (p : List ℕ) (k m l o : ℕ) → m ≤ l → (a b : Node) → Under p k m a → Under p l o b → Apart a b
under_apart p k m l o h a b u v f g =
    let x = get_or_at p u.at u.rest 0 (length p) refl in
    let y = get_or_at p v.at v.rest 0 (length p) refl in
    let z : u.at ≡ v.at = sym x ∙ ap (λ (q : List ℕ). get_or q (length p) 0) (sym u.path_is ∙ g ∙ v.path_is) ∙ y in
    absurd (omega (arith, z, u.below, v.from, h))

wider : (p : List ℕ) (k m l o : ℕ) → l ≤ k → m ≤ o → (d : Node) → Under p k m d → Under p l o d
wider p k m l o h g d u = record { at = u.at; rest = u.rest; path_is = u.path_is; from = omega (arith, u.from); below = omega (arith, u.below) }

-- deeper: what goes on from p and x goes on from p
deeper : (p : List ℕ) (x k m : ℕ) (d : Node) → Under (p ++ (x ∷ [])) k m d → Under p x (suc x) d
deeper p x k m d u =
    record { at = x; rest = u.at ∷ u.rest; path_is = u.path_is ∙ append_assoc p (x ∷ []) (u.at ∷ u.rest); from = omega arith; below = omega arith }

inner : (q : List ℕ) (k m : ℕ) (d : Node) → Under q k m d → q ≡ d.path → ⊥
inner q k m d v g = absurd (omega (arith, ap length (g ∙ v.path_is), length-append q (v.at ∷ v.rest)))

stmts_under : (li n : ℕ) (p : List ℕ) (v : Option ℕ) (i k : ℕ) (e : Option ℕ) (s : Stmts) → All (Under p k (k + len s)) (allocate li n p v i k e s)
unfolding allocate len
stmts_under li n p v i k e ∅ = all[]
stmts_under li n p v i k e (s ▸ o) =
    all_append (all_map (wider p k (k + len s) k (k + suc (len s)) (omega arith) (omega arith)) (stmts_under li n p v i k (some (i + size s)) s))
    (all∷ (record { at = k + len s; rest = []; path_is = refl; from = omega arith; below = omega arith }) all[])
stmts_under li n p v i k e (branching s w t a u b) =
    let j = i + size s in
    let x = k + len s in
    let q = p ++ (x ∷ []) in
    let f : (d : Node) → Under p x (suc x) d → Under p k (k + suc (len s)) d = wider p x (suc x) k (k + suc (len s)) (omega arith) (omega arith) in
    all_append (all_map (wider p k x k (k + suc (len s)) (omega arith) (omega arith)) (stmts_under li n p v i k (some j) s))
    (all∷ (record { at = x; rest = []; path_is = refl; from = omega arith; below = omega arith })
    (all_append (all_map (λ d v. f d (deeper p x 0 (0 + len a) d v)) (stmts_under li n q (some j) (suc j) 0 e a))
    (all_map (λ d v. f d (deeper p x (len a) (len a + len b) d v)) (stmts_under li n q (some j) (suc j + size a) (len a) e b))))

stmts_distinct : (li n : ℕ) (p : List ℕ) (v : Option ℕ) (i k : ℕ) (e : Option ℕ) (s : Stmts) → Distinct (allocate li n p v i k e s)
unfolding allocate
stmts_distinct li n p v i k e ∅ = dist[]
stmts_distinct li n p v i k e (s ▸ o) =
    let x = k + len s in
    distinct_append (stmts_distinct li n p v i k (some (i + size s)) s) (dist∷ all[] dist[])
    (cross (under_apart p k x x (suc x) (omega arith)) (stmts_under li n p v i k (some (i + size s)) s)
    (all∷ (record { at = x; rest = []; path_is = refl; from = omega arith; below = omega arith }) all[]))
stmts_distinct li n p v i k e (branching s w t a u b) =
    let j = i + size s in
    let x = k + len s in
    let q = p ++ (x ∷ []) in
    let ua = stmts_under li n q (some j) (suc j) 0 e a in
    let ub = stmts_under li n q (some j) (suc j + size a) (len a) e b in
    distinct_append (stmts_distinct li n p v i k (some j) s)
    (dist∷ (all_append (all_map (λ d v f g. inner q 0 (0 + len a) d v g) ua) (all_map (λ d v f g. inner q (len a) (len a + len b) d v g) ub))
    (distinct_append (stmts_distinct li n q (some j) (suc j) 0 e a) (stmts_distinct li n q (some j) (suc j + size a) (len a) e b)
    (cross (under_apart q 0 (0 + len a) (len a) (len a + len b) (omega arith)) ua ub)))
    (cross (under_apart p k x x (suc x) (omega arith)) (stmts_under li n p v i k (some j) s)
    (all∷ (record { at = x; rest = []; path_is = refl; from = omega arith; below = omega arith })
    (all_append (all_map (deeper p x 0 (0 + len a)) ua) (all_map (deeper p x (len a) (len a + len b)) ub))))

stmts_line : (li n : ℕ) (p : List ℕ) (v : Option ℕ) (i k : ℕ) (e : Option ℕ) (s : Stmts) → All (λ (d : Node). d.line ≡ li) (allocate li n p v i k e s)
unfolding allocate
stmts_line li n p v i k e ∅ = all[]
stmts_line li n p v i k e (s ▸ o) = all_append (stmts_line li n p v i k (some (i + size s)) s) (all∷ refl all[])
stmts_line li n p v i k e (branching s w t a u b) =
    let j = i + size s in
    let q = p ++ ((k + len s) ∷ []) in
    all_append (stmts_line li n p v i k (some j) s) (all∷ refl (all_append (stmts_line li n q (some j) (suc j) 0 e a) (stmts_line li n q (some j) (suc j + size a) (len a) e b)))

lines_below : (e : Option ℕ) (ls : Lines) → All (λ (d : Node). d.line < count ls) (nodes_before e ls)
unfolding nodes_before count
lines_below e nolines = all[]
lines_below e (line ls n s) =
    all_append (all_map (λ d h. omega (arith, h)) (lines_below (line_entry (total ls) s e) ls)) (all_map (λ d h. omega (arith, h)) (stmts_line (count ls) n [] none (total ls) 0 e s))

lines_distinct : (e : Option ℕ) (ls : Lines) → Distinct (nodes_before e ls)
unfolding nodes_before
lines_distinct e nolines = dist[]
lines_distinct e (line ls n s) =
    distinct_append (lines_distinct (line_entry (total ls) s e) ls) (stmts_distinct (count ls) n [] none (total ls) 0 e s)
    (cross (λ a b h g f _. absurd (omega (arith, h, g, f))) (lines_below (line_entry (total ls) s e) ls) (stmts_line (count ls) n [] none (total ls) 0 e s))

pub line_below : (ls : Lines) (i : ℕ) (d : Node) → get_elem? (nodes_before none ls) i ≡ some d → d.line < count ls
line_below ls i d e = all-at (lines_below none ls) i d e

pub one_node : (ls : Lines) (i j : ℕ) (a b : Node) → get_elem? (nodes_before none ls) i ≡ some a → get_elem? (nodes_before none ls) j ≡ some b → a.line ≡ b.line → a.path ≡ b.path → i ≡ j
one_node ls = distinct_at (lines_distinct none ls)

-- ---- the records say which IF holds a node

abbrev pub Branches : NodeStmt → Type 0
Branches (simple o) = ⊥
Branches (cond w a b) = Unit {0}

-- of node i, which is d: no IF holds it, or the IF at j does, which G gives
pub data HeldBy (G : ℕ → Option Node) (h x i : ℕ) (d : Node) : Type 0 where
  on_line : h ≡ 0 → d.path ≡ x ∷ [] → HeldBy G h x i d
  in_if : (j : ℕ) (m : Node) → G j ≡ some m → Branches m.stmt → j < i → h ≡ suc j → m.line ≡ d.line → d.path ≡ m.path ++ (x ∷ []) → HeldBy G h x i d

-- the holder of a list of statements on line li, whose paths begin with p
data ListHeld (G : ℕ → Option Node) (li : ℕ) (p : List ℕ) (h i : ℕ) : Type 0 where
  line_held : h ≡ 0 → p ≡ [] → ListHeld G li p h i
  if_held : (j : ℕ) (m : Node) → G j ≡ some m → Branches m.stmt → j < i → h ≡ suc j → m.line ≡ li → m.path ≡ p → ListHeld G li p h i

-- G gives the nodes from i on
abbrev NodesOf : (ℕ → Option Node) → ℕ → List Node → Type 0
NodesOf G i [] = Unit {0}
NodesOf G i (n ∷ ns) = (G i ≡ some n) × NodesOf G (suc i) ns

data HeldMatch (G : ℕ → Option Node) : ℕ → List Node → List Rec → Type 0 where
  held[] : {i : ℕ} → HeldMatch G i [] []
  held∷ : {i : ℕ} {n : Node} {r : Rec} {ns : List Node} {rs : List Rec} → HeldBy G r.holder r.index i n → HeldMatch G (suc i) ns rs → HeldMatch G i (n ∷ ns) (r ∷ rs)

nodes-split : (G : ℕ → Option Node) (i : ℕ) (ns ms : List Node) → NodesOf G i (ns ++ ms) → NodesOf G i ns × NodesOf G (i + length ns) ms
nodes-split G i [] ms h = (tt, rw (add-zero i) h)
nodes-split G i (n ∷ ns) ms h =
    let s = nodes-split G (suc i) ns ms h.1 in
    let z : suc i + length ns ≡ i + suc (length ns) = omega arith in
    ((h.0, s.0), rw z at s.1)

module _ {G : ℕ → Option Node} where
  held_append : {i j : ℕ} {ns ms : List Node} {rs qs : List Rec} → HeldMatch G i ns rs → j ≡ i + length ns → HeldMatch G j ms qs → HeldMatch G i (ns ++ ms) (rs ++ qs)
  held_append {i} {j} {ms = ms} {qs = qs} held[] e m = let q : j ≡ i = omega arith in rw q at m
  held_append {i} {j} (held∷ {ns = ns} p ps) e m = held∷ p (held_append ps (omega arith) m)

  held_at : {i : ℕ} {ns : List Node} {rs : List Rec} → HeldMatch G i ns rs → (k : ℕ) (n : Node) → get_elem? ns k ≡ some n → (r : Rec) × (get_elem? rs k ≡ some r) × HeldBy G r.holder r.index (i + k) n
  held_at held[] k n e = absurd (let z : ◌≡◌ {A = ℕ} 0 1 = cc in omega arith)
  held_at {i} (held∷ {n = m} {r = r} p ps) zero n e = let q : m ≡ n = cc in let z : i ≡ i + 0 = omega arith in (r, refl, rw (← q, ← z) p)
  held_at {i} (held∷ p ps) (suc k) n e = let q : suc i + k ≡ i + suc k = omega arith in let s = held_at ps k n e in (s.0, s.1, rw q at s.2)

  held_one : (li : ℕ) (p : List ℕ) (h i j x : ℕ) (d : Node) → ListHeld G li p h i → i ≤ j → d.line ≡ li → d.path ≡ p ++ (x ∷ []) → HeldBy G h x j d
  held_one li p h i j x d (line_held e f) g l q = on_line e (q ∙ ap (λ (y : List ℕ). y ++ (x ∷ [])) f)
  held_one li p h i j x d (if_held k m a o b e f c) g l q = in_if k m a o (omega arith) e (f ∙ sym l) (q ∙ ap (λ (y : List ℕ). y ++ (x ∷ [])) (sym c))

  held_later : (li : ℕ) (p : List ℕ) (h i j : ℕ) → i ≤ j → ListHeld G li p h i → ListHeld G li p h j
  held_later li p h i j g (line_held e f) = line_held e f
  held_later li p h i j g (if_held k m a o b e f c) = if_held k m a o (omega arith) e f c

  stmts_held : (li n : ℕ) (p : List ℕ) (v : Option ℕ) (h i k : ℕ) (e : Option ℕ) (s : Stmts) → ListHeld G li p h i → NodesOf G i (allocate li n p v i k e s) → HeldMatch G i (allocate li n p v i k e s) (stmt_recs li h k i s)
  unfolding allocate stmt_recs simple_rec cond_rec
  stmts_held li n p v h i k e ∅ q a = held[]
  stmts_held li n p v h i k e (s ▸ o) q a =
      let x = nodes-split G i (allocate li n p v i k (some (i + size s)) s) _ a in
      let f = length-allocate li n p v i k (some (i + size s)) s in
      held_append {j = i + size s} (stmts_held li n p v h i k (some (i + size s)) s q x.0) (rw f refl)
      (held∷ (held_one li p h i (i + size s) (k + len s) _ q (omega arith) refl refl) held[])
  stmts_held li n p v h i k e (branching s w t a u b) q c =
      let j = i + size s in
      let path = p ++ ((k + len s) ∷ []) in
      let f = length-allocate li n p v i k (some j) s in
      let x = nodes-split G i (allocate li n p v i k (some j) s) _ c in
      let y = rw f at x.1 in
      let z = nodes-split G (suc j) (allocate li n path (some j) (suc j) 0 e a) _ y.1 in
      let g = length-allocate li n path (some j) (suc j) 0 e a in
      let l : ListHeld G li path (suc j) (suc j) = if_held j _ y.0 tt (omega arith) refl refl refl in
      held_append {j = j} (stmts_held li n p v h i k (some j) s q x.0) (rw f refl)
      (held∷ (held_one li p h i j (k + len s) _ q (omega arith) refl refl)
      (held_append {j = suc j + size a} (stmts_held li n path (some j) (suc j) (suc j) 0 e a l z.0) (rw g refl)
      (stmts_held li n path (some j) (suc j) (suc j + size a) (len a) e b (held_later li path (suc j) (suc j) (suc j + size a) (omega arith) l) (rw g at z.1))))

  lines_held : (e : Option ℕ) (ls : Lines) → NodesOf G 0 (nodes_before e ls) → HeldMatch G 0 (nodes_before e ls) (line_recs ls)
  unfolding nodes_before line_recs
  lines_held e nolines a = held[]
  lines_held e (line ls n s) a =
      let d = line_entry (total ls) s e in
      let f = length-nodes d ls in
      let x = nodes-split G 0 (nodes_before d ls) _ a in
      let z : 0 + length (nodes_before d ls) ≡ total ls = omega (arith, f) in
      held_append (lines_held d ls x.0) (sym z) (stmts_held (count ls) n [] none 0 (total ls) 0 e s (line_held refl refl) (rw z at x.1))

nodes_of : (G : ℕ → Option Node) (i : ℕ) (ns : List Node) → ((k : ℕ) (n : Node) → get_elem? ns k ≡ some n → G (i + k) ≡ some n) → NodesOf G i ns
nodes_of G i [] f = tt
nodes_of G i (n ∷ ns) f = (rw (add-zero i) at (f 0 n refl), nodes_of G (suc i) ns (λ k m e. let z : i + suc k ≡ suc i + k = omega arith in rw z at (f (suc k) m e)))

-- by the table of statements that holds the records
pub node_held : (ls : Lines) (stmts rest : List ℕ) → stmts ≡ rec_rows (line_recs ls) ++ rest → (i : ℕ) (d : Node) → get_elem? (nodes_before none ls) i ≡ some d
    → HeldBy (λ j. get_elem? (nodes_before none ls) j) (holder_of stmts i) (index_of stmts i) i d
unfolding rec_row
node_held ls stmts rest es i d e =
    let G : ℕ → Option Node = λ j. get_elem? (nodes_before none ls) j in
    let q = held_at (lines_held {G = G} none ls (nodes_of G 0 (nodes_before none ls) (λ k n f. let z : 0 + k ≡ k = omega arith in rw z f))) i d e in
    let r = q.0 in
    let f : holder_of stmts i ≡ r.holder = ap (λ (t : List ℕ). get_or t (i * 12 + 2) 0) es ∙ rec_at (line_recs ls) rest i 2 r q.1 (omega arith) in
    let g : index_of stmts i ≡ r.index = ap (λ (t : List ℕ). get_or t (i * 12 + 3) 0) es ∙ rec_at (line_recs ls) rest i 3 r q.1 (omega arith) in
    let z : 0 + i ≡ i = omega arith in
    rw (f, g) (rw z at q.2)
