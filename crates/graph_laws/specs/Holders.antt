-- Which IF holds a node, by the definition (document 02, L5). Assumes nothing.
use Rattle.std.specs.Prelude.{ℕ, zero, suc, ◌+◌, ◌<◌, ◌≤◌, ◌≡◌, refl, List, [], ◌∷◌, ◌++◌, length, ◌↔◌}
use Rattle.std.proofs.Common.{sym, ap, ◌∙◌, arith, add-zero, length-append}
use Rattle.std.proofs.Math.Option.{Option, none, some}
use Rattle.std.proofs.Math.ListN.{get_elem?}
use Rattle.listings.specs.Listing.{Stmts, ∅, ◌▸◌, branching, Lines, nolines, line, Listing, size, len, total, count}
use Rattle.graph.specs.Nodes.{NodeStmt, simple, cond, Node, allocate, line_entry, nodes_before, nodes}
use Rattle.graph_laws.specs.NodeLaws.{length-allocate, length-nodes}

-- "whose branch it stands in": an `if`, `ifelse` or `rcomp`
abbrev pub Branches : NodeStmt → Type 0
Branches (simple o) = ⊥
Branches (cond w a b) = Unit {0}

-- node i, which is d, of nodes that G gives: no holder, and a path of one number; or a node before it, on its line, whose path is its own without the last number
pub data Held (G : ℕ → Option Node) (i : ℕ) (d : Node) : Type 0 where
  on_line : (x : ℕ) → d.holder ≡ none → d.path ≡ x ∷ [] → Held G i d
  in_if : (j x : ℕ) (m : Node) → d.holder ≡ some j → G j ≡ some m → Branches m.stmt → j < i → m.line ≡ d.line → 0 < length m.path → d.path ≡ m.path ++ (x ∷ []) → Held G i d

-- the holder of a list of statements on line li, whose paths begin with p
data ListHeld (G : ℕ → Option Node) (li : ℕ) (p : List ℕ) (v : Option ℕ) (i : ℕ) : Type 0 where
  line_held : v ≡ none → p ≡ [] → ListHeld G li p v i
  if_held : (j : ℕ) (m : Node) → v ≡ some j → G j ≡ some m → Branches m.stmt → j < i → m.line ≡ li → 0 < length m.path → m.path ≡ p → ListHeld G li p v i

-- G gives the nodes from i on
abbrev NodesOf : (ℕ → Option Node) → ℕ → List Node → Type 0
NodesOf G i [] = Unit {0}
NodesOf G i (n ∷ ns) = (G i ≡ some n) × NodesOf G (suc i) ns

nodes-split : (G : ℕ → Option Node) (i : ℕ) (ns ms : List Node) → NodesOf G i (ns ++ ms) → NodesOf G i ns × NodesOf G (i + length ns) ms
nodes-split G i [] ms h = (tt, rw (add-zero i) h)
nodes-split G i (n ∷ ns) ms h =
    let s = nodes-split G (suc i) ns ms h.1 in
    let z : suc i + length ns ≡ i + suc (length ns) = omega arith in
    ((h.0, s.0), rw z at s.1)

-- nodes from i on, each held
data AllHeld (G : ℕ → Option Node) : ℕ → List Node → Type 0 where
  held[] : {i : ℕ} → AllHeld G i []
  held∷ : {i : ℕ} {n : Node} {ns : List Node} → Held G i n → AllHeld G (suc i) ns → AllHeld G i (n ∷ ns)

module _ {G : ℕ → Option Node} where
  held_append : {i j : ℕ} {ns ms : List Node} → AllHeld G i ns → j ≡ i + length ns → AllHeld G j ms → AllHeld G i (ns ++ ms)
  held_append {i} {j} {ms = ms} held[] e m = let q : j ≡ i = omega arith in rw q at m
  held_append {i} {j} (held∷ {ns = ns} p ps) e m = held∷ p (held_append ps (omega arith) m)

  held_at : {i : ℕ} {ns : List Node} → AllHeld G i ns → (k : ℕ) (n : Node) → get_elem? ns k ≡ some n → Held G (i + k) n
  held_at held[] k n e = absurd (let z : ◌≡◌ {A = ℕ} 0 1 = cc in omega arith)
  held_at {i} (held∷ {n = m} p ps) zero n e = let q : m ≡ n = cc in let z : i ≡ i + 0 = omega arith in rw (← q, ← z) p
  held_at {i} (held∷ p ps) (suc k) n e = let q : suc i + k ≡ i + suc k = omega arith in rw q at (held_at ps k n e)

  held_one : (li : ℕ) (p : List ℕ) (v : Option ℕ) (i j x : ℕ) (d : Node) → ListHeld G li p v i → i ≤ j → d.holder ≡ v → d.line ≡ li → d.path ≡ p ++ (x ∷ []) → Held G j d
  held_one li p v i j x d (line_held e f) g o l q = on_line x (o ∙ e) (q ∙ ap (λ (y : List ℕ). y ++ (x ∷ [])) f)
  held_one li p v i j x d (if_held k m e a b c f r h) g o l q = in_if k x m (o ∙ e) a b (omega arith) (f ∙ sym l) r (q ∙ ap (λ (y : List ℕ). y ++ (x ∷ [])) (sym h))

  held_later : (li : ℕ) (p : List ℕ) (v : Option ℕ) (i j : ℕ) → i ≤ j → ListHeld G li p v i → ListHeld G li p v j
  held_later li p v i j g (line_held e f) = line_held e f
  held_later li p v i j g (if_held k m e a b c f r h) = if_held k m e a b (omega arith) f r h

  stmts_held : (li n : ℕ) (p : List ℕ) (v : Option ℕ) (i k : ℕ) (e : Option ℕ) (s : Stmts) → ListHeld G li p v i → NodesOf G i (allocate li n p v i k e s) → AllHeld G i (allocate li n p v i k e s)
  unfolding allocate
  stmts_held li n p v i k e ∅ q a = held[]
  stmts_held li n p v i k e (s ▸ o) q a =
      let x = nodes-split G i (allocate li n p v i k (some (i + size s)) s) _ a in
      let f = length-allocate li n p v i k (some (i + size s)) s in
      held_append {j = i + size s} (stmts_held li n p v i k (some (i + size s)) s q x.0) (rw f refl)
      (held∷ (held_one li p v i (i + size s) (k + len s) _ q (omega arith) refl refl refl) held[])
  stmts_held li n p v i k e (branching s w t a u b) q c =
      let j = i + size s in
      let path = p ++ ((k + len s) ∷ []) in
      let f = length-allocate li n p v i k (some j) s in
      let x = nodes-split G i (allocate li n p v i k (some j) s) _ c in
      let y = rw f at x.1 in
      let z = nodes-split G (suc j) (allocate li n path (some j) (suc j) 0 e a) _ y.1 in
      let g = length-allocate li n path (some j) (suc j) 0 e a in
      let l : ListHeld G li path (some j) (suc j) = if_held j _ refl y.0 tt (omega arith) refl (omega (arith, length-append p ((k + len s) ∷ []))) refl in
      held_append {j = j} (stmts_held li n p v i k (some j) s q x.0) (rw f refl)
      (held∷ (held_one li p v i j (k + len s) _ q (omega arith) refl refl refl)
      (held_append {j = suc j + size a} (stmts_held li n path (some j) (suc j) 0 e a l z.0) (rw g refl)
      (stmts_held li n path (some j) (suc j + size a) (len a) e b (held_later li path (some j) (suc j) (suc j + size a) (omega arith) l) (rw g at z.1))))

  lines_held : (e : Option ℕ) (ls : Lines) → NodesOf G 0 (nodes_before e ls) → AllHeld G 0 (nodes_before e ls)
  unfolding nodes_before
  lines_held e nolines a = held[]
  lines_held e (line ls n s) a =
      let d = line_entry (total ls) s e in
      let f = length-nodes d ls in
      let x = nodes-split G 0 (nodes_before d ls) _ a in
      let z : 0 + length (nodes_before d ls) ≡ total ls = omega (arith, f) in
      held_append (lines_held d ls x.0) (sym z) (stmts_held (count ls) n [] none (total ls) 0 e s (line_held refl refl) (rw z at x.1))

nodes_of : (G : ℕ → Option Node) (i : ℕ) (ns : List Node) → ((k : ℕ) (n : Node) → get_elem? ns k ≡ some n → G (i + k) ≡ some n) → NodesOf G i ns
nodes_of G i [] f = tt
nodes_of G i (n ∷ ns) f = (rw (add-zero i) at (f 0 n refl), nodes_of G (suc i) ns (λ k m e. let z : i + suc k ≡ suc i + k = omega arith in rw z at (f (suc k) m e)))

-- of every node of a listing
pub node_held : (ls : Lines) (i : ℕ) (d : Node) → get_elem? (nodes_before none ls) i ≡ some d → Held (λ j. get_elem? (nodes_before none ls) j) i d
node_held ls i d e =
    let G : ℕ → Option Node = λ j. get_elem? (nodes_before none ls) j in
    let z : 0 + i ≡ i = omega arith in
    rw z at (held_at (lines_held {G = G} none ls (nodes_of G 0 (nodes_before none ls) (λ k n f. let y : 0 + k ≡ k = omega arith in rw y f))) i d e)

-- "no holder exactly at depth 0": where its path has one number
pub none_at_depth_0 : {G : ℕ → Option Node} {i : ℕ} {d : Node} → Held G i d → (d.holder ≡ none) ↔ (length d.path ≡ 1)
none_at_depth_0 {d = d} (on_line x e f) = (λ h. ap length f, λ h. e)
none_at_depth_0 {d = d} (in_if j x m e a b c f r g) = (λ h. absurd (let q : ◌≡◌ {A = Option ℕ} (some j) none = sym e ∙ h in cc), λ h. absurd (omega (arith, h, r, ap length g, length-append m.path (x ∷ []))))
