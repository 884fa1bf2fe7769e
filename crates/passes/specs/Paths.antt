-- The line and the path of each node by the reader's records: the path of the IF that holds it, and then its index.
-- Assumes nothing.
use Prim.Native.Nat.{ℕ, zero, suc, ◌+◌, ◌*◌, ◌≤◌, ◌<◌}
use Rattle.std.specs.Prelude.{◌≡◌}
use Rattle.std.proofs.Math.Path.{refl, sym, ap}
use Rattle.std.proofs.Common.{◌∙◌, add-zero, length-append}
use mathlib.Core.List.{List, [], ◌∷◌, ◌++◌}
use Rattle.std.proofs.Math.Option.{Option, none, some}
use native.Mathlib.Omega.{arith}
use Rattle.std.proofs.Math.ListN.{length, get_or, get_elem?, get_or-append}
use Rattle.std.proofs.lemmas.List.{get_or_at}
use Rattle.listings.specs.Every.{All, all[], all∷, all_append}
use Rattle.listings.specs.Listing.{Stmts, ∅, ◌▸◌, branching, Lines, nolines, line, size, len, total, count}
use Rattle.listings.specs.ListingText.{StmtsOk, LinesOk}
use Rattle.listings.specs.Records.{Rec, simple_rec, cond_rec, stmt_recs, line_recs, line_numbers, rec_row, rec_rows}
use Rattle.listing_laws.specs.RecordLaws.{rec_at}
use Rattle.listing_laws.specs.ReadingRecords.{numbers-count}
use Rattle.graph_laws.specs.Members.{all-at, all_map}
use Rattle.graph.specs.Nodes.{Node, allocate, line_entry, nodes_before}
use Rattle.graph_laws.specs.Adding.{node_number}
use Rattle.graph_laws.specs.NodeLaws.{length-allocate, length-nodes}
use Rattle.graph.specs.NodeWords.{stmt_number}
use Rattle.graph_laws.specs.NodeRecords.{match_at, lines_match}
use Rattle.passes.specs.OpenerLaws.{in_range}
use Rattle.passes.specs.LineEntries.{at_place}
use Rattle.tables.specs.Columns.{holder_of, index_of, held_by, path_in}

-- ---- the records say how a path goes on

-- P gives the nodes from i on their paths
abbrev PathsOf : (ℕ → List ℕ) → ℕ → List Node → Type 0
PathsOf P i [] = Unit {0}
PathsOf P i (n ∷ ns) = (P i ≡ n.path) × PathsOf P (suc i) ns

paths_split : (P : ℕ → List ℕ) (i : ℕ) (ns ms : List Node) → PathsOf P i (ns ++ ms) → PathsOf P i ns × PathsOf P (i + length ns) ms
paths_split P i [] ms h = (tt, rw (add-zero i) h)
paths_split P i (n ∷ ns) ms h =
    let s = paths_split P (suc i) ns ms h.1 in
    let z : suc i + length ns ≡ i + suc (length ns) = omega arith in
    ((h.0, s.0), rw z at s.1)

pub record PathBy (P : ℕ → List ℕ) (i : ℕ) (n : Node) (r : Rec) : Type 0 where
  pub path_is : n.path ≡ held_by P r.holder ++ (r.index ∷ [])
  pub held : r.holder ≤ i

data PathMatch (P : ℕ → List ℕ) : ℕ → List Node → List Rec → Type 0 where
  paths[] : {i : ℕ} → PathMatch P i [] []
  paths∷ : {i : ℕ} {n : Node} {r : Rec} {ns : List Node} {rs : List Rec} → PathBy P i n r → PathMatch P (suc i) ns rs → PathMatch P i (n ∷ ns) (r ∷ rs)

module _ {P : ℕ → List ℕ} where
  paths_append : {i j : ℕ} {ns ms : List Node} {rs qs : List Rec} → PathMatch P i ns rs → j ≡ i + length ns → PathMatch P j ms qs → PathMatch P i (ns ++ ms) (rs ++ qs)
  paths_append {i} {j} {ms = ms} {qs = qs} paths[] e m = let q : j ≡ i = omega arith in rw q at m
  paths_append {i} {j} (paths∷ {ns = ns} p ps) e m = paths∷ p (paths_append ps (omega arith) m)

  paths_at : {i : ℕ} {ns : List Node} {rs : List Rec} → PathMatch P i ns rs → (k : ℕ) (n : Node) → get_elem? ns k ≡ some n → (r : Rec) × (get_elem? rs k ≡ some r) × PathBy P (i + k) n r
  paths_at paths[] k n e = absurd (let z : ◌≡◌ {A = ℕ} 0 1 = cc in omega arith)
  paths_at {i} (paths∷ {n = m} {r = r} p ps) zero n e = let q : m ≡ n = cc in let z : i ≡ i + 0 = omega arith in (r, refl, rw (← q, ← z) p)
  paths_at {i} (paths∷ p ps) (suc k) n e = let q : suc i + k ≡ i + suc k = omega arith in let s = paths_at ps k n e in (s.0, s.1, rw q at s.2)

  -- a list whose paths begin with p, which is the path of its holder
  stmts_paths : (li n : ℕ) (p : List ℕ) (v : Option ℕ) (h i k : ℕ) (e : Option ℕ) (s : Stmts) → p ≡ held_by P h → h ≤ i → PathsOf P i (allocate li n p v i k e s) → PathMatch P i (allocate li n p v i k e s) (stmt_recs li h k i s)
  unfolding allocate stmt_recs simple_rec cond_rec
  stmts_paths li n p v h i k e ∅ q l a = paths[]
  stmts_paths li n p v h i k e (s ▸ o) q l a =
      let x = paths_split P i (allocate li n p v i k (some (i + size s)) s) _ a in
      let f = length-allocate li n p v i k (some (i + size s)) s in
      paths_append {j = i + size s} (stmts_paths li n p v h i k (some (i + size s)) s q l x.0) (rw f refl)
      (paths∷ (record { path_is = ap (λ (y : List ℕ). y ++ ((k + len s) ∷ [])) q; held = omega arith }) paths[])
  stmts_paths li n p v h i k e (branching s w t a u b) q l c =
      let j = i + size s in
      let path = p ++ ((k + len s) ∷ []) in
      let f = length-allocate li n p v i k (some j) s in
      let x = paths_split P i (allocate li n p v i k (some j) s) _ c in
      let y = rw f at x.1 in
      let z = paths_split P (suc j) (allocate li n path (some j) (suc j) 0 e a) _ y.1 in
      let g = length-allocate li n path (some j) (suc j) 0 e a in
      paths_append {j = j} (stmts_paths li n p v h i k (some j) s q l x.0) (rw f refl)
      (paths∷ (record { path_is = ap (λ (y : List ℕ). y ++ ((k + len s) ∷ [])) q; held = omega arith })
      (paths_append {j = suc j + size a} (stmts_paths li n path (some j) (suc j) (suc j) 0 e a (sym y.0) (omega arith) z.0) (rw g refl)
      (stmts_paths li n path (some j) (suc j) (suc j + size a) (len a) e b (sym y.0) (omega arith) (rw g at z.1))))

  lines_paths : (e : Option ℕ) (ls : Lines) → PathsOf P 0 (nodes_before e ls) → PathMatch P 0 (nodes_before e ls) (line_recs ls)
  unfolding nodes_before line_recs
  lines_paths e nolines a = paths[]
  lines_paths e (line ls n s) a =
      let d = line_entry (total ls) s e in
      let f = length-nodes d ls in
      let x = paths_split P 0 (nodes_before d ls) _ a in
      let z : 0 + length (nodes_before d ls) ≡ total ls = omega (arith, f) in
      paths_append (lines_paths d ls x.0) (sym z) (stmts_paths (count ls) n [] none 0 (total ls) 0 e s refl (omega arith) (rw z at x.1))

-- ---- "depth 16 is accepted": a path has at most 17 numbers

abbrev Short : Node → Type 0
Short n = length n.path ≤ 17

stmts_short : (d li n : ℕ) (p : List ℕ) (v : Option ℕ) (i k : ℕ) (e : Option ℕ) (s : Stmts) → StmtsOk d s → length p ≤ d → All Short (allocate li n p v i k e s)
unfolding allocate StmtsOk
stmts_short d li n p v i k e ∅ ok h = all[]
stmts_short d li n p v i k e (s ▸ o) ok h =
    all_append (stmts_short d li n p v i k (some (i + size s)) s ok.0 h) (all∷ (omega (arith, length-append p ((k + len s) ∷ []), ok.1)) all[])
stmts_short d li n p v i k e (branching s w t a u b) ok h =
    let j = i + size s in
    let q = p ++ ((k + len s) ∷ []) in
    let g : length q ≤ suc d = omega (arith, length-append p ((k + len s) ∷ [])) in
    all_append (stmts_short d li n p v i k (some j) s ok.0 h)
    (all∷ (omega (arith, g, ok.1)) (all_append (stmts_short (suc d) li n q (some j) (suc j) 0 e a ok.3 g) (stmts_short (suc d) li n q (some j) (suc j + size a) (len a) e b ok.4 g)))

lines_short : (e : Option ℕ) (ls : Lines) → LinesOk ls → All Short (nodes_before e ls)
unfolding nodes_before LinesOk
lines_short e nolines ok = all[]
lines_short e (line ls n s) ok = all_append (lines_short (line_entry (total ls) s e) ls ok.0) (stmts_short 0 (count ls) n [] none (total ls) 0 e s ok.3 (omega arith))

-- ---- the line of a node

pub record OnLine (ls : Lines) (n : Node) : Type 0 where
  pub inside : n.line < count ls
  pub number_is : get_or (line_numbers ls) n.line 0 ≡ n.number

stmts_line : (li n : ℕ) (p : List ℕ) (v : Option ℕ) (i k : ℕ) (e : Option ℕ) (s : Stmts) → All (λ (d : Node). (d.line ≡ li) × (d.number ≡ n)) (allocate li n p v i k e s)
unfolding allocate
stmts_line li n p v i k e ∅ = all[]
stmts_line li n p v i k e (s ▸ o) = all_append (stmts_line li n p v i k (some (i + size s)) s) (all∷ (refl, refl) all[])
stmts_line li n p v i k e (branching s w t a u b) =
    let j = i + size s in
    let q = p ++ ((k + len s) ∷ []) in
    all_append (stmts_line li n p v i k (some j) s) (all∷ (refl, refl) (all_append (stmts_line li n q (some j) (suc j) 0 e a) (stmts_line li n q (some j) (suc j + size a) (len a) e b)))

lines_on : (e : Option ℕ) (ls : Lines) → All (OnLine ls) (nodes_before e ls)
unfolding nodes_before line_numbers count
lines_on e nolines = all[]
lines_on e (line ls n s) =
    let f = numbers-count ls in
    all_append
    (all_map (λ d o. record { inside = omega (arith, o.inside); number_is = get_or-append (line_numbers ls) (n ∷ []) 0 d.line (omega (arith, o.inside)) ∙ o.number_is }) (lines_on (line_entry (total ls) s e) ls))
    (all_map (λ d o. record {
      inside = omega (arith, o.0);
      number_is = ap (λ (x : ℕ). get_or (line_numbers ls ++ (n ∷ [])) x 0) o.0 ∙ get_or_at (line_numbers ls) n [] 0 (count ls) f ∙ sym o.1;
    }) (stmts_line (count ls) n [] none (total ls) 0 e s))

-- ---- the path by the table

-- P is the path of each of n nodes by the table
pub record PathTable (P : ℕ → List ℕ) (stmts : List ℕ) (n : ℕ) : Type 0 where
  pub path_is : (i : ℕ) → i < n → P i ≡ held_by P (holder_of stmts i) ++ (index_of stmts i ∷ [])
  pub held : (i : ℕ) → i < n → holder_of stmts i ≤ i

none_held : (l : List ℕ) (x : ℕ) → length (l ++ (x ∷ [])) ≤ 1 → l ≡ []
none_held [] x h = refl
none_held (a ∷ l) x h = absurd (omega (arith, length-append l (x ∷ [])))

pub path_law : {P : ℕ → List ℕ} {stmts : List ℕ} {n : ℕ} → PathTable P stmts n → (k i : ℕ) → i < n → length (P i) ≤ suc k → path_in stmts k i ≡ P i
unfolding path_in
path_law {P} {stmts} {n} t zero i h b =
    let l = held_by P (holder_of stmts i) in
    let x = index_of stmts i in
    let e = t.path_is i h in
    sym (e ∙ ap (λ (y : List ℕ). y ++ (x ∷ [])) (none_held l x (omega (arith, ap length e))))
path_law {P} {stmts} {n} t (suc k) i h b = go (λ j g c. path_law t k j g c) (holder_of stmts i) (t.path_is i h) (t.held i h) ∙ sym (t.path_is i h)
  where
    x : ℕ
    x = index_of stmts i

    go : ((j : ℕ) → j < n → length (P j) ≤ suc k → path_in stmts k j ≡ P j) → (j : ℕ) → P i ≡ held_by P j ++ (x ∷ []) → j ≤ i → held_by (λ y. path_in stmts k y) j ++ (x ∷ []) ≡ held_by P j ++ (x ∷ [])
    go f zero e g = refl
    go f (suc j) e g = ap (λ (y : List ℕ). y ++ (x ∷ [])) (f j (omega arith) (omega (arith, ap length e, length-append (P j) (x ∷ []))))

-- ---- the nodes of a listing that the tables hold

path_of : Option Node → List ℕ
path_of none = []
path_of (some n) = n.path

paths_of : (P : ℕ → List ℕ) (i : ℕ) (ns : List Node) → ((k : ℕ) (n : Node) → get_elem? ns k ≡ some n → P (i + k) ≡ n.path) → PathsOf P i ns
paths_of P i [] f = tt
paths_of P i (n ∷ ns) f = (rw (add-zero i) at (f 0 n refl), paths_of P (suc i) ns (λ k m e. let z : i + suc k ≡ suc i + k = omega arith in rw z at (f (suc k) m e)))

-- what the tables of line numbers and statements say of node i
pub record NodeRead (ls : Lines) (lines stmts : List ℕ) (i : ℕ) (n : Node) : Type 0 where
  pub line_is : get_or stmts (i * 12 + 1) 0 ≡ n.line
  pub holder_is : holder_of stmts i ≡ node_number n.holder
  pub line_in : n.line < count ls
  pub number_is : get_or lines n.line 0 ≡ n.number
  pub word_is : get_or stmts (i * 12) 0 ≡ stmt_number n.stmt
  pub held : holder_of stmts i ≤ i
  pub path_is : path_in stmts 16 i ≡ n.path

module _ (ls : Lines) (ok : LinesOk ls) (lines stmts more rest : List ℕ) (el : lines ≡ line_numbers ls ++ more) (es : stmts ≡ rec_rows (line_recs ls) ++ rest) where
  ns : List Node
  ns = nodes_before none ls

  P : ℕ → List ℕ
  P i = path_of (get_elem? ns i)

  see : (i c : ℕ) (r : Rec) → get_elem? (line_recs ls) i ≡ some r → c < 12 → get_or stmts (i * 12 + c) 0 ≡ get_or (rec_row r) c 0
  see i c r e h = ap (λ (t : List ℕ). get_or t (i * 12 + c) 0) es ∙ rec_at (line_recs ls) rest i c r e h

  path_match : PathMatch P 0 ns (line_recs ls)
  unfolding ns P path_of
  path_match = lines_paths none ls (paths_of P 0 ns (λ k n e. let z : 0 + k ≡ k = omega arith in rw z (ap path_of e)))

  path_table : PathTable P stmts (length ns)
  unfolding ns P path_of rec_row
  path_table = record { path_is = λ i h. (go i h).0; held = λ i h. (go i h).1 }
    where
      go : (i : ℕ) → i < length ns → (P i ≡ held_by P (holder_of stmts i) ++ (index_of stmts i ∷ [])) × (holder_of stmts i ≤ i)
      go i h =
          let d = at_place ns i h in
          let q = paths_at path_match i d.0 d.1 in
          let r = q.0 in
          let f : holder_of stmts i ≡ r.holder = see i 2 r q.1 (omega arith) in
          let g : index_of stmts i ≡ r.index = see i 3 r q.1 (omega arith) in
          (ap path_of d.1 ∙ q.2.path_is ∙ sym (rw (f, g)), omega (arith, f, q.2.held))

  pub node_read : (i : ℕ) (n : Node) → get_elem? (nodes_before none ls) i ≡ some n → NodeRead ls lines stmts i n
  unfolding ns P path_of rec_row
  node_read i n e =
      let m = match_at (lines_match none ls) i n e in
      let r = m.0 in
      let h : i < length ns = in_range ns i n e in
      let o = all-at (lines_on none ls) i n e in
      let z : i * 12 ≡ i * 12 + 0 = omega arith in
      let k : n.line < length (line_numbers ls) = omega (arith, numbers-count ls, o.inside) in
      record {
        line_is = see i 1 r m.1 (omega arith) ∙ m.2.line_is;
        holder_is = see i 2 r m.1 (omega arith) ∙ m.2.holder_is;
        line_in = o.inside;
        number_is = ap (λ (t : List ℕ). get_or t n.line 0) el ∙ get_or-append (line_numbers ls) more 0 n.line k ∙ o.number_is;
        word_is = ap (λ (x : ℕ). get_or stmts x 0) z ∙ see i 0 r m.1 (omega arith) ∙ m.2.word_is;
        held = path_table.held i h;
        path_is = path_law path_table 16 i h (rw e (all-at (lines_short none ls ok) i n e)) ∙ ap path_of e;
      }
