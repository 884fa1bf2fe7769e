-- Connecting, one turn and one call at a time: branches, statements, lines. Assumes nothing.
use Prim.Native.Nat.{ℕ, zero, suc, ◌+◌, ◌*◌, ◌-◌, ◌≤◌, ◌<◌}
use Rattle.std.specs.Prelude.{◌≡◌, Bool, true, false, not}
use Rattle.std.proofs.Math.Path.{refl, sym, ap}
use Rattle.std.proofs.Common.{◌∙◌, ⊎_elim, sub-one, lt-ltb, le-ltb}
use mathlib.Core.List.{List, [], ◌∷◌, ◌++◌, append_assoc, append-nil}
use Rattle.std.proofs.Math.Option.{Option, none}
use native.Mathlib.Omega.{arith}
use Rattle.std.proofs.Math.Numerals.{add-one}
use Rattle.std.proofs.Math.ListN.{length, get_or}
use Rattle.std.proofs.Math.Seq.{sets}
use Rattle.listings.specs.Listing.{BranchForm, to, stmts, absent, Stmts, ∅, ◌▸◌, branching, Lines, nolines, line, size, total, count}
use Rattle.listings.specs.ListingText.{StmtsOk, LinesOk}
use Rattle.listings.specs.Records.{Rec, rec_row, branch_number, branch_line, stmt_recs, line_recs}
use Rattle.listings.specs.Every.{All, all[], all∷, all_append}
use Rattle.listing_laws.specs.ReadingRecords.{stmts_length, lines_length}
use Rattle.graph_laws.specs.Adding.{node_number}
use Rattle.graph_laws.specs.NodeLaws.{length-nodes}
use Rattle.graph_laws.specs.Members.{all_map}
use Rattle.passes.specs.Compare.{lt-or}
use Rattle.graph.specs.Nodes.{branch_target, allocate, line_entry, nodes_before, nodes, Entries, entry_of, entries_before, entries}
use Rattle.passes.specs.Held.{StmtsHeld}
use Rattle.passes.specs.LineEntries.{entry_pairs, pairs_append, pairs_length, entries-length, second_at, stmts_line}
use Rattle.passes.specs.LineSearch.{EntryTable, EntryFound}
use Rattle.passes.specs.Falls.{leads, fall_rows, Head, leaf, fork, head_size, head_row, falls_of, head_falls, Spans, HeadAt, HeadOk, FallsWritten, target_of, BranchLed, RowConnected, StmtConnected, BranchConnected, LinesConnected, AllLines}
use Rattle.passes.specs.FallLaws.{rows_append, falls-nodes, falls-length, rows-length, sets-before, sets-padded, RecsAt, recs_split, recs_at, spans_recs, Prefix, prefix_∅, prefix_all, prefix_le, More, more, row_width}
use Rattle.tables.specs.Stores.{sets-append}

pub no : {A : Type 0} → true ≡ false → A
no e = absurd (let z : ◌≡◌ {A = ℕ} 0 1 = cc in omega arith)

-- as `if !f(..)` has it
pub not_both : {A : Type 0} (b : Bool) → b ≡ true → not b ≡ true → A
not_both true e f = no (sym f)
not_both false e f = no (sym e)

-- ---- where one branch leads

module _ (entries : List ℕ) (k form number from end next : ℕ) where
  pub led_line : (r : ℕ) → form ≡ 2 → EntryFound entries k number r → BranchLed entries k form number from end next r
  unfolding leads branch_target branch_number branch_line
  led_line r z f es et (to n) a ef en ee = f es et ∙ ap (λ (x : ℕ). node_number (entry_of es x)) en
  led_line r z f es et stmts a ef en ee = absurd (omega arith)
  led_line r z f es et absent a ef en ee = absurd (omega arith)

  pub led_none : form ≡ 0 → BranchLed entries k form number from end next next
  unfolding leads branch_target branch_number branch_line
  led_none z es et (to n) a ef en ee = absurd (omega arith)
  led_none z es et stmts a ef en ee = absurd (omega arith)
  led_none z es et absent a ef en ee = refl

  led_in : (r : ℕ) (a : Stmts) → end ≡ from + size a → r ≡ target_of from end next → (es : Entries) → r ≡ leads es next (branch_target stmts from a)
  unfolding leads branch_target size
  led_in r ∅ e er es = er ∙ rw (le-ltb from end (omega arith))
  led_in r (s ▸ o) e er es = er ∙ rw (lt-ltb from end (omega arith)) (add-one from)
  led_in r (branching s w t a u b) e er es = er ∙ rw (lt-ltb from end (omega arith)) (add-one from)

  led_stmts : (r : ℕ) → (form ≡ 2 → ⊥) → (form ≡ 0 → ⊥) → r ≡ target_of from end next → BranchLed entries k form number from end next r
  unfolding branch_number
  led_stmts r f g er es et (to n) a ef en ee = absurd (f ef)
  led_stmts r f g er es et stmts a ef en ee = led_in r a ee er es
  led_stmts r f g er es et absent a ef en ee = absurd (g ef)

  pub led_first : (r : ℕ) → (form ≡ 2 → ⊥) → (form ≡ 0 → ⊥) → from < end → r ≡ from + 1 → BranchLed entries k form number from end next r
  led_first r f g h er = led_stmts r f g (er ∙ rw (lt-ltb from end h))

  pub led_empty : (form ≡ 2 → ⊥) → (form ≡ 0 → ⊥) → end ≤ from → BranchLed entries k form number from end next next
  led_empty f g h = led_stmts next f g (rw (le-ltb from end h))

-- ---- the row of an IF

pub row_both : (entries : List ℕ) (k : ℕ) (rows : List ℕ) (i m end next x y : ℕ) (t : List ℕ)
    → BranchLed entries k (get_or rows (i * 12 + 6) 0) (get_or rows (i * 12 + 7) 0) (i + 1) m next x
    → BranchLed entries k (get_or rows (i * 12 + 8) 0) (get_or rows (i * 12 + 9) 0) m end next y
    → RowConnected entries k rows i m end next t (sets t (i * 3) (next ∷ x ∷ y ∷ []))
unfolding head_row
row_both entries k rows i m end next x y t f g es et p a q b r em ee =
    let ex : x ≡ leads es next (branch_target p (suc i) a)
    = f es et p a r.form1_at r.number1_at (rw add-one em) ∙ ap (λ (j : ℕ). leads es next (branch_target p j a)) (add-one i) in
    let ey : y ≡ leads es next (branch_target q (suc i + size a) b)
    = g es et q b r.form2_at r.number2_at (rw em ee) ∙ ap (λ (j : ℕ). leads es next (branch_target q j b)) em in
    rw (ex, ey)

head_end : (rows : List ℕ) (i : ℕ) (h : Head) → HeadAt rows i h → get_or rows (i * 12 + 4) 0 ≡ i + head_size h
head_end rows i leaf at = omega (arith, at.end_at)
head_end rows i (fork t a u b) at = omega (arith, at.0.end_at)

-- ---- a branch, statement by statement

-- the statements of s before i are connected
pub record Gone (es : Entries) (from end next : ℕ) (t u : List ℕ) (i : ℕ) (s : Stmts) : Type 0 where
  pub p : Stmts
  pub pre : Prefix p s
  pub at : i ≡ from + size p
  pub table : u ≡ sets t (from * 3) (falls_of es from (target_of i end next) p)

module _ (entries : List ℕ) (k : ℕ) (rows : List ℕ) (depth from end next : ℕ) (t : List ℕ) (es : Entries) (et : EntryTable es entries k) (d : ℕ) (dd : d + depth ≡ 17)
    (s : Stmts) (sp : Spans rows from s) (ok : StmtsOk d s) (all : end ≡ from + size s) where
  pub branch-start : Gone es from end next t t from s
  unfolding size falls_of
  branch-start = record { p = ∅; pre = prefix_∅ s; at = omega arith; table = refl }

  pub branch_end : (u : List ℕ) (i : ℕ) → end ≤ i → Gone es from end next t u i s → FallsWritten true t u from (falls_of es from next s)
  branch_end u i h g =
      let q : g.p ≡ s = prefix_all g.pre (omega (arith, g.at)) in
      record { done = refl; table = g.table ∙ rw (le-ltb i end h, q) }

  module _ (u : List ℕ) (i : ℕ) (h : i < end) (p : Stmts) (q : i ≡ from + size p) (tu : u ≡ sets t (from * 3) (falls_of es from (target_of i end next) p)) (m : More rows from d p s) where
    at_i : HeadAt rows i m.head
    at_i = rw q m.at

    in_at : (i + 1 ≤ get_or rows (i * 12 + 4) 0) × (get_or rows (i * 12 + 4) 0 ≤ end)
    in_at = (omega (arith, head_end rows i m.head at_i, one m.head), omega (arith, head_end rows i m.head at_i, m.sized, prefix_le m.pre))
      where
        one : (x : Head) → 0 < head_size x
        one leaf = omega arith
        one (fork f a g b) = omega arith

    step_at : (v : List ℕ) (r : Bool) (e g : ℕ) → e ≡ get_or rows (i * 12 + 4) 0 → g ≡ target_of e end next → StmtConnected entries k rows depth i e g u v r
        → (r ≡ true) × Gone es from end next t v e s
    step_at v r e g ee eg f =
        let F = falls_of es from (suc i) p in
        let G = head_falls es i g m.head in
        let eh : e ≡ i + head_size m.head = ee ∙ head_end rows i m.head at_i in
        let w : FallsWritten r u v i G = f es et d dd m.head at_i m.ok eh in
        let tf : u ≡ sets t (from * 3) F = tu ∙ rw (lt-ltb i end h, add-one) in
        let lf : i * 3 ≡ from * 3 + length F = omega (arith, falls-length es from (suc i) p) in
        let fe : falls_of es from g m.then ≡ F ++ G = rw q (m.rows_are es g) in (
          w.done,
          record {
            p = m.then;
            pre = m.pre;
            at = omega (arith, eh, m.sized);
            table = w.table ∙ ap (λ (x : List ℕ). sets x (i * 3) G) tf ∙ ap (λ (x : ℕ). sets (sets t (from * 3) F) x G) lf
                ∙ sym (sets-append t (from * 3) F G) ∙ ap (sets t (from * 3)) (sym fe) ∙ ap (λ (x : ℕ). sets t (from * 3) (falls_of es from x m.then)) eg;
          },
        )

  module _ (u : List ℕ) (i : ℕ) (h : i < end) (g : Gone es from end next t u i s) where
    here : More rows from d g.p s
    here = more rows from d g.pre (omega (arith, g.at)) sp ok

    pub branch_in : (i + 1 ≤ get_or rows (i * 12 + 4) 0) × (get_or rows (i * 12 + 4) 0 ≤ end)
    branch_in = in_at u i h g.p g.at g.table here

    pub branch-step : (v : List ℕ) (r : Bool) (e f : ℕ) → e ≡ get_or rows (i * 12 + 4) 0 → f ≡ target_of e end next → StmtConnected entries k rows depth i e f u v r
        → (r ≡ true) × Gone es from end next t v e s
    branch-step = step_at u i h g.p g.at g.table here

-- ---- a statement

module _ (entries : List ℕ) (k : ℕ) (rows : List ℕ) (depth i end next : ℕ) (t : List ℕ) where
  pub stmt_leaf : (u : List ℕ) → get_or rows (i * 12 + 6) 0 ≡ 0 → u ≡ sets t (i * 3) (next ∷ 0 ∷ 0 ∷ []) → StmtConnected entries k rows depth i end next t u true
  unfolding head_falls head_row
  stmt_leaf u z eu es et d dd leaf at ok ee = record { done = refl; table = eu }
  stmt_leaf u z eu es et d dd (fork f a g b) at ok ee = absurd (ok.1 (sym at.0.form1_at ∙ z))

  abbrev InOrder : ℕ → Type 0
  InOrder m = (0 < depth) × (i + 1 ≤ m) × (m ≤ end)

  fork_in : (d : ℕ) → d + depth ≡ 17 → (f : BranchForm) (a : Stmts) (g : BranchForm) (b : Stmts) → HeadAt rows i (fork f a g b) → HeadOk d (fork f a g b) → end ≡ i + head_size (fork f a g b)
      → (m : ℕ) → m ≡ get_or rows (i * 12 + 5) 0 → InOrder m
  fork_in d dd f a g b at ok ee m em = (omega (arith, ok.0), omega (arith, at.0.second_at), omega (arith, at.0.second_at))

  module _ (f : get_or rows (i * 12 + 6) 0 ≡ 0 → ⊥) (m : ℕ) (em : m ≡ get_or rows (i * 12 + 5) 0) where
    pub stmt_false : (u : List ℕ) → ((0 < depth) × (i + 1 ≤ m) × (m ≤ end) → ⊥) → StmtConnected entries k rows depth i end next t u false
    stmt_false u g es et d dd leaf at ok ee = absurd (f at.form_at)
    stmt_false u g es et d dd (fork x a y b) at ok ee = absurd (g (fork_in d dd x a y b at ok ee m em))

    deeper : (x d : ℕ) → 0 < x → d + x ≡ 17 → suc d + (x - 1) ≡ 17
    deeper x d h e = omega arith

    pub stmt_first : (t₁ u : List ℕ) (r : Bool) → 0 < depth → BranchConnected entries k rows (depth - 1) (i + 1) m next t₁ u r → not r ≡ true
        → StmtConnected entries k rows depth i end next t u false
    stmt_first t₁ u r h g z es et d dd leaf at ok ee = absurd (f at.form_at)
    stmt_first t₁ u r h g z es et d dd (fork x a y b) at ok ee =
        not_both r (g es et (suc d) (deeper depth d h dd) a (rw add-one at.1) ok.2 (em ∙ at.0.second_at ∙ rw add-one)).done z

    pub stmt_both : (t₁ u v : List ℕ) (r₁ r : Bool) → 0 < depth → RowConnected entries k rows i m end next t t₁
        → BranchConnected entries k rows (depth - 1) (i + 1) m next t₁ u r₁ → BranchConnected entries k rows (depth - 1) m end next u v r
        → StmtConnected entries k rows depth i end next t v r
    unfolding head_falls
    stmt_both t₁ u v r₁ r h row g₁ g₂ es et d dd leaf at ok ee = absurd (f at.form_at)
    stmt_both t₁ u v r₁ r h row g₁ g₂ es et d dd (fork x a y b) at ok ee =
        let mi : m ≡ suc i + size a = em ∙ at.0.second_at in
        let en : end ≡ suc i + size a + size b = omega arith in
        let H = head_row es i next (fork x a y b) in
        let FA = falls_of es (suc i) next a in
        let FB = falls_of es (suc i + size a) next b in
        let w₀ : t₁ ≡ sets t (i * 3) H = row es et x a y b at.0 mi en in
        let wa : FallsWritten r₁ t₁ u (suc i) FA = rw (add-one i) at (g₁ es et (suc d) (deeper depth d h dd) a (rw add-one at.1) ok.2 (mi ∙ rw add-one)) in
        let wb : FallsWritten r u v (suc i + size a) FB = rw mi at (g₂ es et (suc d) (deeper depth d h dd) b (rw mi at.2) ok.3 (en ∙ rw mi)) in
        let la : suc i * 3 ≡ i * 3 + length H = omega (arith, row_width es i next (fork x a y b)) in
        let lb : (suc i + size a) * 3 ≡ suc i * 3 + length FA = omega (arith, falls-length es (suc i) next a) in
        record {
          done = wb.done;
          table =
              wb.table ∙ ap (λ (z : List ℕ). sets z ((suc i + size a) * 3) FB) wa.table ∙ ap (λ (k : ℕ). sets (sets t₁ (suc i * 3) FA) k FB) lb
              ∙ sym (sets-append t₁ (suc i * 3) FA FB) ∙ ap (λ (z : List ℕ). sets z (suc i * 3) (FA ++ FB)) w₀
              ∙ ap (λ (k : ℕ). sets (sets t (i * 3) H) k (FA ++ FB)) la ∙ sym (sets-append t (i * 3) H (FA ++ FB));
        }

-- ---- the lines, from the last up

-- where the statements of line l begin that end at `end`, by the records: all from there on are of that line, and the
-- one before is not
pub record Begins (rows : List ℕ) (l end from : ℕ) : Type 0 where
  pub within : from ≤ end
  pub own : (i : ℕ) → from ≤ i → i < end → get_or rows (i * 12 + 1) 0 ≡ l
  pub other : 0 < from → get_or rows ((from - 1) * 12 + 1) 0 ≡ l → ⊥

-- what holds of the lines of records holds of the column
line_column_lem : (P : ℕ → Type 0) (rows : List ℕ) (i : ℕ) (rs : List Rec) → RecsAt rows i rs → All (λ (r : Rec). P r.line) rs → (k : ℕ) → i ≤ k → k < i + length rs → P (get_or rows (k * 12 + 1) 0)
unfolding rec_row
line_column_lem P rows i [] h all[] k a b = absurd (omega arith)
line_column_lem P rows i (r ∷ rs) h (all∷ p ps) k a b =
    ⊎_elim (λ (g : i < k). line_column_lem P rows (suc i) rs h.1 ps k g (omega arith)) (λ (g : k ≤ i). let q : k ≡ i = omega arith in rw (q, h.0 1 (omega arith)) p) (lt-or i k)

-- the statements of lines have these lines' indices
lines_before : (ls : Lines) → All (λ (r : Rec). r.line < count ls) (line_recs ls)
unfolding line_recs count
lines_before nolines = all[]
lines_before (line ls n s) = all_append (all_map (λ r h. omega arith) (lines_before ls)) (all_map (λ r e. omega arith) (stmts_line (count ls) 0 0 (total ls) s))

-- a line's statements begin behind those of the lines before it
module _ (rows : List ℕ) (ls : Lines) (s : Stmts) (before : RecsAt rows 0 (line_recs ls)) (own : RecsAt rows (total ls) (stmt_recs (count ls) 0 0 (total ls) s)) (end from : ℕ)
    (ee : end ≡ total ls + size s) (b : Begins rows (count ls) end from) where
  not-before : from < total ls → ⊥
  not-before h =
      omega (arith, b.own from (omega arith) (omega arith), line_column_lem (λ (l : ℕ). l < count ls) rows 0 (line_recs ls) before (lines_before ls) from (omega arith) (omega (arith, lines_length ls)))

  not_behind : total ls < from → ⊥
  not_behind h =
      b.other (omega arith)
      (line_column_lem (λ (l : ℕ). l ≡ count ls) rows (total ls) (stmt_recs (count ls) 0 0 (total ls) s) own (stmts_line (count ls) 0 0 (total ls) s) (from - 1) (omega arith) (omega (arith, b.within, stmts_length (count ls) 0 0 (total ls) s)))

  pub line_begins : from ≡ total ls
  line_begins = ⊎_elim (λ (h : from < total ls). absurd (not-before h)) (λ (h : total ls ≤ from). ⊎_elim (λ (g : total ls < from). absurd (not_behind g)) (λ (g : from ≤ total ls). omega arith) (lt-or (total ls) from)) (lt-or from (total ls))

-- ---- how far the lines are connected

-- the statements of the lines after `lines` are connected; `after` is the entry of the first of those
pub record Ahead (es : Entries) (ns : List ℕ) (entries rows t u : List ℕ) (l end next : ℕ) : Type 0 where
  pub lines : Lines
  pub after : Option ℕ
  pub done : List ℕ
  pub others : List ℕ
  pub left : l ≡ count lines
  pub end_is : end ≡ total lines
  pub next_is : next ≡ node_number after
  pub ok : LinesOk lines
  pub held : RecsAt rows 0 (line_recs lines)
  pub entered : entries ≡ entry_pairs (entries_before after lines) ++ others
  pub table : u ≡ sets t (total lines * 3) done
  pub same : fall_rows es (nodes_before after lines) ++ done ≡ ns

module _ (entries : List ℕ) (k : ℕ) (rows t : List ℕ) (es : Entries) (ns : List ℕ) (et : EntryTable es entries k) (u v : List ℕ) (l end next from : ℕ) (r : Bool)
    (begins : Begins rows l end from) (con : BranchConnected entries k rows 17 from end next u v r) where
  ahead_line : (ls : Lines) (e : Option ℕ) (done others : List ℕ) → suc l ≡ count ls → end ≡ total ls → next ≡ node_number e → LinesOk ls
      → RecsAt rows 0 (line_recs ls) → entries ≡ entry_pairs (entries_before e ls) ++ others → u ≡ sets t (total ls * 3) done → fall_rows es (nodes_before e ls) ++ done ≡ ns
      → (r ≡ true) × Ahead es ns entries rows t v l from (get_or entries (l * 2 + 1) 0)
  unfolding count total LinesOk line_recs entries_before entry_pairs nodes_before
  ahead_line nolines e done others c ee en ok ra en' eu ea = absurd (omega arith)
  ahead_line (line ls n s) e done others c ee en ok ra en' eu ea =
      let d = line_entry (total ls) s e in
      let E = entry_pairs (entries_before d ls) in
      let g : entries ≡ E ++ (n ∷ node_number d ∷ others) = en' ∙ ap (λ (x : List ℕ). x ++ others) (pairs_append (entries_before d ls) ((n, d) ∷ [])) ∙ simp append_assoc in
      let le : length E ≡ l * 2 = omega (arith, pairs_length (entries_before d ls), entries-length d ls) in
      let x : get_or entries (l * 2 + 1) 0 ≡ node_number d = ap (λ (y : List ℕ). get_or y (l * 2 + 1) 0) g ∙ second_at E n (node_number d) others l le in
      let sr = recs_split rows 0 (line_recs ls) (stmt_recs (count ls) 0 0 (total ls) s) ra in
      let z : 0 + length (line_recs ls) ≡ total ls = omega (arith, lines_length ls) in
      let own : RecsAt rows (total ls) (stmt_recs (count ls) 0 0 (total ls) s) = rw z at sr.1 in
      let li : l ≡ count ls = omega arith in
      let f : from ≡ total ls = line_begins rows ls s sr.0 own end from ee (rw li at begins) in
      let sp : Spans rows from s = rw f (spans_recs rows (count ls) 0 0 (total ls) s own) in
      let w = con es et 0 refl s sp ok.3 (omega arith) in
      let F = falls_of es from next s in
      let ff : falls_of es (total ls) (node_number e) s ≡ F = rw (f, en) in
      let nf : fall_rows es (nodes_before d ls ++ allocate (count ls) n [] none (total ls) 0 e s) ≡ fall_rows es (nodes_before d ls) ++ F
      = rows_append es (nodes_before d ls) (allocate (count ls) n [] none (total ls) 0 e s)
      ∙ ap (λ (y : List ℕ). fall_rows es (nodes_before d ls) ++ y) (falls-nodes es (count ls) n [] none (total ls) 0 e s ∙ ff) in
      let lf : total (line ls n s) * 3 ≡ from * 3 + length F = omega (arith, falls-length es from next s) in (
        w.done,
        record {
          lines = ls;
          after = d;
          done = F ++ done;
          others = n ∷ node_number d ∷ others;
          left = omega arith;
          end_is = f;
          next_is = x;
          ok = ok.0;
          held = sr.0;
          entered = g;
          table = w.table ∙ ap (λ (y : List ℕ). sets y (from * 3) F) eu ∙ sets-before t (from * 3) (total (line ls n s) * 3) F done lf ∙ rw f;
          same = sym (ap (λ (y : List ℕ). y ++ done) nf ∙ append_assoc (fall_rows es (nodes_before d ls)) F done) ∙ ea;
        },
      )

-- the line before place l is the next one
pub ahead_down : (entries : List ℕ) (k : ℕ) (rows t : List ℕ) (es : Entries) (ns : List ℕ) → EntryTable es entries k → (u v : List ℕ) (l end next from : ℕ) (r : Bool) → 0 < l
    → Begins rows (l - 1) end from → Ahead es ns entries rows t u l end next → BranchConnected entries k rows 17 from end next u v r
    → (r ≡ true) × Ahead es ns entries rows t v (l - 1) from (get_or entries ((l - 1) * 2 + 1) 0)
ahead_down entries k rows t es ns et u v zero end next from r h b a con = absurd (omega arith)
ahead_down entries k rows t es ns et u v (suc l) end next from r h b a con =
    rw sub-one
    (ahead_line entries k rows t es ns et u v l end next from r (rw (sub-one (suc l)) at b) con a.lines a.after a.done a.others a.left a.end_is a.next_is a.ok a.held a.entered
    a.table a.same)

pub ahead-start : (table : List ℕ) (k : ℕ) (rows t : List ℕ) (n : ℕ) (ls : Lines) → LinesOk ls → EntryTable (entries ls) table k → StmtsHeld ls rows n
    → Ahead (entries ls) (fall_rows (entries ls) (nodes ls)) table rows t t k n 0
unfolding nodes entries
ahead-start table k rows t n ls ok et sh =
    record {
      lines = ls;
      after = none;
      done = [];
      others = et.rest;
      left = et.counted ∙ entries-length none ls;
      end_is = sh.counted;
      next_is = refl;
      ok = ok;
      held = rw sh.rows (recs_at (line_recs ls) [] sh.rest 0 (omega arith));
      entered = et.listed;
      table = refl;
      same = append-nil _;
    }

pub ahead_end : (es : Entries) (ns table rows t u : List ℕ) (l end next : ℕ) → l ≡ 0 → Ahead es ns table rows t u l end next → FallsWritten true t u 0 ns
unfolding count total nodes_before fall_rows
ahead_end es ns table rows t u l end next z a = none_left a.lines a.after a.done (omega (arith, a.left)) a.table a.same
  where
    none_left : (ls : Lines) (e : Option ℕ) (done : List ℕ) → count ls ≡ 0 → u ≡ sets t (total ls * 3) done → fall_rows es (nodes_before e ls) ++ done ≡ ns → FallsWritten true t u 0 ns
    none_left nolines e done c eu ea = record { done = refl; table = eu ∙ ap (sets t 0) ea }
    none_left (line ls n s) e done c eu ea = absurd (omega arith)

-- the whole
pub lines_connected : (table rows : List ℕ) (c n : ℕ) (t u : List ℕ) (r : Bool) → n * 3 ≤ length t → AllLines table rows c n t u r → LinesConnected table rows c n t u r
unfolding nodes
lines_connected table rows c n t u r h f ls ok et sh z =
    let w = f ls ok et sh in
    let k : length (fall_rows (entries ls) (nodes ls)) ≤ length t = omega (arith, rows-length (entries ls) (nodes ls), length-nodes none ls, sh.counted) in
    record { done = w.done; table = w.table ∙ sets-padded t (fall_rows (entries ls) (nodes ls)) k z }
