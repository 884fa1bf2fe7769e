-- The tables that the reader writes hold a listing, and so its nodes as the wiring reads them. Assumes nothing.
use Rattle.std.specs.Prelude.{ℕ, zero, suc, ◌+◌, ◌*◌, ◌-◌, ◌≤◌, ◌<◌, ◌≡◌, refl, drop, replicate}
use Rattle.std.proofs.Math.Path.{sym, ap}
use Rattle.std.proofs.Common.{◌∙◌, get_or-take, get_or-drop}
use mathlib.Core.List.{List, [], ◌∷◌, ◌++◌}
use Rattle.std.proofs.Math.Option.{Option, none, some}
use native.Mathlib.Omega.{arith}
use Rattle.std.proofs.Math.ListN.{length, get_or, take}
use Rattle.listings.specs.Every.{All, all[], all∷, all_append}
use Rattle.listings.specs.Listing.{Stmts, ∅, ◌▸◌, branching, Lines, nolines, line, Listing, size, len, total, count}
use Rattle.listings.specs.ListingText.{SimpleOk, StmtsOk, LinesOk, Within}
use Rattle.listings.specs.Records.{Rec, line_recs, line_numbers, rec_row, rec_rows, arg_row, arg_rows, padded}
use Rattle.listing_laws.specs.RecordLaws.{rec_at}
use Rattle.reader.specs.ReadBack.{lines_wide}
use Rattle.listings.specs.WordTable.{zeros}
use Rattle.graph_laws.specs.Members.{all-at}
use Rattle.graph.specs.Nodes.{NodeStmt, simple, cond, Node, allocate, line_entry, nodes_before, nodes}
use Rattle.graph_laws.specs.NodeLaws.{length-nodes}
use Rattle.graph_laws.specs.NodeRecords.{StmtIs, RecOf, lines_match, match_at}
use Rattle.graph.specs.Graph.{wire}
use Rattle.passes.specs.ListedNodes.{StmtListed, NodeListed, Listed}
use Rattle.passes.specs.Held.{LinesHeld, StmtsHeld, ArgsHeld, lines_held, stmts_held, args_held}
use Rattle.passes.specs.JumpLaws.{args_row, few_at}

-- the tables hold the listing L, which lies within the limits: c lines, n statements
pub record HoldsListing (L : Listing) (lines stmts args : List ℕ) (c n : ℕ) : Type 0 where
  pub within : Within L
  pub count_is : c ≡ count L.lines
  pub nodes_are : n ≡ total L.lines
  pub lines_are : lines ≡ padded (length lines) (line_numbers L.lines)
  pub stmts_are : stmts ≡ padded (length stmts) (rec_rows (line_recs L.lines))
  pub args_are : args ≡ padded (length args) (arg_rows (line_recs L.lines))
  pub lines_fit : c ≤ length lines
  pub stmts_fit : n * 12 ≤ length stmts
  pub args_fit : n * 64 ≤ length args

-- ---- from the reader's contract

-- ---- numbers and names of every node are in form

abbrev StmtOk : NodeStmt → Type 0
StmtOk (simple o) = SimpleOk o
StmtOk (cond w a b) = Unit {0}

abbrev NodeOk : Node → Type 0
NodeOk n = StmtOk n.stmt

stmts_ok : (d li n : ℕ) (p : List ℕ) (v : Option ℕ) (i k : ℕ) (e : Option ℕ) (s : Stmts) → StmtsOk d s → All NodeOk (allocate li n p v i k e s)
unfolding allocate StmtsOk
stmts_ok d li n p v i k e ∅ ok = all[]
stmts_ok d li n p v i k e (s ▸ o) ok = all_append (stmts_ok d li n p v i k (some (i + size s)) s ok.0) (all∷ ok.2 all[])
stmts_ok d li n p v i k e (branching s w t a u b) ok =
    let j = i + size s in
    let q = p ++ ((k + len s) ∷ []) in
    all_append (stmts_ok d li n p v i k (some j) s ok.0)
    (all∷ tt (all_append (stmts_ok (suc d) li n q (some j) (suc j) 0 e a ok.3) (stmts_ok (suc d) li n q (some j) (suc j + size a) (len a) e b ok.4)))

nodes_ok : (e : Option ℕ) (ls : Lines) → LinesOk ls → All NodeOk (nodes_before e ls)
unfolding nodes_before LinesOk
nodes_ok e nolines ok = all[]
nodes_ok e (line ls n s) ok = all_append (nodes_ok (line_entry (total ls) s e) ls ok.0) (stmts_ok 0 (count ls) n [] none (total ls) 0 e s ok.3)

-- ---- a record as its node's

padded_get : (m : ℕ) (l : List ℕ) (j : ℕ) → get_or (padded m l) j 0 ≡ get_or l j 0
unfolding padded
padded_get m l j = go l j (m - length l)
  where
    go : (l : List ℕ) (j k : ℕ) → get_or (l ++ replicate k 0) j 0 ≡ get_or l j 0
    go [] j k = zeros k j
    go (a ∷ l) zero k = refl
    go (a ∷ l) (suc j) k = go l j k

module _ (stmts args : List ℕ) (i : ℕ) (r : Rec) (entry : (c : ℕ) → c < 12 → get_or stmts (i * 12 + c) 0 ≡ get_or (rec_row r) c 0)
    (row : take 64 (drop (i * 64) args) ≡ arg_row r) (few : length r.args ≤ 64) where
  argument : (j : ℕ) → j < 64 → get_or args (i * 64 + j) 0 ≡ get_or r.args j 0
  unfolding arg_row
  argument j h = sym (get_or-drop (i * 64) args j 0) ∙ sym (get_or-take 64 (drop (i * 64) args) j 0 h) ∙ ap (λ (x : List ℕ). get_or x j 0) row ∙ padded_get 64 r.args j

  stmt_listed : (k : ℕ) (s : NodeStmt) → StmtIs k s r → StmtOk s → StmtListed stmts args i s
  unfolding rec_row
  stmt_listed k (simple o) h ok =
      record {
        count = entry 10 (omega arith) ∙ ap length h.1;
        few = omega (arith, ap length h.1);
        detail = entry 11 (omega arith) ∙ h.0;
        args = λ j g. argument j g ∙ ap (λ (x : List ℕ). get_or x j 0) h.1;
        names = ok;
      }
  stmt_listed k (cond w a b) h ok = tt

  node_listed : (k : ℕ) (n : Node) → RecOf k n r → NodeOk n → NodeListed stmts args i n
  unfolding rec_row
  node_listed k n h ok =
      let z : i * 12 ≡ i * 12 + 0 = omega arith in
      record { word = ap (λ (x : ℕ). get_or stmts x 0) z ∙ entry 0 (omega arith) ∙ h.word_is; stmt = stmt_listed k n.stmt h.stmt_is ok }

-- ---- what the tables hold

module _ {L : Listing} {lines stmts args : List ℕ} {c n : ℕ} (h : HoldsListing L lines stmts args c n) where
  pub holds_few : n ≤ 4096
  holds_few = omega (arith, h.within.stmt_count, h.nodes_are)

  pub holds-length : n ≡ length (wire L).nodes
  unfolding wire nodes
  holds-length = h.nodes_are ∙ sym (length-nodes none L.lines)

  pub holds_lines : LinesHeld L.lines lines c
  holds_lines = rw h.count_is (lines_held L.lines (length lines) lines h.within.lines h.lines_are)

  pub holds_stmts : StmtsHeld L.lines stmts n
  holds_stmts = rw h.nodes_are (stmts_held L.lines (length stmts) stmts h.stmts_are)

  pub holds_args : ArgsHeld L.lines args
  holds_args = args_held L.lines (length args) args h.args_are

  pub holds-listed : Listed stmts args (wire L).nodes
  unfolding wire nodes
  holds-listed i d e =
      let ls = L.lines in
      let ok = h.within.lines in
      let m = match_at (lines_match none ls) i d e in
      let r = m.0 in
      let wide = lines_wide ls ok in
      let sh = holds_stmts in
      let ah = holds_args in
      node_listed stmts args i r (λ k g. ap (λ (x : List ℕ). get_or x (i * 12 + k) 0) sh.rows ∙ rec_at (line_recs ls) sh.rest i k r m.1 g)
      (ap (λ (x : List ℕ). take 64 (drop (i * 64) x)) ah.rows ∙ args_row (line_recs ls) ah.rest i r wide m.1) (few_at i r wide m.1) (0 + i) d m.2 (all-at (nodes_ok none ls ok) i d e)
