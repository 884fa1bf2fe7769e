-- The last stage of a build: on a listing's tables what is written are its graph's tables. Assumes nothing.
use Rattle.std.specs.Prelude.{Result, Ok, Err, ℕ, ◌+◌, ◌-◌, ◌*◌, ◌/◌, ◌%◌, ◌≤◌, ◌<◌, ◌≡◌, refl, Bool, true, List, ◌++◌, ◌⊎◌, length, get_or, set, drop, replicate}
use Rattle.std.proofs.Common.{sym, ap, ◌∙◌, inl, inr, arith, length-append, length-drop, ext_get_or}
use Rattle.std.proofs.Math.Option.{none}
use Rattle.listings.specs.Listing.{Listing, count}
use Rattle.listings.specs.Records.{padded, counts_of}
use Rattle.graph.specs.Nodes.{entries}
use Rattle.passes.specs.LineEntries.{entries-length}
use Rattle.reader.specs.Tables.{drop_zeros}
use Rattle.graph.specs.Graph.{Wired, wire, skip_steps, all_successors, return_targets}
use Rattle.graph.specs.Questions as reply
use Rattle.graph_laws.specs.GraphLaws.{node_count}
use Rattle.graph.specs.Build.{edge_count}
use Rattle.passes.specs.Compare.{eq-or, lt-or}
use Rattle.passes.specs.Clearing.{SetsCleared}
use Rattle.passes.specs.EdgeTable.{joined_lists, list_rows, columns_past, length_lists}
use Rattle.passes.specs.Predecessors.{preds_of, all_lists, successor_lists}
use Rattle.passes.specs.EdgeCount.{edges-joined}
use Rattle.passes.specs.PreparedLaws.{return_row}
use Rattle.passes.specs.TableForms.{count_table, count-table, list-table, return_table_lem, succ_table_lem, pred_table_lem}
use Rattle.tables.specs.Told.{told}
use Rattle.storing.specs.EdgesFit.{edges_fit, fit_edges}
use Rattle.storing.specs.Predecessors.{sources_of, sources_are}
use Rattle.storing.specs.StoredGraph.{graph_readable, final_lists, stored_of, GraphStored, TablesAnswered, GraphAnswered, read_graph}
use Rattle.layout.specs.declared.refusals.Refusal.{Refusal}
use Rattle.wiring.specs.FinalGraph.{FinalTables, SkipsHeld, few_through, finals_are, graph_reads}
use Rattle.wiring.specs.Wiring.{WiredGraph}

-- ---- what the tables hold

-- the lists that skipping paths follow stand in scratch; the table of rows was zero before them
pub record SkipsStored (W : Wired) (n : ℕ) (lists scratch : List ℕ) : Type 0 where
  pub skips : SkipsHeld W n lists scratch
  pub zero-rows : skips.lists₀ ≡ replicate (length skips.lists₀) 0

-- what the lists of L need
pub record EdgesHeld (L : Listing) (ks : List ℕ) (handlers : Bool) (stmts args entries falls links frames dispatched : List ℕ) (lines n : ℕ) (lists scratch returns : List ℕ) (targets : ℕ) (succ pred : List ℕ) : Type 0 where
  pub tables : FinalTables L ks handlers stmts args entries falls links frames dispatched lines n returns targets
  pub held : SkipsStored (wire L) n lists scratch
  pub rows : n * 4 ≤ length lists
  pub few_edges : edge_count L ≤ 32768
  pub succ_fits : edge_count L ≤ length succ
  pub pred_fits : edge_count L ≤ length pred
  pub zero_succ : succ ≡ replicate (length succ) 0
  pub zero_pred : pred ≡ replicate (length pred) 0

-- what the whole stage needs
pub record WriteHeld (L : Listing) (ks : List ℕ) (handlers : Bool) (stmts args entries falls links frames dispatched : List ℕ) (lines n : ℕ) (counts lists scratch returns : List ℕ) (targets : ℕ) (succ pred : List ℕ) : Type 0 where
  pub edges : EdgesHeld L ks handlers stmts args entries falls links frames dispatched lines n lists scratch returns targets succ pred
  pub counts_are : counts ≡ padded 6 (counts_of L)
  pub returns_are : returns ≡ padded (length returns) (return_targets (wire L))
  pub targets_are : targets ≡ length (return_targets (wire L))

-- ---- zeros

zeros_drop : (k : ℕ) (t : List ℕ) → t ≡ replicate (length t) 0 → drop k t ≡ replicate (length (drop k t)) 0
zeros_drop k t e = ap (drop k) e ∙ drop_zeros (length t) k ∙ ap (λ (n : ℕ). replicate {A = ℕ} n 0) (sym (length-drop k t))

zeros_behind : (l r t : List ℕ) → r ≡ replicate (length r) 0 → t ≡ l ++ r → t ≡ padded (length t) l
unfolding padded
zeros_behind l r t z e =
    let k : length r ≡ length t - length l = omega (arith, ap length e, length-append l r) in
    e ∙ ap (λ (x : List ℕ). l ++ x) (z ∙ ap (λ (n : ℕ). replicate {A = ℕ} n 0) k)

-- ---- the lists

pub edges_are : (L : Listing) → edge_count L ≡ length (joined_lists (all_successors L))
edges_are L = edges-joined L ∙ ap (λ (k : List (List ℕ)). length (joined_lists k)) (sym (all_lists L))

-- ---- the arguments

args_back : {L : Listing} {ks : List ℕ} {handlers : Bool} {stmts args entries falls links frames dispatched : List ℕ} {lines n : ℕ} {returns args' : List ℕ} {targets : ℕ}
    → FinalTables L ks handlers stmts args entries falls links frames dispatched lines n returns targets → SetsCleared stmts n args args' → args' ≡ ks
args_back {ks = ks} {stmts = stmts} {args = args} {n = n} {args' = args'} t s = ext_get_or 0 args' ks (s.size ∙ t.args_size) (λ e _. at e (lt-or (e / 64) n) (eq-or (get_or stmts ((e / 64) * 12) 0) 9))
  where
    at : (e : ℕ) → (e / 64 < n) ⊎ (n ≤ e / 64) → (get_or stmts ((e / 64) * 12) 0 ≡ 9) ⊎ (get_or stmts ((e / 64) * 12) 0 ≡ 9 → ⊥) → get_or args' e 0 ≡ get_or ks e 0
    at e (inl h) (inl w) =
        let r : (e / 64) * 64 + e % 64 ≡ e = omega arith in
        s.cleared e h w ∙ sym (ap (λ (x : ℕ). get_or ks x 0) (sym r) ∙ return_row t.prepared (e / 64) h w (e % 64) (omega arith))
    at e (inl h) (inr w) = s.kept e (λ p. w p.1) ∙ t.kept e (λ _ x. w x)
    at e (inr h) w = s.kept e (λ p. omega (arith, p.0)) ∙ t.kept e (λ l _. omega arith)

-- ---- the counts

-- a row of entries for each line
pub rows_are : (L : Listing) → length (wire L).entries.rows ≡ count L.lines
unfolding wire entries
rows_are L = entries-length none L.lines

counts-written : (L : Listing) (counts counts' : List ℕ) (edges targets rows : ℕ) → counts ≡ padded 6 (counts_of L) → edges ≡ edge_count L → targets ≡ length (return_targets (wire L)) → rows ≡ length (wire L).entries.rows
    → counts' ≡ set (set (set counts 3 edges) 4 targets) 5 rows → counts' ≡ count_table L 6
unfolding padded counts_of
counts-written L counts counts' edges targets rows c e t r p = p ∙ ap (λ (x : List ℕ). set (set (set x 3 edges) 4 targets) 5 rows) c ∙ rw (e, t, r) (sym (count-table L 6))

-- ---- the whole stage

module _ {L : Listing} {ks : List ℕ} {handlers : Bool} {stmts args entries falls links frames dispatched : List ℕ} {lines n : ℕ} {counts lists scratch returns : List ℕ} {targets : ℕ} {succ pred : List ℕ}
    (q : WriteHeld L ks handlers stmts args entries falls links frames dispatched lines n counts lists scratch returns targets succ pred) where
  abbrev ls : List (List ℕ)
  ls = final_lists handlers stmts args falls links n lists scratch returns targets

  finals : ls ≡ all_successors L
  finals = finals_are q.edges.tables q.edges.held.skips

  nodes_are : n ≡ node_count L
  nodes_are = q.edges.tables.prepared.nodes_are

  total : length (joined_lists ls) ≡ edge_count L
  total = ap (λ (x : List (List ℕ)). length (joined_lists x)) finals ∙ sym (edges_are L)

  -- the test is passed
  readable : graph_readable handlers stmts args falls links n lines lists scratch returns targets ≡ true
  readable =
      let e = q.edges in
      let p = e.tables.prepared in
      read_graph handlers stmts args falls links n lines lists scratch returns targets p.few_lines
      (graph_reads e.tables e.held.skips (omega (arith, e.rows, e.held.skips.stored.rows.size)) (omega (arith, q.targets_are, few_through L, p.nodes_are, p.few)))

  fitting : edges_fit (length (joined_lists ls)) (length succ) (length pred) ≡ true
  fitting =
      let e = q.edges in
      fit_edges (length (joined_lists ls)) (length succ) (length pred) (record { few = omega (arith, total, e.few_edges); in_succ = omega (arith, total, e.succ_fits); in_pred = omega (arith, total, e.pred_fits) })

  module _ {counts' args' lists' succ' pred' : List ℕ} {r : Result ℕ Refusal} (f : GraphAnswered handlers stmts args falls links n lines counts lists scratch returns targets succ pred counts' args' lists' succ' pred' r) where
    -- so the answer is the count of edges
    written : told r ≡ reply.answer (length (joined_lists ls))
    unfolding stored_of
    written = f.answer ∙ rw (readable, fitting)

    tables : GraphStored stmts args n lines counts lists targets succ pred ls counts' args' lists' succ' pred'
    tables = go r written f.tables
      where
        go : (r : Result ℕ Refusal) → told r ≡ reply.answer (length (joined_lists ls)) → TablesAnswered r stmts args n lines counts lists targets succ pred ls counts' args' lists' succ' pred'
            → GraphStored stmts args n lines counts lists targets succ pred ls counts' args' lists' succ' pred'
        go (Ok edges) e t = t
        go (Err refusal) e t = absurd (let z : ◌≡◌ {A = ℕ} 0 1 = cc in omega arith)

    -- each predecessor stands once
    once : sources_of ls ≡ preds_of (all_successors L)
    once = ap sources_of finals ∙ sources_are (successor_lists L).distinct

    rows-zero : drop (n * 4) lists ≡ replicate (length (drop (n * 4) lists)) 0
    rows-zero =
        let k = q.edges.held in
        let m : drop (n * 4) lists ≡ drop (n * 4) k.skips.lists₀ = rw (length_lists (skip_steps (wire L)) n) at (columns_past k.skips.stored.rows) in
        rw m (zeros_drop (n * 4) k.skips.lists₀ k.zero-rows)

    -- and what is written is the graph
    pub graph_written : WiredGraph L ks counts' args' lists' returns succ' pred'
    graph_written =
        let w = tables in
        let e = q.edges in
        let S = all_successors L in
        let P = preds_of S in
        let j = length (joined_lists ls) in
        record {
          counts_are = counts-written L counts counts' j targets lines q.counts_are total q.targets_are (e.tables.prepared.lines_are ∙ sym (rows_are L)) w.counts_are;
          args_are = args_back e.tables w.cleared;
          lists_are = zeros_behind (list_rows S P n) (drop (n * 4) lists) lists' rows-zero (w.lists_are ∙ (rw (once, finals) refl))
              ∙ ap (λ (m : ℕ). padded (length lists') (list_rows S P m)) nodes_are ∙ sym (list-table L (length lists'));
          returns_are = q.returns_are ∙ sym (return_table_lem L (length returns));
          succ_are = zeros_behind (joined_lists S) (drop j succ) succ' (zeros_drop j succ e.zero_succ) (w.succ_are ∙ ap (λ (x : List (List ℕ)). joined_lists x ++ drop j succ) finals) ∙ sym (succ_table_lem L (length succ'));
          pred_are = zeros_behind (joined_lists P) (drop j pred) pred' (zeros_drop j pred e.zero_pred) (w.pred_are ∙ ap (λ (x : List (List ℕ)). joined_lists x ++ drop j pred) once) ∙ sym (pred_table_lem L (length pred'));
        }
