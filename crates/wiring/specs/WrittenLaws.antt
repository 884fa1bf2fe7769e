-- What the tables hold that a build wrote, as laws for the crates above. Assumes nothing.
use Rattle.std.specs.Prelude.{ℕ, ◌≤◌, ◌<◌, ◌≡◌, refl, List, [], ◌∷◌, ◌++◌, length, get_or}
use Rattle.std.proofs.Common.{sym, ap, ◌∙◌, arith}
use Rattle.std.proofs.Math.Option.{Option, none, some}
use Rattle.std.proofs.Math.ListN.{get_elem?}
use Rattle.listings.specs.Listing.{Listing, total, count}
use Rattle.listings.specs.ListingText.{Within}
use Rattle.listings.specs.Records.{padded, line_recs, arg_row, handler_number}
use Rattle.listing_laws.specs.ReadingRecords.{numbers-count, lines_length}
use Rattle.listing_laws.specs.RecordLaws.{recs_length}
use Rattle.reader.specs.Tables.{padded-length, joined_length}
use Rattle.reader.specs.ReadBack.{lines_wide}
use Rattle.graph_laws.specs.Adding.{node_number, decode_number}
use Rattle.graph.specs.Nodes.{Node, LineEntry, Entries, nodes}
use Rattle.graph_laws.specs.NodeLaws.{length-nodes}
use Rattle.graph.specs.Graph.{wire, continuation, all_successors, return_targets, successors, predecessors}
use Rattle.graph_laws.specs.GraphLaws.{node_count}
use Rattle.graph.specs.Build.{edge_count}
use Rattle.passes.specs.EdgeTable.{start_of, length-rows, list_rows, lists_at}
use Rattle.passes.specs.Predecessors.{preds_of, preds_total, successor_lists, all_lists}
use Rattle.passes.specs.LineEntries.{entry_pairs, rows-length as entry_rows-length}
use Rattle.passes.specs.LineSearch.{EntryTable, entry_table}
use Rattle.passes.specs.FallLaws.{rows-length}
use Rattle.passes.specs.TableReads.{fall_of_lem}
use Rattle.tables.specs.Columns.{fall_entry, continuation_entry, word_of, succ_part, pred_part, entry_node}
use Rattle.tables.specs.EntryRows.{entries_in}
use Rattle.passes.specs.TableForms.{Sizes, Tables, Written, count-table, line_table_lem, stmt_table_lem, arg_table_lem, entries-table, fall_table_lem, list-table, return_table_lem, succ_table_lem, pred_table_lem}
use Rattle.wiring.specs.Refusals.{LongEnough}
use Rattle.passes.specs.GraphHeld.{GraphHeld}
use Rattle.passes.specs.HoldsListing.{HoldsListing}
use Rattle.passes.specs.GraphReads.{node_count_lem, reads, succ_part_here, pred_part_here, continuation_is}
use Rattle.wiring.specs.WriteGraph.{edges_are, rows_are}
use Rattle.wiring.specs.FinalGraph.{few_through}

-- ---- the tables hold the graph

again : (k : ℕ) (l t : List ℕ) → length l ≤ k → t ≡ padded k l → (length t ≡ k) × (t ≡ padded (length t) l)
again k l t h e = let q : length t ≡ k = ap length e ∙ padded-length k l h in (q, e ∙ ap (λ (x : ℕ). padded x l) (sym q))

pub nodes-total : (L : Listing) → node_count L ≡ total L.lines
unfolding wire nodes
nodes-total L = length-nodes none L.lines

-- the tables that a printed graph is read from, after an accepted build
pub graph_held : (L : Listing) (s : Sizes) (T : Tables) → Within L → LongEnough s L → Written L s T
    → GraphHeld L T.lines T.stmts T.entries T.falls T.lists T.returns T.succ T.pred (length (wire L).entries.rows) (total L.lines) (length (return_targets (wire L)))
unfolding list_rows
graph_held L s T ok g w =
    let hl = g.lines in
    let hn = g.nodes in
    let he = g.edges in
    let n = nodes-total L in
    let ls = all_successors L in
    let ps = preds_of ls in
    let b = edges_are L in
    let xl = again s.lines _ T.lines (omega (arith, numbers-count L.lines, hl.0)) (w.lines ∙ line_table_lem L s.lines) in
    let xt = again s.stmts _ T.stmts (omega (arith, recs_length (line_recs L.lines), lines_length L.lines, hn.in_stmts)) (w.stmts ∙ stmt_table_lem L s.stmts) in
    let xe = again s.entries _ T.entries (omega (arith, entry_rows-length L.lines, hl.1)) (w.entries ∙ entries-table L s.entries) in
    let xf = again s.falls _ T.falls (omega (arith, rows-length (wire L).entries (wire L).nodes, n, hn.in_falls)) (w.falls ∙ fall_table_lem L s.falls) in
    let xi = again s.lists _ T.lists (omega (arith, length-rows (start_of ls) (λ j. length (get_or ls j [])) (start_of ps) (λ j. length (get_or ps j [])) (node_count L), n, hn.in_lists)) (w.lists ∙ list-table L s.lists) in
    let xr = again s.returns _ T.returns (omega (arith, few_through L, n, hn.in_returns)) (w.returns ∙ return_table_lem L s.returns) in
    let xu = again s.succ _ T.succ (omega (arith, b, he.0)) (w.succ ∙ succ_table_lem L s.succ) in
    let xp = again s.pred _ T.pred (omega (arith, preds_total (successor_lists L), b, he.1)) (w.pred ∙ pred_table_lem L s.pred) in
    record {
      within = ok;
      rows_are = refl;
      nodes_are = refl;
      targets_are = refl;
      lines_are = xl.1;
      stmts_are = xt.1;
      entries_are = xe.1;
      falls_are = xf.1;
      lists_are = xi.1 ∙ ap (λ (q : ℕ). padded (length T.lists) (list_rows ls ps q)) n;
      returns_are = xr.1;
      succ_are = xu.1;
      pred_are = xp.1;
      lines_fit = omega (arith, xl.0, hl.0);
      stmts_fit = omega (arith, xt.0, hn.in_stmts);
      entries_fit = omega (arith, xe.0, hl.1, rows_are L);
      falls_fit = omega (arith, xf.0, hn.in_falls);
      lists_fit = omega (arith, xi.0, hn.in_lists);
      returns_fit = omega (arith, xr.0, few_through L, n, hn.in_returns);
      succ_fit = omega (arith, xu.0, b, he.0);
      pred_fit = omega (arith, xp.0, preds_total (successor_lists L), b, he.1);
      few_edges = omega (arith, b, he.2);
    }

-- and the reader's records
pub listing_held : (L : Listing) (s : Sizes) (T : Tables) → Within L → LongEnough s L → Written L s T → HoldsListing L T.lines T.stmts T.args (count L.lines) (total L.lines)
listing_held L s T ok g w =
    let h = graph_held L s T ok g w in
    let x = again s.args _ T.args (omega (arith, joined_length arg_row 64 (lines_wide L.lines ok.lines), lines_length L.lines, g.nodes.in_args)) (w.args ∙ arg_table_lem L s.args) in
    record {
      within = ok;
      count_is = refl;
      nodes_are = refl;
      lines_are = h.lines_are;
      stmts_are = h.stmts_are;
      args_are = x.1;
      lines_fit = h.lines_fit;
      stmts_fit = h.stmts_fit;
      args_fit = omega (arith, x.0, g.nodes.in_args);
    }

-- the used counts
pub record CountsHeld (L : Listing) (counts : List ℕ) : Type 0 where
  pub lines : get_or counts 0 0 ≡ count L.lines
  pub stmts : get_or counts 1 0 ≡ total L.lines
  pub handlers : get_or counts 2 0 ≡ handler_number L.handlers
  pub edges : get_or counts 3 0 ≡ edge_count L
  pub targets : get_or counts 4 0 ≡ length (return_targets (wire L))
  pub rows : get_or counts 5 0 ≡ length (wire L).entries.rows

pub counts_held : (L : Listing) (s : Sizes) (T : Tables) → Written L s T → CountsHeld L T.counts
unfolding padded
counts_held L s T w =
    let c = w.counts ∙ count-table L 6 in
    record {
      lines = ap (λ (t : List ℕ). get_or t 0 0) c;
      stmts = ap (λ (t : List ℕ). get_or t 1 0) c;
      handlers = ap (λ (t : List ℕ). get_or t 2 0) c;
      edges = ap (λ (t : List ℕ). get_or t 3 0) c;
      targets = ap (λ (t : List ℕ). get_or t 4 0) c;
      rows = ap (λ (t : List ℕ). get_or t 5 0) c;
    }

-- ---- line entries, continuations

entries-listed : (es : List LineEntry) (rest : List ℕ) → entries_in (length es) (entry_pairs es ++ rest) ≡ es
unfolding entries_in entry_pairs
entries-listed [] rest = refl
entries-listed (d ∷ es) rest = rw (entries-listed es rest, back d.1)
  where
    back : (o : Option ℕ) → entry_node (node_number o) ≡ o
    back none = refl
    back (some a) = refl

entries-read : {es : Entries} {table : List ℕ} {k : ℕ} → EntryTable es table k → entries_in k table ≡ es.rows
entries-read {es} {table} {k} t =
    ap (λ (j : ℕ). entries_in j table) t.counted ∙ ap (λ (l : List ℕ). entries_in (length es.rows) l) t.listed ∙ entries-listed es.rows t.rest

module _ {L : Listing} {lines stmts entries falls lists returns succ pred : List ℕ} {rows n targets : ℕ} (g : GraphHeld L lines stmts entries falls lists returns succ pred rows n targets) where
  pub held_table : EntryTable (wire L).entries entries rows
  unfolding wire
  held_table = rw (g.rows_are, rows_are L) (entry_table L.lines (length entries) entries g.within.lines g.entries_are)

  pub held_entries : entries_in rows entries ≡ (wire L).entries.rows
  held_entries = entries-read held_table

  pub held_continuation : (i : ℕ) (d : Node) → get_elem? (wire L).nodes i ≡ some d → continuation_entry stmts falls i ≡ continuation (wire L) i
  unfolding continuation_entry fall_entry word_of
  held_continuation i d e =
      rw ((reads g i d e).word_is, fall_of_lem (wire L).entries (wire L).nodes (length falls) falls g.falls_are i d e, decode_number d.fall) (sym (continuation_is (wire L) i d e))

  module _ (i : ℕ) (h : i < node_count L) where
    pub held_succ : succ_part lists succ i ≡ successors L i
    held_succ = succ_part_here g i (omega (arith, node_count_lem g)) ∙ ap (λ (ls : List (List ℕ)). get_or ls i []) (all_lists L) ∙ lists_at (successors L) (node_count L) i h

    pub held_pred : pred_part lists pred i ≡ predecessors L i
    unfolding predecessors
    held_pred = pred_part_here g i (omega (arith, node_count_lem g))
