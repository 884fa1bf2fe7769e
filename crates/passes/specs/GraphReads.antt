-- What tables that hold the graph of a listing say of its nodes. Assumes nothing.
use Rattle.std.specs.Prelude.{ℕ, ◌+◌, ◌*◌, ◌≤◌, ◌<◌, ◌≡◌, refl, Bool, false, List, [], ◌++◌, get_or, take, drop, replicate}
use Rattle.std.proofs.Math.Path.{sym, ap}
use Rattle.std.proofs.Common.{◌∙◌, arith, length-append}
use Rattle.std.proofs.Math.Option.{Option, none, some}
use Rattle.std.proofs.Math.ListN.{length, get_elem?, length-replicate}
use Rattle.std.proofs.Math.Seq.{take_at}
use Rattle.listings.specs.Bytes.{pick, bytes, same}
use Rattle.listings.specs.Rows.{opening_words}
use Rattle.listings.specs.Listing.{goto, gosub, runto, ongoto, ongosub, BlockWord, BareWord, return, run, clr, stop, any, jump, on, for, next, block, bare, if, ifelse, rcomp, Listing}
use Rattle.listings.specs.ListingText.{simple_word, cond_word}
use Rattle.listings.specs.WordTable.{words, first, word_index}
use Rattle.listing_laws.specs.WordKinds.{block_never}
use Rattle.listings.specs.Records.{padded}
use Rattle.reader.specs.Tables.{drop_zeros}
use Rattle.graph.specs.Lists.{list}
use Rattle.graph.specs.Nodes.{NodeStmt, simple, cond, Node, nodes}
use Rattle.graph_laws.specs.NodeLaws.{length-nodes}
use Rattle.graph.specs.NodeWords.{stmt_word, stmt_number}
use Rattle.graph.specs.Graph.{Wired, wire, simple_role, stmt_role, role, role_of, fall_from, fall_of, continuation_by, continuation, all_successors, predecessors_in, return_targets}
use Rattle.tables.specs.Columns.{call_word, NodesReadable, succ_start, succ_count, pred_start, pred_count, succ_part, pred_part}
use Rattle.passes.specs.LineEntries.{at_place}
use Rattle.passes.specs.EdgeTable.{joined_lists, start_of, part_in, part_within, list_rows, length-rows, Columns, rows_columns}
use Rattle.passes.specs.Predecessors.{preds_of, preds_at, length_preds, successor_lists}
use Rattle.passes.specs.Paths.{NodeRead, node_read}
use Rattle.passes.specs.GraphHeld.{GraphHeld}

-- the part that a node's row names, of a table that holds lists one after the other
module _ (ls : List (List ℕ)) (table rest : List ℕ) (e : table ≡ joined_lists ls ++ rest) (i start count : ℕ) (h : i < length ls) (es : start ≡ start_of ls i) (ec : count ≡ length (get_or ls i [])) where
  part_of : take count (drop start table) ≡ get_or ls i []
  part_of = rw (e, es, ec) (part_in ls rest i h)

  part_fits : start + count ≤ length table
  part_fits = omega (arith, part_within ls i h, ap length e, length-append (joined_lists ls) rest)

-- ---- continuations

-- a word of a loop or a DO is no call
block_call : (w : BlockWord) → call_word (stmt_number (simple (block w))) ≡ false
unfolding call_word stmt_number stmt_word simple_word
block_call w = block_never call_word refl w

-- "here only GOSUB and ON GOSUB are calls": by the number of the word
call_of : (s : NodeStmt) (e : Option ℕ) → continuation_by (stmt_role s) e ≡ pick (call_word (stmt_number s)) (list e) []
unfolding continuation_by stmt_role simple_role call_word stmt_number stmt_word simple_word cond_word word_index words first same bytes opening_words
call_of (simple (jump goto t)) e = refl
call_of (simple (jump gosub t)) e = refl
call_of (simple (jump runto t)) e = refl
call_of (simple (on ongoto ts)) e = refl
call_of (simple (on ongosub ts)) e = refl
call_of (simple (for v t)) e = refl
call_of (simple (next m ss)) e = refl
call_of (simple (block w)) e = sym (ap (λ (x : Bool). pick x (list e) []) (block_call w))
call_of (simple (bare return)) e = refl
call_of (simple (bare run)) e = refl
call_of (simple (bare clr)) e = refl
call_of (simple (bare stop)) e = refl
call_of (simple (bare any)) e = refl
call_of (simple (bare BareWord.plain)) e = refl
call_of (cond if a b) e = refl
call_of (cond ifelse a b) e = refl
call_of (cond rcomp a b) e = refl

pub continuation_is : (W : Wired) (i : ℕ) (d : Node) → get_elem? W.nodes i ≡ some d → continuation W i ≡ pick (call_word (stmt_number d.stmt)) (list d.fall) []
unfolding continuation role role_of fall_from fall_of
continuation_is W i d e = rw e (call_of d.stmt d.fall)

-- ---- a graph that the tables hold

module _ {L : Listing} {lines stmts entries falls lists returns succ pred : List ℕ} {rows n targets : ℕ} (g : GraphHeld L lines stmts entries falls lists returns succ pred rows n targets) where
  pub node_count_lem : length (wire L).nodes ≡ n
  unfolding wire nodes
  node_count_lem = length-nodes none L.lines ∙ sym g.nodes_are

  pub some_node : (i : ℕ) → i < n → (d : Node) × (get_elem? (wire L).nodes i ≡ some d)
  some_node i h = let p = at_place (wire L).nodes i (omega (arith, node_count_lem)) in (p.0, p.1)

  pub reads : (i : ℕ) (d : Node) → get_elem? (wire L).nodes i ≡ some d → NodeRead L.lines lines stmts i d
  unfolding wire nodes padded
  reads i d e = node_read L.lines g.within.lines lines stmts _ _ g.lines_are g.stmts_are i d e

  list_count : length (all_successors L) ≡ n
  list_count = (successor_lists L).size ∙ node_count_lem

  columns : Columns n (start_of (all_successors L)) (λ i. length (get_or (all_successors L) i [])) (start_of (preds_of (all_successors L))) (λ i. length (get_or (preds_of (all_successors L)) i [])) (replicate (length lists) 0) lists
  unfolding list_rows padded
  columns =
      let ls = all_successors L in
      let ps = preds_of (all_successors L) in
      let k = length-rows (start_of ls) (λ i. length (get_or ls i [])) (start_of ps) (λ i. length (get_or ps i [])) n in
      let e = g.lists_are in
      rows_columns (start_of ls) (λ i. length (get_or ls i [])) (start_of ps) (λ i. length (get_or ps i [])) n (replicate (length lists) 0) lists (rw length-replicate g.lists_fit)
      (rw (drop_zeros (length lists) (n * 4)) (rw k at e))

  module _ (i : ℕ) (h : i < n) where
    pub succ_part_here : succ_part lists succ i ≡ get_or (all_successors L) i []
    unfolding padded
    succ_part_here = part_of (all_successors L) succ _ g.succ_are i (succ_start lists i) (succ_count lists i) (omega (arith, list_count)) (columns.col0 i h) (columns.col1 i h)

    succ_within : succ_start lists i + succ_count lists i ≤ length succ
    unfolding padded
    succ_within = part_fits (all_successors L) succ _ g.succ_are i (succ_start lists i) (succ_count lists i) (omega (arith, list_count)) (columns.col0 i h) (columns.col1 i h)

    pub pred_part_here : pred_part lists pred i ≡ predecessors_in i 0 (all_successors L)
    unfolding padded
    pred_part_here =
        part_of (preds_of (all_successors L)) pred _ g.pred_are i (pred_start lists i) (pred_count lists i) (omega (arith, list_count, length_preds (all_successors L))) (columns.col2 i h) (columns.col3 i h)
        ∙ preds_at (all_successors L) i (omega (arith, list_count))

    pred_within : pred_start lists i + pred_count lists i ≤ length pred
    unfolding padded
    pred_within =
        part_fits (preds_of (all_successors L)) pred _ g.pred_are i (pred_start lists i) (pred_count lists i) (omega (arith, list_count, length_preds (all_successors L))) (columns.col2 i h) (columns.col3 i h)

  pub nodes_readable : NodesReadable lines stmts lists succ pred n
  nodes_readable =
      record {
        holders = record { rows = g.stmts_fit; held = λ i h. let d = some_node i h in omega (arith, (reads i d.0 d.1).held) };
        numbered = λ i h. let d = some_node i h in let r = reads i d.0 d.1 in omega (arith, r.line_is, r.line_in, g.lines_fit);
        rows = g.lists_fit;
        succ_in = succ_within;
        pred_in = pred_within;
      }

  pub returns_are : take targets returns ≡ return_targets (wire L)
  unfolding padded
  returns_are = ap (take targets) g.returns_are ∙ take_at (return_targets (wire L)) _ targets (sym g.targets_are)
