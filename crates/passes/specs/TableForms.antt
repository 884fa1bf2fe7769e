-- What the lent tables hold for a listing, every entry of every table, whoever wrote them. Assumes nothing.
-- Nothing outside opens these definitions: the laws at the end say what each is.
use Rattle.std.specs.Prelude.{ℕ, ◌/◌, min, ◌≡◌, List, [], ◌∷◌, length, replicate}
use Rattle.std.proofs.Math.Path.{refl}
use Rattle.listings.specs.Listing.{Listing, total, count}
use Rattle.listings.specs.Records.{line_recs, line_numbers, rec_rows, arg_rows, handler_number, padded}
use Rattle.graph.specs.Graph.{wire, all_successors, return_targets}
use Rattle.graph_laws.specs.GraphLaws.{node_count}
use Rattle.graph.specs.Build.{Capacity, edge_count}
use Rattle.passes.specs.LineEntries.{entry_rows}
use Rattle.passes.specs.Falls.{fall_rows}
use Rattle.passes.specs.EdgeTable.{joined_lists, list_rows}
use Rattle.passes.specs.Predecessors.{preds_of}
use Rattle.passes.specs.LinkRows.{link_rows}
use Rattle.passes.specs.Room.{stmt_room}

-- ---- each table of k entries, for a listing; zeros past the used part

-- lines, statements, handlers, edges, return targets, entry rows
pub count_table : Listing → ℕ → List ℕ
count_table L k = padded k (count L.lines ∷ total L.lines ∷ handler_number L.handlers ∷ edge_count L ∷ length (return_targets (wire L)) ∷ length (wire L).entries.rows ∷ [])

-- the reader's records
pub line_table : Listing → ℕ → List ℕ
line_table L k = padded k (line_numbers L.lines)

pub stmt_table : Listing → ℕ → List ℕ
stmt_table L k = padded k (rec_rows (line_recs L.lines))

pub arg_table : Listing → ℕ → List ℕ
arg_table L k = padded k (arg_rows (line_recs L.lines))

-- the line entries: numbers and nodes
pub entry_table : Listing → ℕ → List ℕ
entry_table L k = padded k (entry_rows L.lines)

-- where each statement falls, and where its branches lead
pub fall_table : Listing → ℕ → List ℕ
fall_table L k = padded k (fall_rows (wire L).entries (wire L).nodes)

-- where each argument leads
pub links_table : Listing → ℕ → List ℕ
links_table L k = padded k (link_rows (wire L))

-- where each statement's successors and predecessors stand
pub list_table : Listing → ℕ → List ℕ
list_table L k = padded k (list_rows (all_successors L) (preds_of (all_successors L)) (node_count L))

pub return_table : Listing → ℕ → List ℕ
return_table L k = padded k (return_targets (wire L))

pub succ_table : Listing → ℕ → List ℕ
succ_table L k = padded k (joined_lists (all_successors L))

pub pred_table : Listing → ℕ → List ℕ
pred_table L k = padded k (joined_lists (preds_of (all_successors L)))

-- ---- how much they can hold

-- how many entries each lent table has
pub record Sizes : Type 0 where
  pub lines : ℕ
  pub stmts : ℕ
  pub args : ℕ
  pub entries : ℕ
  pub falls : ℕ
  pub links : ℕ
  pub lists : ℕ
  pub returns : ℕ
  pub succ : ℕ
  pub pred : ℕ

abbrev pub sizes_of : List ℕ → List ℕ → List ℕ → List ℕ → List ℕ → List ℕ → List ℕ → List ℕ → List ℕ → List ℕ → Sizes
sizes_of l t a e f k i r u p =
    record {
      lines = length l;
      stmts = length t;
      args = length a;
      entries = length e;
      falls = length f;
      links = length k;
      lists = length i;
      returns = length r;
      succ = length u;
      pred = length p;
    }

-- "A table is too short if it cannot hold its fixed number of entries .. for each of these": how many lines, statements
-- and edges all tables can hold
pub capacity : Sizes → Capacity
capacity s =
    record {
      lines = min s.lines (s.entries / 2);
      nodes = stmt_room s.stmts s.args s.falls s.links s.lists s.returns;
      edges = min s.succ s.pred;
    }

-- ---- the tables together

-- the lent tables after the call; docs/DECISIONS.md, "Tables", says what stands in each
pub record Tables : Type 0 where
  pub counts : List ℕ
  pub lines : List ℕ
  pub stmts : List ℕ
  pub args : List ℕ
  pub entries : List ℕ
  pub falls : List ℕ
  pub links : List ℕ
  pub lists : List ℕ
  pub returns : List ℕ
  pub succ : List ℕ
  pub pred : List ℕ

abbrev pub tables_of : List ℕ → List ℕ → List ℕ → List ℕ → List ℕ → List ℕ → List ℕ → List ℕ → List ℕ → List ℕ → List ℕ → Tables
tables_of c l t a e f k i r u p =
    record { counts = c; lines = l; stmts = t; args = a; entries = e; falls = f; links = k; lists = i; returns = r; succ = u; pred = p }

-- "its graph is written": every entry of every table, zeros past the used parts
pub record Written (L : Listing) (s : Sizes) (T : Tables) : Type 0 where
  pub counts : T.counts ≡ count_table L 6
  pub lines : T.lines ≡ line_table L s.lines
  pub stmts : T.stmts ≡ stmt_table L s.stmts
  pub args : T.args ≡ arg_table L s.args
  pub entries : T.entries ≡ entry_table L s.entries
  pub falls : T.falls ≡ fall_table L s.falls
  pub links : T.links ≡ links_table L s.links
  pub lists : T.lists ≡ list_table L s.lists
  pub returns : T.returns ≡ return_table L s.returns
  pub succ : T.succ ≡ succ_table L s.succ
  pub pred : T.pred ≡ pred_table L s.pred

-- "leaves every entry of its tables zero"
pub record AllZero (s : Sizes) (T : Tables) : Type 0 where
  pub counts : T.counts ≡ replicate 6 0
  pub lines : T.lines ≡ replicate s.lines 0
  pub stmts : T.stmts ≡ replicate s.stmts 0
  pub args : T.args ≡ replicate s.args 0
  pub entries : T.entries ≡ replicate s.entries 0
  pub falls : T.falls ≡ replicate s.falls 0
  pub links : T.links ≡ replicate s.links 0
  pub lists : T.lists ≡ replicate s.lists 0
  pub returns : T.returns ≡ replicate s.returns 0
  pub succ : T.succ ≡ replicate s.succ 0
  pub pred : T.pred ≡ replicate s.pred 0

-- ---- what each definition is, as laws

pub capacity_is : (s : Sizes) → capacity s
    ≡ record { lines = min s.lines (s.entries / 2); nodes = stmt_room s.stmts s.args s.falls s.links s.lists s.returns; edges = min s.succ s.pred }
unfolding capacity
capacity_is s = refl

module _ (L : Listing) (k : ℕ) where
  pub count-table : count_table L k ≡ padded k (count L.lines ∷ total L.lines ∷ handler_number L.handlers ∷ edge_count L ∷ length (return_targets (wire L)) ∷ length (wire L).entries.rows ∷ [])
  unfolding count_table
  count-table = refl

  pub line_table_lem : line_table L k ≡ padded k (line_numbers L.lines)
  unfolding line_table
  line_table_lem = refl

  pub stmt_table_lem : stmt_table L k ≡ padded k (rec_rows (line_recs L.lines))
  unfolding stmt_table
  stmt_table_lem = refl

  pub arg_table_lem : arg_table L k ≡ padded k (arg_rows (line_recs L.lines))
  unfolding arg_table
  arg_table_lem = refl

  pub entries-table : entry_table L k ≡ padded k (entry_rows L.lines)
  unfolding entry_table
  entries-table = refl

  pub fall_table_lem : fall_table L k ≡ padded k (fall_rows (wire L).entries (wire L).nodes)
  unfolding fall_table
  fall_table_lem = refl

  pub links_table_lem : links_table L k ≡ padded k (link_rows (wire L))
  unfolding links_table
  links_table_lem = refl

  pub list-table : list_table L k ≡ padded k (list_rows (all_successors L) (preds_of (all_successors L)) (node_count L))
  unfolding list_table
  list-table = refl

  pub return_table_lem : return_table L k ≡ padded k (return_targets (wire L))
  unfolding return_table
  return_table_lem = refl

  pub succ_table_lem : succ_table L k ≡ padded k (joined_lists (all_successors L))
  unfolding succ_table
  succ_table_lem = refl

  pub pred_table_lem : pred_table L k ≡ padded k (joined_lists (preds_of (all_successors L)))
  unfolding pred_table
  pred_table_lem = refl
