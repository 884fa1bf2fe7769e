-- What is printed of a graph's tables, by the graph. Assumes nothing.
use Rattle.std.specs.Prelude.{ℕ, ◌≡◌, List, get_or}
use Rattle.tables.specs.Columns.{NodesReadable, succ_part, pred_part}
use Rattle.tables.specs.declared.graphs.Graph.{Graph}
use Rattle.tables.specs.declared.nodes.Records.{Records}
use Rattle.formatting.specs.declared.page.Page.{Page}
use Rattle.printing.specs.PrintedTables.{SomeGraph, GraphPrinted, GraphWrote, lists_text, node_text}

module _ (g : Graph) where
  -- how many nodes it has
  abbrev pub nodes_from : ℕ
  nodes_from = get_or g.counts.now 1 0

  abbrev pub SomeGraphFrom : Type 0
  SomeGraphFrom = SomeGraph g.lines.now g.stmts.now g.entries.now g.falls.now g.lists.now g.returns.now g.succ.now g.pred.now (get_or g.counts.now 5 0) (get_or g.counts.now 1 0) (get_or g.counts.now 4 0)

  abbrev pub GraphPrintedFrom : (out out' : List ℕ) → ℕ → Type 0
  GraphPrintedFrom out out' n = GraphPrinted g.lines.now g.stmts.now g.entries.now g.falls.now g.lists.now g.returns.now g.succ.now g.pred.now (get_or g.counts.now 5 0) (get_or g.counts.now 1 0) (get_or g.counts.now 4 0) out out' n

  abbrev pub GraphWroteFrom : Page → Page → Type 0
  GraphWroteFrom p q = GraphWrote g.lines.now g.stmts.now g.entries.now g.falls.now g.lists.now g.returns.now g.succ.now g.pred.now (get_or g.counts.now 5 0) (get_or g.counts.now 1 0) (get_or g.counts.now 4 0) p q

  -- the lists of node i
  abbrev pub lists_text_from : ℕ → List ℕ
  lists_text_from i = lists_text (succ_part g.lists.now g.succ.now i) (pred_part g.lists.now g.pred.now i)

-- of its nodes, whose records these are
module _ (g : Graph) (r : Records) where
  abbrev pub NodesReadableFrom : Type 0
  NodesReadableFrom = (r.n ≡ nodes_from g) × NodesReadable g.lines.now r.stmts.now g.lists.now g.succ.now g.pred.now (nodes_from g)

  -- the row of node i
  abbrev pub node_text_from : ℕ → List ℕ
  node_text_from i = node_text g.lines.now r.stmts.now g.lists.now g.succ.now g.pred.now i
