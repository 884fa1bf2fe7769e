-- The lent tables hold the graph of a listing: what the build promises of them. Assumes nothing.
use Rattle.std.specs.Prelude.{ℕ, ◌*◌, ◌≤◌, ◌≡◌, List, length}
use Rattle.listings.specs.Listing.{Listing, total, count}
use Rattle.listings.specs.ListingText.{Within}
use Rattle.listings.specs.Records.{line_numbers, line_recs, rec_rows, padded}
use Rattle.graph.specs.Graph.{wire, all_successors, return_targets}
use Rattle.passes.specs.LineEntries.{entry_rows}
use Rattle.passes.specs.Falls.{fall_rows}
use Rattle.passes.specs.EdgeTable.{joined_lists, list_rows}
use Rattle.passes.specs.Predecessors.{preds_of}

-- the tables hold the graph of L, which has so many entry rows, nodes and return targets; 0 stands past the used parts
pub record GraphHeld (L : Listing) (lines stmts entries falls lists returns succ pred : List ℕ) (rows n targets : ℕ) : Type 0 where
  pub within : Within L
  pub rows_are : rows ≡ length (wire L).entries.rows
  pub nodes_are : n ≡ total L.lines
  pub targets_are : targets ≡ length (return_targets (wire L))
  pub lines_are : lines ≡ padded (length lines) (line_numbers L.lines)
  pub stmts_are : stmts ≡ padded (length stmts) (rec_rows (line_recs L.lines))
  pub entries_are : entries ≡ padded (length entries) (entry_rows L.lines)
  pub falls_are : falls ≡ padded (length falls) (fall_rows (wire L).entries (wire L).nodes)
  pub lists_are : lists ≡ padded (length lists) (list_rows (all_successors L) (preds_of (all_successors L)) n)
  pub returns_are : returns ≡ padded (length returns) (return_targets (wire L))
  pub succ_are : succ ≡ padded (length succ) (joined_lists (all_successors L))
  pub pred_are : pred ≡ padded (length pred) (joined_lists (preds_of (all_successors L)))
  pub lines_fit : count L.lines ≤ length lines
  pub stmts_fit : n * 12 ≤ length stmts
  pub entries_fit : rows * 2 ≤ length entries
  pub falls_fit : n * 3 ≤ length falls
  pub lists_fit : n * 4 ≤ length lists
  pub returns_fit : targets ≤ length returns
  pub succ_fit : length (joined_lists (all_successors L)) ≤ length succ
  pub pred_fit : length (joined_lists (preds_of (all_successors L))) ≤ length pred
  pub few_edges : length (joined_lists (all_successors L)) ≤ 32768
