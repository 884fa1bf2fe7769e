-- Of tables that a build wrote for a listing, the questions are answered as the listing's graph has it. From the laws of the tables alone. Assumes nothing.
use Rattle.std.specs.Prelude.{ℕ, ◌+◌, ◌*◌, ◌<◌, ◌≤◌, ◌≡◌, refl, length, get_or, take, drop}
use Rattle.std.proofs.Common.{sym, ◌∙◌, arith, lt-ltb, le-ltb, le-leb}
use Rattle.std.proofs.Math.Path.{ap}
use mathlib.Core.List.{List}
use Rattle.std.proofs.Math.Option.{Option, none, some}
use Rattle.std.proofs.Math.Decide.{dec_lt}
use Rattle.listings.specs.Listing.{Listing, total}
use Rattle.listings.specs.ListingText.{Within}
use Rattle.graph.specs.Nodes.{entry_in, entry_of}
use Rattle.graph_laws.specs.NodeLaws.{Below, entry_fits}
use Rattle.graph.specs.Graph.{wire, successors, predecessors, return_targets}
use Rattle.graph_laws.specs.GraphLaws.{node_count, entry_ids}
use Rattle.tables.specs.Columns.{succ_start, succ_count, pred_start, pred_count, NodesReadable}
use Rattle.tables.specs.EntryRows.{entries_in}
use Rattle.passes.specs.TableForms.{Sizes, Tables, Written}
use Rattle.passes.specs.GraphHeld.{GraphHeld}
use Rattle.passes.specs.GraphReads.{nodes_readable}
use Rattle.wiring.specs.WrittenLaws.{graph_held, counts_held, nodes-total, held_entries, held_succ, held_pred}
use Rattle.wiring.specs.Refusals.{LongEnough}
use Rattle.graph.specs.Questions.{Reply, answer, if_node, ask_successors, ask_predecessors, ask_entry}
use Rattle.adjacency.specs.ListsAt.{list_at, successors_at, predecessors_at, list_reply}
use Rattle.adjacency.specs.ListsAtLaws.{no_node, list_found}
use Rattle.adjacency.specs.EntryAt.{node_in, entry_at}

-- ---- one list, of either table

module _ (L : Listing) (counts lists table : List ℕ) (nodes_are : get_or counts 1 0 ≡ node_count L) (rows : node_count L * 4 ≤ length lists) (i start count : ℕ) (l : List ℕ)
    (inside : i < node_count L → start + count ≤ length table) (part : i < node_count L → take count (drop start table) ≡ l) where
  module _ (h : i < node_count L) where
    found : list_at counts lists (length table) i start count ≡ answer (start, count)
    found = list_found counts lists (length table) i start count (omega arith) (omega arith) (inside h)

    list-answered : list_reply (list_at counts lists (length table) i start count) table ≡ if_node L i (answer l)
    unfolding list_reply if_node wire
    list-answered = rw (lt-ltb i (node_count L) h) (ap (λ (r : Reply (ℕ × ℕ)). list_reply r table) found ∙ ap (λ (k : List ℕ). answer k) (part h))

  list-refused : node_count L ≤ i → list_reply (list_at counts lists (length table) i start count) table ≡ if_node L i (answer l)
  unfolding list_reply if_node wire
  list-refused h = rw (le-ltb i (node_count L) h) (ap (λ (r : Reply (ℕ × ℕ)). list_reply r table) (no_node counts lists (length table) i start count (omega arith)))

  list_is : list_reply (list_at counts lists (length table) i start count) table ≡ if_node L i (answer l)
  list_is = elim (dec_lt i (node_count L)) [ yes h ↦ list-answered h | no n ↦ list-refused (omega arith) ]

-- ---- an entry

node_in_lem : (n : ℕ) (e : Option ℕ) → Below n e → node_in n e ≡ answer e
unfolding node_in
node_in_lem n none b = refl
node_in_lem n (some i) b = rw (lt-ltb i n b) refl

-- ---- all of them

module _ (L : Listing) (s : Sizes) (T : Tables) (ok : Within L) (fits : LongEnough s L) (w : Written L s T) where
  held : GraphHeld L T.lines T.stmts T.entries T.falls T.lists T.returns T.succ T.pred (length (wire L).entries.rows) (total L.lines) (length (return_targets (wire L)))
  held = graph_held L s T ok fits w

  nodes_are : get_or T.counts 1 0 ≡ node_count L
  nodes_are = (counts_held L s T w).stmts ∙ sym (nodes-total L)

  readable : NodesReadable T.lines T.stmts T.lists T.succ T.pred (total L.lines)
  readable = nodes_readable held

  rows : node_count L * 4 ≤ length T.lists
  rows = omega (arith, readable.rows, nodes-total L)

  succ_inside : (i : ℕ) → i < node_count L → succ_start T.lists i + succ_count T.lists i ≤ length T.succ
  succ_inside i h = readable.succ_in i (omega (arith, nodes-total L))

  pred_inside : (i : ℕ) → i < node_count L → pred_start T.lists i + pred_count T.lists i ≤ length T.pred
  pred_inside i h = readable.pred_in i (omega (arith, nodes-total L))

  rows_are : get_or T.counts 5 0 ≡ length (wire L).entries.rows
  rows_are = (counts_held L s T w).rows

  pub entry_is : (number : ℕ) → entry_at T.counts T.entries number ≡ ask_entry L number
  unfolding entry_at ask_entry wire
  entry_is number =
      rw (le-leb (get_or T.counts 5 0 * 2) (length T.entries) (omega (arith, rows_are, held.entries_fit)))
      (ap (λ (n : ℕ). node_in n (entry_in (entries_in (get_or T.counts 5 0) T.entries) number)) nodes_are
      ∙ ap (λ (k : ℕ). node_in (node_count L) (entry_in (entries_in k T.entries) number)) rows_are
      ∙ ap (λ es. node_in (node_count L) (entry_in es number)) (held_entries held)
      ∙ node_in_lem (node_count L) (entry_of (wire L).entries number) (entry_fits (node_count L) (entry_ids L) number))

  pub successors_are : (i : ℕ) → list_reply (successors_at T.counts T.lists (length T.succ) i) T.succ ≡ ask_successors L i
  unfolding successors_at ask_successors
  successors_are i = list_is L T.counts T.lists T.succ nodes_are rows i _ _ (successors L i) (succ_inside i) (held_succ held i)

  pub predecessors_are : (i : ℕ) → list_reply (predecessors_at T.counts T.lists (length T.pred) i) T.pred ≡ ask_predecessors L i
  unfolding predecessors_at ask_predecessors
  predecessors_are i = list_is L T.counts T.lists T.pred nodes_are rows i _ _ (predecessors L i) (pred_inside i) (held_pred held i)
