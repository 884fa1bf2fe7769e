-- What is printed off tables that hold the graph of a listing is the definition's text. Assumes nothing.
use Rattle.std.specs.Prelude.{ℕ, zero, suc, ◌+◌, ◌*◌, ◌<◌, ◌≡◌, refl, Bool, true, false, List, [], ◌∷◌, ◌++◌, length, get_or, take}
use Rattle.std.proofs.Common.{sym, ap, ◌∙◌, append_assoc, arith}
use Rattle.std.proofs.Math.Option.{some}
use Rattle.std.proofs.Math.ListN.{get_elem?}
use Rattle.listings.specs.Bytes.{pick, bytes}
use Rattle.listings.specs.Listing.{Listing}
use Rattle.graph.specs.Lists.{each, list, below}
use Rattle.graph_laws.specs.Adding.{node_number, decode_number}
use Rattle.graph.specs.Nodes.{Node, LineEntry}
use Rattle.graph.specs.NodeWords.{stmt_number}
use Rattle.graph.specs.Graph.{Wired, wire, all_successors, predecessors_in, return_targets}
use Rattle.graph.specs.Print.{spaced, joined, node_row, node_rows, entry_row, back_row, printed}
use Rattle.tables.specs.Columns.{call_word, word_of}
use Rattle.passes.specs.OpenerLaws.{in_range}
use Rattle.passes.specs.EntryColumn.{table_row}
use Rattle.wiring.specs.WrittenLaws.{held_table}
use Rattle.passes.specs.TableReads.{fall_of_lem}
use Rattle.formatting.specs.Printing.{each_snoc}
use Rattle.formatting.specs.Pages.{Wrote, wrote_both, pair_text}
use Rattle.formatting.specs.declared.page.Page.{Page}
use Rattle.printing.specs.PrintedTables.{head_text, holder_text, lists_text, node_text, some_text, entry_text, back_text, returns_text}
use Rattle.passes.specs.GraphHeld.{GraphHeld}
use Rattle.passes.specs.ReturnTargets.{each_below}
use Rattle.passes.specs.GraphReads.{node_count_lem, some_node, reads, succ_part_here, pred_part_here, continuation_is, returns_are}

-- ---- by index, or by element

each_shift : (f : ℕ → List ℕ) (n : ℕ) → each f (below (suc n)) ≡ f 0 ++ each (λ k. f (suc k)) (below n)
unfolding each below
each_shift f zero = refl
each_shift f (suc n) =
    let g : ℕ → List ℕ = λ k. f (suc k) in
    each_snoc f (below (suc n)) (suc n) ∙ ap (λ (l : List ℕ). l ++ f (suc n)) (each_shift f n) ∙ append_assoc (f 0) (each g (below n)) (f (suc n))
    ∙ ap (λ (l : List ℕ). f 0 ++ l) (sym (each_snoc g (below n) n))

each_index : {A : Type 0} (g : A → List ℕ) (f : ℕ → List ℕ) (l : List A) → ((i : ℕ) (a : A) → get_elem? l i ≡ some a → f i ≡ g a) → each f (below (length l)) ≡ each g l
unfolding each below
each_index g f [] h = refl
each_index g f (a ∷ l) h = each_shift f (length l) ∙ ap (λ (k : List ℕ). k ++ each (λ k. f (suc k)) (below (length l))) (h 0 a refl) ∙ ap (λ (k : List ℕ). g a ++ k) (each_index g (λ k. f (suc k)) l (λ i b e. h (suc i) b e))

rows_index : (ls : List (List ℕ)) (i : ℕ) (f : ℕ → List ℕ) (ns : List Node) → ((k : ℕ) (n : Node) → get_elem? ns k ≡ some n → f k ≡ node_row (i + k) n (get_or ls (i + k) []) (predecessors_in (i + k) 0 ls))
    → each f (below (length ns)) ≡ node_rows ls i ns
unfolding each below node_rows
rows_index ls i f [] h = refl
rows_index ls i f (n ∷ ns) h =
    let z : i + 0 ≡ i = omega arith in
    let e : f 0 ≡ node_row i n (get_or ls i []) (predecessors_in i 0 ls) = rw z at (h 0 n refl) in
    each_shift f (length ns) ∙ ap (λ (k : List ℕ). k ++ each (λ k. f (suc k)) (below (length ns))) e
    ∙ ap (λ (k : List ℕ). node_row i n (get_or ls i []) (predecessors_in i 0 ls) ++ k)
    (rows_index ls (suc i) (λ k. f (suc k)) ns (λ k m q. let y : i + suc k ≡ suc i + k = omega arith in rw y at (h (suc k) m q)))

-- ---- a node's row

row_is : (i : ℕ) (d : Node) (ss ps : List ℕ) → head_text i d.number d.line ++ joined d.path ++ holder_text (node_number d.holder) ++ lists_text ss ps ≡ node_row i d ss ps
unfolding head_text holder_text lists_text node_row
row_is i d ss ps = rw (decode_number d.holder) (simp append_assoc)

-- ---- line entries

entry_is : (entries : List ℕ) (k : ℕ) (d : LineEntry) → get_or entries (k * 2 + 0) 0 ≡ d.0 → get_or entries (k * 2 + 1) 0 ≡ node_number d.1 → entry_text entries k ≡ entry_row d
unfolding entry_text some_text pair_text entry_row
entry_is entries k d e f = rw (e, f, decode_number d.1)

-- ---- continuations

each_picked : (f : ℕ → List ℕ) (x : Bool) (l : List ℕ) → each f (pick x l []) ≡ pick x (each f l) []
unfolding each
each_picked f true l = refl
each_picked f false l = refl

back_is : (W : Wired) (stmts falls : List ℕ) (i : ℕ) (d : Node) → get_elem? W.nodes i ≡ some d → get_or stmts (i * 12) 0 ≡ stmt_number d.stmt → get_or falls (i * 3) 0 ≡ node_number d.fall
    → back_text stmts falls i ≡ back_row W i
unfolding back_text back_row some_text pair_text word_of
back_is W stmts falls i d e f g =
    rw (f, g, decode_number d.fall, continuation_is W i d e)
    (sym (each_picked (λ (k : ℕ). bytes "(back" ++ spaced (i ∷ k ∷ []) ++ bytes ")\n") (call_word (stmt_number d.stmt)) (list d.fall)))

-- ---- the whole

-- the rows of k nodes, line entries, return targets and continuations
unfoldable pub graph_text : ℕ → (ns es rs bs : List ℕ) → List ℕ
graph_text k ns es rs bs = bytes "(graph" ++ spaced (0 ∷ k ∷ []) ++ bytes "\n" ++ ns ++ es ++ returns_text rs ++ bs ++ bytes ")\n"

printed_is : (L : Listing) → graph_text (length (wire L).nodes) (node_rows (all_successors L) 0 (wire L).nodes) (each entry_row (wire L).entries.rows) (return_targets (wire L)) (each (back_row (wire L)) (below (length (wire L).nodes))) ≡ printed L
unfolding graph_text returns_text printed
printed_is L = simp append_assoc

module _ {L : Listing} {lines stmts entries falls lists returns succ pred : List ℕ} {rows n targets : ℕ} (g : GraphHeld L lines stmts entries falls lists returns succ pred rows n targets) where
  node_is : (i : ℕ) (d : Node) → get_elem? (wire L).nodes i ≡ some d → node_text lines stmts lists succ pred i ≡ node_row i d (get_or (all_successors L) i []) (predecessors_in i 0 (all_successors L))
  unfolding node_text
  node_is i d e =
      let r = reads g i d e in
      let h : i < n = omega (arith, in_range (wire L).nodes i d e, node_count_lem g) in
      rw (r.line_is, r.number_is, r.path_is, r.holder_is, succ_part_here g i h, pred_part_here g i h) (row_is i d (get_or (all_successors L) i []) (predecessors_in i 0 (all_successors L)))

  nodes_text : each (node_text lines stmts lists succ pred) (below n) ≡ node_rows (all_successors L) 0 (wire L).nodes
  nodes_text =
      ap (λ (k : ℕ). each (node_text lines stmts lists succ pred) (below k)) (sym (node_count_lem g))
      ∙ rows_index (all_successors L) 0 (node_text lines stmts lists succ pred) (wire L).nodes (λ k d e. let z : 0 + k ≡ k = omega arith in rw z (node_is k d e))

  entries_text : each (entry_text entries) (below rows) ≡ each entry_row (wire L).entries.rows
  entries_text =
      let t = held_table g in
      ap (λ (k : ℕ). each (entry_text entries) (below k)) t.counted
      ∙ each_index entry_row (entry_text entries) (wire L).entries.rows (λ k d e.
      let q = table_row t k d e in
      entry_is entries k d q.0 q.1)

  backs_text : each (back_text stmts falls) (below n) ≡ each (back_row (wire L)) (below n)
  backs_text =
      each_below (back_text stmts falls) (back_row (wire L)) n
      (λ i h. let d = some_node g i h in back_is (wire L) stmts falls i d.0 d.1 (reads g i d.0 d.1).word_is (fall_of_lem (wire L).entries (wire L).nodes (length falls) falls g.falls_are i d.0 d.1))

  pub graph_text_lem : graph_text n (each (node_text lines stmts lists succ pred) (below n)) (each (entry_text entries) (below rows)) (take targets returns) (each (back_text stmts falls) (below n)) ≡ printed L
  graph_text_lem = rw (nodes_text, entries_text, returns_are g, backs_text, ← node_count_lem g) (printed_is L)

pub wrote_graph : {p q s t u v w x : Page} {ns es bs : List ℕ} (k : ℕ) (rs : List ℕ) → Wrote p q (bytes "(graph" ++ spaced (0 ∷ k ∷ [])) → Wrote q s (bytes "\n") → Wrote s t ns → Wrote t u es
    → Wrote u v (returns_text rs) → Wrote v w bs → Wrote w x (bytes ")\n") → Wrote p x (graph_text k ns es rs bs)
unfolding graph_text
wrote_graph k rs h i j l m n o = wrote_both (wrote_both (wrote_both (wrote_both (wrote_both (wrote_both h i) j) l) m) n) o
