-- The statements that are answered from the tables that `build` wrote are those of the listing. Assumes nothing.
use Rattle.std.specs.Prelude.{ℕ, zero, suc, ◌+◌, ◌*◌, ◌≤◌, ◌<◌, ◌≡◌, get_or}
use Rattle.std.proofs.Math.Path.{refl, ap}
use Rattle.std.proofs.Common.{sym, ◌∙◌, arith}
use mathlib.Core.List.{List, [], ◌∷◌}
use Rattle.std.proofs.Math.Logic.{inl, inr}
use Rattle.std.proofs.Math.Option.{Option, none, some}
use borrow.Author.Tests.{lt-ltb, le-ltb}
use Rattle.std.proofs.Math.ListN.{length, get_elem?}
use Rattle.listings.specs.Listing.{Listing, total, count}
use Rattle.listings.specs.ListingText.{Within}
use Rattle.listings.specs.Records.{padded}
use Rattle.graph.specs.Nodes.{Node, nodes, nodes_before}
use Rattle.graph_laws.specs.NodeLaws.{length-nodes}
use Rattle.graph.specs.NodeWords.{stmt_number}
use Rattle.graph.specs.Graph.{wire, return_targets}
use Rattle.passes.specs.Compare.{lt-or}
use Rattle.passes.specs.LineEntries.{at_place}
use Rattle.tables.specs.Columns.{word_of}
use Rattle.passes.specs.TableForms.{Sizes, Tables, Written}
use Rattle.wiring.specs.Refusals.{LongEnough}
use Rattle.wiring.specs.WrittenLaws.{graph_held, counts_held}
use Rattle.passes.specs.GraphHeld.{GraphHeld}
use Rattle.passes.specs.GraphReads.{reads}
use Rattle.graph.specs.Questions.{answer, refused, node_from, statement_of, ask_statement, found_or, ask_path}
use Rattle.statements.specs.StatementAt.{if_rows, stmt_at, path_statement, no_statement, unless_refused, node_statement}
use Rattle.questions.specs.Mission.{numbered}
use Rattle.questions.specs.PathAnswers.{Stands, Sought, found, missing, sought, node_at, Recorded, leads_back, stands_there, by_node_at, stated, recorded_by}

-- ---- small laws

none_past : (l : List Node) (i : ℕ) → length l ≤ i → get_elem? l i ≡ none
none_past [] i h = refl
none_past (a ∷ l) zero h = absurd (omega arith)
none_past (a ∷ l) (suc i) h = none_past l i (omega arith)

-- ---- the answers

module _ (L : Listing) (s : Sizes) (T : Tables) (ok : Within L) (g : LongEnough s L) (w : Written L s T) where
  abbrev ns : List Node
  ns = nodes_before none L.lines

  held : GraphHeld L T.lines T.stmts T.entries T.falls T.lists T.returns T.succ T.pred (length (wire L).entries.rows) (total L.lines) (length (return_targets (wire L)))
  held = graph_held L s T ok g w

  word_is : (i : ℕ) (d : Node) → get_elem? ns i ≡ some d → word_of T.stmts i ≡ stmt_number d.stmt
  unfolding wire nodes word_of
  word_is i d e = (reads held i d e).word_is

  count_is : get_or T.counts 1 0 ≡ length ns
  count_is = (counts_held L s T w).stmts ∙ sym (length-nodes none L.lines)

  lines_are : get_or T.counts 0 0 ≡ count L.lines
  lines_are = (counts_held L s T w).lines

  recorded : Recorded (count L.lines) T.stmts ns
  unfolding padded
  recorded = recorded_by L.lines ok.lines T.lines T.stmts _ _ held.lines_are held.stmts_are

  rows : length ns * 12 ≤ length T.stmts
  rows = omega (arith, held.stmts_fit, length-nodes none L.lines)

  stmt_is : (i : ℕ) (d : Node) → get_elem? ns i ≡ some d → stmt_at T.stmts (suc i) ≡ answer (i, stmt_number d.stmt)
  unfolding stmt_at
  stmt_is i d e = ap (λ (w : ℕ). answer (i, w)) (word_is i d e)

  module _ (li : ℕ) (p : List ℕ) where
    by_path_lem : li < count L.lines → path_statement T.counts T.stmts li p ≡ stmt_at T.stmts (node_at T.stmts (length ns) li 0 p)
    unfolding path_statement if_rows
    by_path_lem l = rw (count_is, lines_are, le-ltb (length T.stmts) (length ns * 12) rows, lt-ltb li (count L.lines) l) (by_node_at (count L.lines) T.stmts ns recorded li p)

    no_line : count L.lines ≤ li → path_statement T.counts T.stmts li p ≡ refused 26 0
    unfolding path_statement if_rows
    no_line l = rw (count_is, lines_are, le-ltb (length T.stmts) (length ns * 12) rows, le-ltb li (count L.lines) l) refl

  -- every node's path leads back to it
  pub path_back : (i : ℕ) (d : Node) → get_elem? (nodes_before none L.lines) i ≡ some d → path_statement T.counts T.stmts d.line d.path ≡ answer (i, stmt_number d.stmt)
  path_back i d e = by_path_lem d.line d.path (recorded.below i d e) ∙ ap (stmt_at T.stmts) (leads_back (count L.lines) T.stmts ns recorded i d e) ∙ stmt_is i d e

  -- the statement at a path is that of the listing
  pub path_answer_lem : (li : ℕ) (p : List ℕ) → path_statement T.counts T.stmts li p ≡ numbered (ask_path L li p)
  unfolding ask_path found_or nodes numbered stmt_number stmt_at
  path_answer_lem li p = elim (lt-or li (count L.lines)) [ inl l ↦ by_path_lem li p l ∙ go (node_from 0 li p ns) (sought ns 0 li p) | inr l ↦ no_line li p l ∙ past l (node_from 0 li p ns) (sought ns 0 li p) ]
    where
      past : count L.lines ≤ li → (r : Option (ℕ × List ℕ)) → Sought ns 0 li p r → refused 26 0 ≡ numbered (found_or r)
      past l r (found k d) = absurd (omega (arith, l, recorded.below k d.node d.is, d.line_is))
      past l r (missing f) = refl

      none_there : ((k : ℕ) → Stands ns li p k → ⊥) → (k : ℕ) → node_at T.stmts (length ns) li 0 p ≡ k → stmt_at T.stmts k ≡ refused 26 0
      none_there f zero e = refl
      none_there f (suc k) e = absurd (f k (stands_there (count L.lines) T.stmts ns recorded li p k e))

      go : (r : Option (ℕ × List ℕ)) → Sought ns 0 li p r → stmt_at T.stmts (node_at T.stmts (length ns) li 0 p) ≡ numbered (found_or r)
      go r (found k d) =
          let z : k ≡ 0 + k = omega arith in
          let q : node_at T.stmts (length ns) li 0 p ≡ suc k
          = ap (λ (o : ℕ). node_at T.stmts (length ns) o 0 p) (sym d.line_is)
          ∙ ap (λ (o : List ℕ). node_at T.stmts (length ns) d.node.line 0 o) (sym d.path_is)
          ∙ leads_back (count L.lines) T.stmts ns recorded k d.node d.is in
          ap (stmt_at T.stmts) q ∙ stmt_is k d.node d.is ∙ ap (λ (o : ℕ). answer (o, stmt_number d.node.stmt)) z
      go r (missing f) = none_there f (node_at T.stmts (length ns) li 0 p) refl

  by_node : (i : ℕ) → i < length ns → node_statement T.counts T.stmts i ≡ unless_refused (no_statement (count L.lines) T.stmts (length ns) i) (answer (i, word_of T.stmts i))
  unfolding node_statement if_rows
  by_node i l = rw (count_is, lines_are, lt-ltb i (length ns) l, le-ltb (length T.stmts) (length ns * 12) rows) refl

  -- and so is a node's statement
  pub node_answer : (i : ℕ) → node_statement T.counts T.stmts i ≡ numbered (ask_statement L i)
  unfolding ask_statement statement_of nodes numbered unless_refused node_statement stmt_number
  node_answer i = elim (lt-or i (length ns)) [ inl l ↦ there l | inr l ↦ past l ]
    where
      past : length ns ≤ i → node_statement T.counts T.stmts i ≡ numbered (ask_statement L i)
      past l = rw (count_is, le-ltb i (length ns) l, none_past ns i l) refl

      there : i < length ns → node_statement T.counts T.stmts i ≡ numbered (ask_statement L i)
      there l =
          let d = at_place ns i l in
          by_node i l
          ∙ ap (λ (c : ℕ). unless_refused c (answer (i, word_of T.stmts i))) (stated (count L.lines) T.stmts ns recorded i d.0 d.1)
          ∙ ap (λ (w : ℕ). answer (i, w)) (word_is i d.0 d.1)
          ∙ ap (λ (o : Option Node). numbered (statement_of i o)) (sym d.1)
