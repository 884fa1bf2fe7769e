-- A graph checked beside its listing (document 02, L1): the verdict is the definition's, whatever the listing, the graph and the tables are. Assumes nothing.
use Rattle.std.specs.Prelude.{Result, Ok, Err, ℕ, ◌≤◌, ◌<◌, ◌≡◌, List, length, take}
use Rattle.std.proofs.Common.{◌∙◌, sym, arith}
use Rattle.listings.specs.Bytes.{bytes}
use Rattle.graph.specs.Print.{printed_refusal}
use Rattle.graph.specs.Build.{Capacity, Built, graph, refused, build, written}
use Rattle.graph.specs.Check.{Verdict, wrong, against, checked, shown}
use Rattle.passes.specs.TableForms.{Sizes, capacity}
use Rattle.wiring.specs.GraphTables.{answer_of, answer_graph, answer_refused}
use Rattle.wiring.specs.BuiltAnswer.{BuiltAnswer}
use Rattle.wiring.specs.BuiltAnswer as answer
use Rattle.comparing.specs.Judging.{start}
use Rattle.comparing.specs.Comparing.{Standing, same, fed, ruled}
use Rattle.comparing.specs.ComparingStates.{verdict_as}
use Rattle.comparing.specs.GraphChecked.{graph_checked}
use Rattle.formatting.specs.Printing.{Puts}
use Rattle.printing.specs.ListGraph.{GraphListed}
use Rattle.printing.specs.PrintLength.{written-length, refusal_length}
use Rattle.formatting.specs.Whole.{Whole, puts_whole}

-- "Both come after all of the listing's refusals": what is said where the graph given ends
unfoldable pub concluded : BuiltAnswer → Standing → List ℕ → Verdict
concluded answer.Graph z due = ruled due z
concluded (answer.Refused n p) z due = wrong n p

-- page is page' after: the tables and the page are as `list_graph` leaves them, and the verdict is the definition's
pub record GraphChecked (text given : List ℕ) (s : Sizes) (c l t a e f k i r u p page page' : List ℕ) (v : Verdict) : Type 0 where
  pub built : BuiltAnswer
  pub len : ℕ
  pub listed : GraphListed text s c l t a e f k i r u p page page' built len
  pub verdict : v ≡ checked (capacity s) text given

-- ---- proofs

-- a graph fed beside the printed one is judged as the definition has it, in however many pieces (`fed-append`)
pub concluded_so : (c : Capacity) (text given due : List ℕ) (x : BuiltAnswer) → x ≡ answer_of (build c text) → due ≡ written (build c text)
    → concluded x (fed due (same 0 start) given) due ≡ checked c text given
unfolding concluded written against
concluded_so c text given due x ex ed = go (build c text) ex ed
  where
    go : (b : Built) → x ≡ answer_of b → due ≡ written b → concluded x (fed due (same 0 start) given) due ≡ against b given
    go (graph L) e d = rw (e ∙ answer_graph L, d) (graph_checked L given)
    go (refused n p) e d = rw (e ∙ answer_refused n p)

module _ (text given : List ℕ) (s : Sizes) (c l t a e f k i r u p page page' : List ℕ) (x : BuiltAnswer) (n : ℕ) (h : 1048576 ≤ length page)
    (w : GraphListed text s c l t a e f k i r u p page page' x n) where
  -- the printed graph is whole
  pub page_whole : Whole page' n (written (build (capacity s) text))
  page_whole = puts_whole page page' (written (build (capacity s) text)) n (omega (arith, written-length (capacity s) text)) w.listed

  pub graph_is_checked : (v : Verdict) → v ≡ concluded x (fed (take n page') (same 0 start) given) (take n page')
      → GraphChecked text given s c l t a e f k i r u p page page' v
  graph_is_checked v q =
      record { built = x; len = n; listed = w; verdict = q ∙ concluded_so (capacity s) text given (take n page') x w.built.answer page_whole.bytes }

-- ---- a verdict as a row

-- all of the row is put into `out`, which is out' then
pub record RowShown (out out' : List ℕ) (n : ℕ) (v : Verdict) : Type 0 where
  pub puts : Puts out 0 out' n (shown v)
  pub whole : Whole out' n (shown v)

module _ {R : Type 0} (f : R → ℕ × ℕ) (out out' : List ℕ) (n : ℕ) (v : Result (Unit {0}) R) (h : 64 ≤ length out) where
  pub right-shown : v ≡ Ok tt → Puts out 0 out' n (bytes "(right)\n") → RowShown out out' n (verdict_as f v)
  unfolding shown verdict_as bytes
  right-shown e g = rw e (record { puts = g; whole = puts_whole out out' (bytes "(right)\n") n (omega arith) g })

  pub wrong_shown : (r : R) (j y : ℕ) → v ≡ Err r → j ≡ (f r).0 → y ≡ (f r).1 → j < 100000000000000000000 → y < 100000000000000000000 → Puts out 0 out' n (printed_refusal j y)
      → RowShown out out' n (verdict_as f v)
  unfolding shown verdict_as
  wrong_shown r j y e ej ey hj hy g = rw (e, sym ej, sym ey) (record { puts = g; whole = puts_whole out out' (printed_refusal j y) n (omega (arith, refusal_length j y hj hy)) g })
