-- An input's graph in the lent tables and on the page: what `list_input` promises, and how it follows from what `build` and the printing promise. Assumes nothing.
use Rattle.std.specs.Prelude.{ℕ, ◌≡◌, Bool, false, List, get_or}
use Rattle.std.proofs.Common.{sym, ap}
use Rattle.listings.specs.Listing.{Listing}
use Rattle.graph.specs.Print.{printed_refusal}
use Rattle.graph.specs.Build.{Capacity, Built, graph, built_of_answer, written}
use Rattle.program_files.specs.Inputs.{meaning}
use Rattle.passes.specs.TableForms.{Sizes, Tables, tables_of, capacity}
use Rattle.wiring.specs.GraphTables.{Answered}
use Rattle.formatting.specs.Printing.{Puts, puts_is}
use Rattle.passes.specs.GraphHeld.{GraphHeld}
use Rattle.printing.specs.PrintedTables.{SomeGraph, GraphPrinted}
use Rattle.wiring.specs.WrittenLaws.{graph_held, counts_held}
use Rattle.wiring.specs.BuildAnswers.{input_read, accepted_built, graph_of, refused_by}
use Rattle.wiring.specs.BuiltAnswer.{BuiltAnswer}
use Rattle.wiring.specs.BuiltAnswer as answer

-- what is built of an input, a saved program or a text
abbrev pub built_of : Capacity → Bool → List ℕ → Built
built_of c program input = built_of_answer c (meaning program input)

-- x is answered and the tables are as `build_input` leaves them, and what the definition writes for the input stands in `out`, as far as that goes
pub record InputListed (program : Bool) (input : List ℕ) (s : Sizes) (c l t a e f k i r u p out out' : List ℕ) (x : BuiltAnswer) (n : ℕ) : Type 0 where
  pub built : Answered (built_of (capacity s) program input) s c l t a e f k i r u p x
  pub listed : Puts out 0 out' n (written (built_of (capacity s) program input))

-- of a text
abbrev pub GraphListed : List ℕ → Sizes → (c l t a e f k i r u p out out' : List ℕ) → BuiltAnswer → ℕ → Type 0
GraphListed = InputListed false

-- ---- proofs

module _ (program : Bool) (input : List ℕ) (s : Sizes) (c l t a e f k i r u p : List ℕ) (x : BuiltAnswer) (w : Answered (built_of (capacity s) program input) s c l t a e f k i r u p x) where
  abbrev T : Tables
  T = tables_of c l t a e f k i r u p

  -- the graph of the listing that the input means
  listing_held : x ≡ answer.Graph → (L : Listing) × (built_of (capacity s) program input ≡ graph L) × GraphHeld L l t e f i r u p (get_or c 5 0) (get_or c 1 0) (get_or c 4 0)
  listing_held q =
      let g = graph_of (input_read program input) s T x w q in
      let L = g.0 in
      let n = counts_held L s T g.3 in
      let h = graph_held L s T ((input_read program input).within L ((input_read program input).reads L g.1)) g.2 g.3 in
      (L, accepted_built (input_read program input) s L g.1 g.2, rw (n.rows, n.stmts, n.targets) h)

  pub some_graph : x ≡ answer.Graph → SomeGraph l t e f i r u p (get_or c 5 0) (get_or c 1 0) (get_or c 4 0)
  some_graph q = let h = listing_held q in (h.0, h.2)

  pub graph_listed : (out out' : List ℕ) (n : ℕ) → x ≡ answer.Graph → GraphPrinted l t e f i r u p (get_or c 5 0) (get_or c 1 0) (get_or c 4 0) out out' n
      → InputListed program input s c l t a e f k i r u p out out' answer.Graph n
  unfolding written
  graph_listed out out' n q z = let h = listing_held q in record { built = rw q at w; listed = puts_is (sym (ap written h.1)) (z h.0 h.2) }

  pub refusal_listed : (out out' : List ℕ) (n j y : ℕ) → x ≡ answer.Refused j y → Puts out 0 out' n (printed_refusal j y) → InputListed program input s c l t a e f k i r u p out out' (answer.Refused j y) n
  unfolding written
  refusal_listed out out' n j y q z = record { built = rw q at w; listed = puts_is (sym (ap written (refused_by (input_read program input) s T x w j y q).1)) z }
