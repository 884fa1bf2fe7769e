-- Room for all that is written. Assumes nothing.
use Rattle.std.specs.Prelude.{ℕ, ◌≡◌, refl, Bool, false, List, length}
use Rattle.std.proofs.Common.{ap, ◌∙◌, arith}
use Rattle.graph.specs.Build.{Capacity, build, written, limits, flowlist}
use Rattle.passes.specs.TableForms.{Sizes}
use Rattle.wiring.specs.GraphTables.{answer_of}
use Rattle.wiring.specs.Limits.{at_limits}
use Rattle.wiring.specs.BuiltAnswer.{BuiltAnswer}
use Rattle.formatting.specs.Printing.{Puts, puts_is}
use Rattle.formatting.specs.Whole.{Whole, puts_whole}
use Rattle.printing.specs.ListGraph.{GraphListed, InputListed, built_of}
use Rattle.printing.specs.PrintLength.{input_length}

-- what `flowprg` writes for a saved program, and `flowlist` for a text: "every program lends tables that suffice at all limits"
unfoldable pub printout : Bool → List ℕ → List ℕ
printout program input = written (built_of limits program input)

pub printout_text : (text : List ℕ) → printout false text ≡ flowlist text
unfolding printout flowlist
printout_text text = refl

-- with tables that suffice at all limits, x is answered, and all of what the definition says is put into `out`, which is out' then
pub record InputWhole (program : Bool) (input out out' : List ℕ) (x : BuiltAnswer) (n : ℕ) : Type 0 where
  pub answer : x ≡ answer_of (built_of limits program input)
  pub puts : Puts out 0 out' n (printout program input)
  pub whole : Whole out' n (printout program input)

-- the same of a text, and of what the definition's `flowlist` says
pub record ListedWhole (text out out' : List ℕ) (x : BuiltAnswer) (n : ℕ) : Type 0 where
  pub answer : x ≡ answer_of (build limits text)
  pub puts : Puts out 0 out' n (flowlist text)
  pub whole : Whole out' n (flowlist text)

pub listed_text : (text out out' : List ℕ) (x : BuiltAnswer) (n : ℕ) → InputWhole false text out out' x n → ListedWhole text out out' x n
unfolding printout flowlist
listed_text text out out' x n w = record { answer = w.answer; puts = w.puts; whole = w.whole }

-- so `list_input` with tables of these lengths, s, and 1,048,576 bytes for the graph writes all of what the definition says
pub input_limits : (program : Bool) (input : List ℕ) (s : Sizes) (c l t a e f k i r u p out out' : List ℕ) (x : BuiltAnswer) (n : ℕ) → 1024 ≡ s.lines → 49152 ≡ s.stmts → 262144 ≡ s.args
    → 2048 ≡ s.entries → 12288 ≡ s.falls → 262144 ≡ s.links → 16384 ≡ s.lists → 4096 ≡ s.returns → 32768 ≡ s.succ
    → 32768 ≡ s.pred → length out ≡ 1048576 → InputListed program input s c l t a e f k i r u p out out' x n → InputWhole program input out out' x n
unfolding printout
input_limits program input s c l t a e f k i r u p out out' x n hl ht ha he hf hk hi hr hu hp ho g =
    let e = at_limits s hl ht ha he hf hk hi hr hu hp in
    let p = puts_is (ap (λ (z : Capacity). written (built_of z program input)) e) g.listed in
    record {
      answer = g.built.answer ∙ ap (λ (z : Capacity). answer_of (built_of z program input)) e;
      puts = p;
      whole = puts_whole out out' (printout program input) n (omega (arith, input_length limits program input)) p;
    }

-- and so `list_graph` writes all of what the definition's `flowlist` says
pub listed-limits : (text : List ℕ) (s : Sizes) (c l t a e f k i r u p out out' : List ℕ) (x : BuiltAnswer) (n : ℕ) → 1024 ≡ s.lines → 49152 ≡ s.stmts → 262144 ≡ s.args
    → 2048 ≡ s.entries → 12288 ≡ s.falls → 262144 ≡ s.links → 16384 ≡ s.lists → 4096 ≡ s.returns → 32768 ≡ s.succ
    → 32768 ≡ s.pred → length out ≡ 1048576 → GraphListed text s c l t a e f k i r u p out out' x n → ListedWhole text out out' x n
listed-limits text s c l t a e f k i r u p out out' x n hl ht ha he hf hk hi hr hu hp ho g =
    listed_text text out out' x n (input_limits false text s c l t a e f k i r u p out out' x n hl ht ha he hf hk hi hr hu hp ho g)
