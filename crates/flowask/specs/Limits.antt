-- The tables that `flowask` lends suffice at all limits, and so does the room for the answers: what it writes is what the definition's `flowask` says. Assumes nothing.
use Rattle.std.specs.Prelude.{ℕ, ◌≤◌, ◌<◌, ◌≡◌, List}
use Rattle.std.proofs.Math.Path.{refl, ap}
use Rattle.std.proofs.Common.{arith}
use Rattle.layout.specs.declared.refusals.Refusal.{Refusal}
use Rattle.layout.specs.Refusals.{number_of, number_small}
use Rattle.std.proofs.Math.ListN.{length}
use borrow.Author.Tests.{le-leb, lt-leb}
use Rattle.graph.specs.Print.{printed_refusal}
use Rattle.graph.specs.Build.{Capacity, limits}
use Rattle.passes.specs.TableForms.{Sizes}
use Rattle.formatting.specs.Printing.{Puts, puts_is}
use Rattle.printing.specs.PrintLength.{refusal_length}
use Rattle.wiring.specs.Limits.{at_limits}
use Rattle.formatting.specs.Whole.{Whole, puts_whole}
use Rattle.answers.specs.Flowask.{ask_text, in_room, flowask}
use Rattle.asking.specs.Asked.{TextAsked}

-- tables of these lengths: s
pub asked-limits : (text : List ℕ) (s : Sizes) (c l t a e f k i r u p out out' : List ℕ) (n : ℕ) → 1024 ≡ s.lines → 49152 ≡ s.stmts → 262144 ≡ s.args
    → 2048 ≡ s.entries → 12288 ≡ s.falls → 262144 ≡ s.links → 16384 ≡ s.lists → 4096 ≡ s.returns → 32768 ≡ s.succ
    → 32768 ≡ s.pred → TextAsked text s c l t a e f k i r u p out out' n → Puts out 0 out' n (ask_text limits text)
asked-limits text s c l t a e f k i r u p out out' n hl ht ha he hf hk hi hr hu hp g =
    puts_is (ap (λ (z : Capacity). ask_text z text) (at_limits s hl ht ha he hf hk hi hr hu hp)) g.asked

-- a refusal, in the room that there is
pub refused-whole : (r : Refusal) (out out' : List ℕ) (n : ℕ) → length out ≡ 2097153 → r.place < 18446744073709551616 → Puts out 0 out' n (printed_refusal (number_of r.reason) r.place) → Whole out' n (printed_refusal (number_of r.reason) r.place)
refused-whole r out out' n room h g =
    puts_whole out out' (printed_refusal (number_of r.reason) r.place) n (omega (arith, refusal_length (number_of r.reason) r.place (omega (arith, number_small r.reason)) (omega arith))) g

-- by the length of the text and of the answers: there is room for one byte more than they may have
module _ (text : List ℕ) where
  pub too_long : 262144 < length text → printed_refusal 1 0 ≡ flowask text
  unfolding flowask
  too_long h = rw (lt-leb (length text) 262144 h) refl

  module _ (short : length text ≤ 262144) (out out' : List ℕ) (room : length out ≡ 2097153) (r : ℕ) (g : Puts out 0 out' r (ask_text limits text)) where
    pub too_many : 2097152 < r → printed_refusal 28 2097152 ≡ flowask text
    unfolding flowask in_room
    too_many h = rw (le-leb (length text) 262144 short, lt-leb (length (ask_text limits text)) 2097152 (omega (arith, g.next))) refl

    pub all-answered : r ≤ 2097152 → Whole out' r (flowask text)
    unfolding flowask in_room
    all-answered h =
        let few : length (ask_text limits text) ≤ 2097152 = omega (arith, g.next) in
        rw (le-leb (length text) 262144 short, le-leb (length (ask_text limits text)) 2097152 few)
        (puts_whole out out' (ask_text limits text) r (omega arith) g)
