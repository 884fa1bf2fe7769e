-- A graph that is fed in pieces (document 02, L1). No contract can say which bytes a read brings, so what is said is of some bytes: those of the pieces, as the
-- code that feeds them shows. Assumes nothing.
use Rattle.std.specs.Prelude.{ℕ, ◌≡◌, List, [], ◌++◌, take}
use Rattle.std.proofs.Common.{sym, ap, ◌∙◌}
use Rattle.graph.specs.Build.{limits, flowlist}
use Rattle.graph.specs.Check.{Verdict, shown, flowcheck}
use Rattle.wiring.specs.BuiltAnswer.{BuiltAnswer}
use Rattle.comparing.specs.Judging.{start}
use Rattle.comparing.specs.Comparing.{Standing, same, fed}
use Rattle.comparing.specs.ComparingLaws.{fed-append}
use Rattle.formatting.specs.Whole.{Whole}
use Rattle.printing.specs.Limits.{ListedWhole}
use Rattle.checking.specs.Checking.{concluded, concluded_so}

-- some bytes were fed, from the first on
abbrev pub SomeFed : (due : List ℕ) → Standing → Type 0
SomeFed due z = (g : List ℕ) × (z ≡ fed due (same 0 start) g)

-- the row is the definition's for the text and some bytes
abbrev pub SomeChecked : (text row : List ℕ) → Type 0
SomeChecked text row = (g : List ℕ) × (row ≡ flowcheck text g)

pub fed-none : (due : List ℕ) (z : Standing) → z ≡ same 0 start → SomeFed due z
unfolding fed
fed-none due z e = ([], e)

pub fed_piece : (due piece : List ℕ) (y z : Standing) → SomeFed due y → z ≡ fed due y piece → SomeFed due z
fed_piece due piece y z h e = (h.0 ++ piece, e ∙ ap (λ (x : Standing). fed due x piece) h.1 ∙ sym (fed-append due (same 0 start) h.0 piece))

pub pieces_checked : (text empty page row : List ℕ) (x : BuiltAnswer) (n r : ℕ) (z : Standing) (v : Verdict) → ListedWhole text empty page x n → SomeFed (take n page) z
    → v ≡ concluded x z (take n page) → Whole row r (shown v) → SomeChecked text (take r row)
unfolding flowcheck flowlist
pieces_checked text empty page row x n r z v l h q w = (
  h.0,
  w.bytes ∙ ap shown (q ∙ ap (λ (y : Standing). concluded x y (take n page)) h.1 ∙ concluded_so limits text h.0 (take n page) x l.answer l.whole.bytes),
)
