-- The code's answer to a question for a list, its length, and what becomes of the slice lent for it: "zeroes .. past the used parts"; a refused question writes nothing. Assumes nothing.
use Rattle.std.specs.Prelude.{ℕ, ◌≡◌, List, length, Result}
use Rattle.listings.specs.Records.{padded}
use Rattle.graph.specs.Questions.{Reply, answer, refused}
use Rattle.layout.specs.declared.refusals.Refusal.{Refusal}
use Rattle.tables.specs.Told.{told}

unfoldable pub length_of : Reply (List ℕ) → Reply ℕ
length_of (answer l) = answer (length l)
length_of (refused n p) = refused n p

unfoldable pub slice_after : Reply (List ℕ) → List ℕ → List ℕ
slice_after (answer l) out = padded (length out) l
slice_after (refused n p) out = out

pub record FrameAnswered (q : Reply (List ℕ)) (out out' : List ℕ) (r : Result ℕ Refusal) : Type 0 where
  pub answered : told r ≡ length_of q
  pub slice : out' ≡ slice_after q out
