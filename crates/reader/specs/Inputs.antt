-- What the code takes as an input, as the definition does: whether it is a saved program, and its bytes.
-- Assumes nothing.
use Rattle.std.specs.Prelude.{ℕ, List, Bool, true, false}
use Rattle.reader.specs.declared.listing.Input.{Input}
use Rattle.reader.specs.declared.listing.Input.TheVariants as input

abbrev pub is_program : Input → Bool
is_program (input.Text t) = false
is_program (input.Program f) = true

abbrev pub bytes_of : Input → List ℕ
bytes_of (input.Text t) = t.now
bytes_of (input.Program f) = f.now
