-- What an input means: a text in bracket form, or a saved program. Assumes nothing.
use Rattle.std.specs.Prelude.{ℕ, Bool, true, false, List}
use Rattle.listings.specs.Read.{Answer}
use Rattle.listings.specs.Cut.{meant}
use Rattle.program_files.specs.Program.{read_program}

-- "All three demands now cover both inputs": whether it is a saved program, and its bytes
abbrev pub meaning : Bool → List ℕ → Answer
meaning false t = meant t
meaning true f = read_program f
