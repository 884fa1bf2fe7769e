-- Which pass over the rows the code makes, as the definitions have it. Assumes nothing.
use Rattle.std.specs.Prelude.{Bool, true, false}
use Rattle.wiring.specs.declared.fill_rows.Pass.{Pass}
use Rattle.wiring.specs.declared.fill_rows.Pass.TheVariants as pass

abbrev pub are_nexts : Pass → Bool
are_nexts pass.Nexts = true
are_nexts pass.Others = false
