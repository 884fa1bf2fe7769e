-- `zero_from`: past the file's end, or a search in what is left of it. Assumes nothing.
use Rattle.basic.specs.Covered.{zero_past}
use Rattle.basic.proofs.covered.zero_from.Goals as goal

pub returns-then-file-from-clause-zero : goal.returns-then-file-from-clause-zero
returns-then-file-from-clause-zero c = zero_past c.args.file.now c.args.from c.if-file-from.true
