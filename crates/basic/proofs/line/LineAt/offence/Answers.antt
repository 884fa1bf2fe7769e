-- `offence`: the number's offence comes to the others. Assumes nothing.
use Rattle.std.proofs.Common.{◌+◌, arith}
use borrow.Author.Tests.{le-leb, lt-leb}
use Rattle.program_files.specs.Program.{offences}
use Rattle.basic.specs.Lines.{inner_offences}
use Rattle.basic.specs.OffenceLaws.{part_number}
use Rattle.basic.proofs.line.LineAt.offence.Goals as goal

pub returns-then-from-gt-MAX_LINE_NUMBER : goal.returns-then-from-gt-MAX_LINE_NUMBER
unfolding offences
returns-then-from-gt-MAX_LINE_NUMBER c b e =
    rw (part_number (c.args.self.now.at + 2) c.args.n (inner_offences c.args.self.now.file.now c.args.self.now.at b), lt-leb c.args.n 63999 (omega (arith, c.from.ensures, c.if-from-gt-MAX_LINE_NUMBER.true)), ← c.inner_offence-o.ensures b e) (rw c.at.ensures at c.sooner.ensures)

pub returns : goal.returns
unfolding offences
returns c b e =
    rw (part_number (c.args.self.now.at + 2) c.args.n (inner_offences c.args.self.now.file.now c.args.self.now.at b), le-leb c.args.n 63999 (omega (arith, c.from.ensures, c.if-from-gt-MAX_LINE_NUMBER.false))) (c.inner_offence-o.ensures b e)
