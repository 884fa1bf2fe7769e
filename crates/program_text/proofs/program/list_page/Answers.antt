-- `list_page`: the page is longer than any listing. Assumes nothing.
use Rattle.std.proofs.Common.{arith}
use Rattle.formatting.specs.Whole.{puts_whole}
use Rattle.program_text.specs.TextLength.{prglist-length}
use Rattle.program_text.proofs.program.list_page.Goals as goal

pub returns-clause-whole : goal.returns-clause-whole
returns-clause-whole c = puts_whole _ _ _ _ (omega (arith, prglist-length c.args.file.now)) c.list_program.ensures
