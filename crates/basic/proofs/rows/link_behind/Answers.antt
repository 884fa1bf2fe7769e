use Rattle.basic.specs.RowLaws.{behind-none}
use Rattle.basic.proofs.rows.link_behind.Goals as goal

pub returns-then-file-c : goal.returns-then-file-c
returns-then-file-c c = behind-none c.args.file.now c.args.c c.if-file-c.true
