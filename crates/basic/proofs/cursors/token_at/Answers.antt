-- `token_at`: no GO, GO with no TO behind it, or both. Assumes nothing.
use Rattle.basic.specs.Cursors.{raw_at, token_no_go, token_no_to, token_goto}
use Rattle.basic.proofs.cursors.token_at.Goals as goal

pub returns-then-t : goal.returns-then-t
returns-then-t c = token_no_go (raw_at c.args.file.now) c.args.c c.counted_at-t.result c.counted_at-t.ensures c.if-t.true

pub returns-then-u : goal.returns-then-u
returns-then-u c = token_no_to (raw_at c.args.file.now) c.args.c c.counted_at-t.result c.counted_at-t.ensures c.if-t.false c.counted_at-u.result c.counted_at-u.ensures c.if-u.true

pub returns : goal.returns
returns c = token_goto (raw_at c.args.file.now) c.args.c c.counted_at-t.result c.counted_at-t.ensures c.if-t.false c.counted_at-u.result c.counted_at-u.ensures c.if-u.false
