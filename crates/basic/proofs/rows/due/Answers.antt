-- A token's place says where it stands.
use Rattle.std.proofs.Common.{refl}
use Rattle.basic.specs.Rests.{token_anchored}
use Rattle.basic.proofs.rows.due.Goals as goal

pub returns : goal.returns
returns c = record { stage = refl; same = rw c.uncovered.ensures (token_anchored c.args.file.now c.args.c c.token_at-t.result c.token_at-t.ensures); ends = refl }
