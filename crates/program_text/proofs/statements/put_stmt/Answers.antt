-- `put_stmt`: the five pieces. Assumes nothing.
use Rattle.listings.specs.Bytes.{bytes}
use Rattle.program_text.specs.StmtText.{mark_text, tier_text, wrote_stmt}
use Rattle.program_text.proofs.statements.put_stmt.Goals as goal

pub returns : goal.returns
unfolding bytes mark_text tier_text
returns c =
    wrote_stmt c.args.word c.args.args.now c.put_opening.ensures c.put_only.ensures c.put_args.ensures c.put_only-2.ensures c.put_bytes.ensures
