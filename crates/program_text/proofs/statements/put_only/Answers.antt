-- `put_only`: the text, or nothing. Assumes nothing.
use Rattle.formatting.specs.Pages.{wrote_none, wrote_is}
use Rattle.program_text.specs.StmtText.{only_own, only_other}
use Rattle.program_text.proofs.statements.put_only.Goals as goal

pub returns-then-word-owner : goal.returns-then-word-owner
returns-then-word-owner c = wrote_is (only_own c.args.word c.args.owner c.args.text.now c.if-word-owner.true) c.put_bytes.ensures

pub returns-else-word-owner : goal.returns-else-word-owner
returns-else-word-owner c = wrote_is (only_other c.args.word c.args.owner c.args.text.now c.if-word-owner.false) (wrote_none _)
