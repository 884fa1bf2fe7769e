-- `put_slot`: a name or `*`. Assumes nothing.
use Rattle.formatting.specs.Pages.{wrote_is}
use Rattle.program_text.specs.StmtText.{slot_star, slot-name}
use Rattle.program_text.proofs.statements.put_slot.Goals as goal

pub returns-then-key-eq0 : goal.returns-then-key-eq0
returns-then-key-eq0 c = wrote_is (slot_star c.args.key c.if-key-eq0.true) c.put_byte.ensures

pub returns : goal.returns
returns c = wrote_is (slot-name c.args.key c.if-key-eq0.false) c.put_key.ensures
