-- The name is the first word, the tier the text after it. Assumes nothing.
use Rattle.std.proofs.Common.{refl}
use Rattle.reader.specs.Operands.{for_words}
use Rattle.reader.proofs.operands.put_for.Goals as goal

pub returns : goal.returns
returns c = for_words c.args.s _ c.first_word.result c.unwrap_or.result c.first_word.ensures refl c.unwrap_or.ensures c.args.part.now _ _ c.requires c.slot_of.ensures c.tier_number.ensures
