-- The mark, and the slots after it, if any. Assumes nothing.
use Rattle.std.proofs.Common.{length, subst}
use Rattle.tokens.specs.Scan.{FirstWord}
use Rattle.reader.specs.Operands.{next_alone, next_room, next_slots}
use Rattle.reader.proofs.operands.put_next.Goals as goal

pub returns-in_default : goal.returns-in_default
returns-in_default c =
    let a = c.args in
    next_alone a.s.now (subst (FirstWord a.s.now) c.in_default.is c.first_word.ensures) a.part.now _ c.mark_number.ensures

pub put_words-g-requires : goal.put_words-g-requires
put_words-g-requires c = next_room c.args.s.now _ _ (subst (FirstWord c.args.s.now) c.in-Some.is c.first_word.ensures) (length c.args.part.now) c.requires

pub returns : goal.returns
returns c =
    let a = c.args in
    next_slots a.s.now _ _ (subst (FirstWord a.s.now) c.in-Some.is c.first_word.ensures) a.part.now _ c.put_words-g.result _ c.mark_number-2.ensures c.put_words-g.ensures
