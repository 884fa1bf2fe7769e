-- `open_for`: a key that is noted is looked for; one that is not is noted, and the FOR pushed. Assumes nothing.
use borrow.Author.Rules.{rules}
use borrow.Author.Tests.{eqb-true}
use mathlib.Core.Path.{refl, sym, ◌∙◌}
use Rattle.passes.specs.FrameStackLaws.{room_below}
use Rattle.passes.specs.ForStackLaws.{push_new}
use Rattle.passes.specs.NotedKeys.{unnoted, noted_for, own_note, more_noted}
use Rattle.wiring.specs.NotedFors.{keys_noted, noted_keys}
use Rattle.wiring.proofs.fors.Fors.open_for.Goals as goal

pub invariant_of-self : goal.invariant_of-self
invariant_of-self c =
    let s = c.args.self.now in
    let k = keys_noted s.args.now s.notes s.stack.words (search rules) s.noted in
    record { noted = noted_keys _ _ _ (noted_for s.args.now s.notes s.stack.words _ c.args.i c.requires.holds_below k c.push_for-self.ensures (eqb-true _ 1 (sym c.is_noted.ensures ∙ c.if-is_noted.true))) }

pub push-self-requires-clause-room : goal.push-self-requires-clause-room
push-self-requires-clause-room c = room_below _ _ c.requires.holds_below

pub returns-clause-for_pushed : goal.returns-clause-for_pushed
returns-clause-for_pushed c =
    let s = c.args.self.now in
    let k = keys_noted s.args.now s.notes s.stack.words (search rules) s.noted in
    push_new s.args.now c.args.i s.stack.words _ 0 c.requires.i_bound.0 (unnoted s.args.now s.notes s.stack.words _ k (sym c.is_noted.ensures ∙ c.if-is_noted.false)) refl c.push-self.ensures

pub invariant_of-self-2 : goal.invariant_of-self-2
invariant_of-self-2 c =
    let s = c.args.self.now in
    let k = keys_noted s.args.now s.notes s.stack.words (search rules) s.noted in
    let f = push_new s.args.now c.args.i s.stack.words _ 0 c.requires.i_bound.0 (unnoted s.args.now s.notes s.stack.words _ k (sym c.is_noted.ensures ∙ c.if-is_noted.false)) refl c.push-self.ensures in
    record { noted = rw (c.insert.ensures, c.note_of.ensures) (noted_keys _ _ _ (noted_for s.args.now _ s.stack.words _ c.args.i c.requires.holds_below (more_noted s.args.now s.notes _ k.size s.stack.words k) f (own_note s.args.now s.notes _ k.size))) }
