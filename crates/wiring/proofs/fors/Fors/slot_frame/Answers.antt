-- `slot_frame`: the newest, or the newest of a name, if its key is noted. Assumes nothing.
use borrow.Author.Rules.{rules}
use mathlib.Core.Path.{sym, ◌∙◌}
use Rattle.passes.specs.ForStackLaws.{slot_any, slot-name}
use Rattle.passes.specs.NotedKeys.{unnoted}
use Rattle.wiring.specs.NotedFors.{keys_noted}
use Rattle.wiring.proofs.fors.Fors.slot_frame.Goals as goal

pub returns-in-0 : goal.returns-in-0
returns-in-0 c = slot_any c.args.self.now.args.now c.args.key c.args.self.now.stack.words _ c.in-0.is c.requires.top_value

pub returns-in_default : goal.returns-in_default
returns-in_default c = slot-name c.args.self.now.args.now c.args.key c.args.self.now.stack.words _ (search rules) c.seek.ensures

pub returns-in_default-2 : goal.returns-in_default-2
returns-in_default-2 c =
    let s = c.args.self.now in
    let k = keys_noted s.args.now s.notes s.stack.words (search rules) s.noted in
    slot-name s.args.now c.args.key s.stack.words 0 (search rules) (unnoted s.args.now s.notes s.stack.words c.args.key k (sym c.is_noted.ensures ∙ c.if-is_noted.false))
