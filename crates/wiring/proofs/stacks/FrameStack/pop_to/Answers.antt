-- `pop_to`: the words above that of the opener are cleared. Assumes nothing.
use borrow.Author.Rules.{rules}
use mathlib.Core.Path.{◌∙◌}
use Rattle.wiring.specs.FrameWords.{under_cleared}
use Rattle.wiring.proofs.stacks.FrameStack.pop_to.Goals as goal

pub returns : goal.returns
returns c = c.fill_behind.ensures ∙ under_cleared c.args.self.words c.args.id c.bit-b.result (search rules) c.requires c.bit-b.ensures
