-- `newest`: the words above that of i are 0. Assumes nothing.
use Rattle.passes.specs.FrameStackLaws.{newest_is}
use Rattle.wiring.proofs.stacks.FrameStack.newest.Goals as goal

pub returns : goal.returns
returns c = newest_is c.args.self.now.words c.args.i _ c.requires.i_bound c.requires.holds_below c.highest.ensures
