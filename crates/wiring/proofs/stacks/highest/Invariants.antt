-- `highest`: the words from q on are passed over. Assumes nothing.
use Rattle.passes.specs.FrameStacks.{highest_mark}
use mathlib.Core.Path.{◌≡◌}
use Rattle.wiring.proofs.stacks.highest.Given as goal

abbrev pub invariant-loop-q : goal.invariant-loop-q
invariant-loop-q l = highest_mark l.words l.n ≡ highest_mark l.words l.q
