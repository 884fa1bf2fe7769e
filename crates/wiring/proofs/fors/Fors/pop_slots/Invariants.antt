-- `pop_slots`: the first j slots are popped, the row holds what they pop, and top is what is left open at the top. Assumes nothing.
use mathlib.Core.Path.{◌≡◌}
use Rattle.passes.specs.FrameStacks.{HoldsBelow, top_mark}
use Rattle.passes.specs.ForStackLaws.{PoppingTo}
use Rattle.tables.specs.OneMore.{one_more}
use Rattle.wiring.proofs.fors.Fors.pop_slots.Given as goal

abbrev pub invariant-loop-j : goal.invariant-loop-j
invariant-loop-j l = record {
  same_args : l.self.args.now ≡ l.initial.self.args.now;
  same_notes : l.self.notes ≡ l.initial.self.notes;
  below : HoldsBelow l.self.stack.words l.i;
  at_top : one_more l.top ≡ top_mark l.self.stack.words;
  popping : PoppingTo l.initial.self.args.now l.keys l.initial.self.stack.words l.self.stack.words l.initial.row l.row l.j;
}
