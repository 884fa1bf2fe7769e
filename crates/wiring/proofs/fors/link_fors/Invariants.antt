-- `link_fors`: the rows before node i are done, and the words hold the FORs that are open there. Assumes nothing.
use mathlib.Core.Path.{◌≡◌}
use Rattle.passes.specs.FrameStacks.{HoldsBelow}
use Rattle.passes.specs.ForLinkLaws.{GoingOn}
use Rattle.wiring.proofs.fors.link_fors.Given as goal

abbrev pub invariant-loop-i : goal.invariant-loop-i
invariant-loop-i l = record {
  same_args : l.fors.args.now ≡ l.initial.fors.args.now;
  below : HoldsBelow l.fors.stack.words l.i;
  going : GoingOn l.r.stmts.now l.initial.fors.args.now l.r.n l.initial.links l.fors.stack.words l.links l.i;
}
