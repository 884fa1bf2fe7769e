-- `link_frames`: the nodes from i on are linked. Assumes nothing.
use borrow.Author.Rules.{rules}
use native.Mathlib.Omega.{arith}
use Rattle.passes.specs.LinkLaws.{linking_start, linking_back, linking_end}
use Rattle.wiring.specs.FrameRows.{flat, length-flat}
use Rattle.wiring.proofs.frames.link_frames.Goals as goal

pub loop-i-init : goal.loop-i-init
loop-i-init c = (search rules, linking_start _ _ _ c.requires)

pub loop-i-preserved : goal.loop-i-preserved
loop-i-preserved c = (
  search rules,
  linking_back _ _ _ _ _ c.loop-i.i c.loop-i-test.true (omega arith) (omega (arith, length-flat c.loop-i.frames, c.loop-i.invariant.0, c.args.r.now.few)) c.word.ensures c.link_node.ensures c.loop-i.invariant.1,
)

pub returns : goal.returns
returns c = λ ns. linking_end c.args.r.now.stmts.now c.args.r.now.n (flat c.loop-i.frames) c.loop-i.i (omega arith) (omega (arith, length-flat c.loop-i.frames, c.loop-i.invariant.0, c.args.r.now.few)) c.loop-i.invariant.1 ns
