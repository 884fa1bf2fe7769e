-- `wire_graph`: a table without frames and dispatched FORs in an array of zeros, then the lists. Assumes nothing.
use borrow.Author.Rules.{rules}
use lib.ListN.{length}
use mathlib.Core.Path.{◌≡◌}
use native.Mathlib.Omega.{arith}
use Rattle.wiring.specs.FrameRows.{length-flat, no_frame, none_yet}
use Rattle.wiring.proofs.wire.wire_graph.Goals as goal

pub stack_frames-requires : goal.stack_frames-requires
stack_frames-requires c =
    let e : c.default.result ≡ no_frame = search rules in
    none_yet 4096 _ (rw e at c.all_of-frames.ensures)

pub wire_lists-requires-clause-frames_made : goal.wire_lists-requires-clause-frames_made
wire_lists-requires-clause-frames_made c =
    let size : length c.stack_frames.new.frames ≡ 4096 = search rules in
    record {
      framed = c.stack_frames.ensures;
      frames_fit = omega (arith, length-flat c.stack_frames.new.frames, size, c.args.r.now.few);
      listed = c.list_dispatched-m.ensures.put.list;
    }
