-- `keep_shared`: too long, or stored with zeros behind. Assumes nothing.
use Rattle.std.proofs.Common.{arith, rules}
use Rattle.layout.specs.Zeroed.{filled_behind_lem}
use Rattle.graph.specs.Questions.{kept}
use Rattle.frame_slices.specs.FrameSlice.{answered_long, answered-list}
use Rattle.frame_slices.proofs.slices.keep_shared.Goals as goal

pub returns-then-out-count : goal.returns-then-out-count
returns-then-out-count c = answered_long (kept c.args.header.now c.args.list.now) c.args.out.now _ c.count_kept-count.result c.at.ensures c.count_kept-count.ensures (omega arith)

pub returns : goal.returns
returns c =
    answered-list (kept c.args.header.now c.args.list.now) c.args.out.now c.store_kept.new.out _ c.count_kept-count.result c.count_kept-count.ensures (omega arith) c.store_kept.ensures
    (filled_behind_lem 0 c.store_kept.new.out c.count_kept-count.result c.fill.new.self (omega (arith, c.store_kept.auto.out)) (search rules))
