-- `region`: the walk's invariant, over the lists that the tables store. Assumes nothing.
use Rattle.std.proofs.Common.{rules, refl, arith, ◌<◌}
use Rattle.passes.specs.Walk.{stored_list}
use Rattle.passes.specs.WalkLaws.{walk_start, walk_markable, walk_turn, walk_few, walk_end, walk_below, region_listed, stored_ids}
use Rattle.walks.specs.FromListed.{stored_in}
use Rattle.walks.proofs.walk.Listed.region.Goals as goal

pub loop-done-init : goal.loop-done-init
loop-done-init c =
    let s = c.args.self.now in
    let lt : c.args.from < 4096 = omega (arith, s.nodes.records.few, c.requires) in
    walk_start (stored_list s.lists.now s.edges.now) 4096 c.args.from lt c.args.work.now (search rules)
    c.no_marks-marks.result _ c.no_marks-marks.ensures refl

pub list-requires : goal.list-requires
list-requires c =
    let s = c.args.self.now in
    rw c.from-v.ensures (walk_below s.nodes.records.n (stored_in s).ids c.requires c.loop-done.invariant c.loop-done.done c.loop-done-test.true)

pub mark_all-count-requires : goal.mark_all-count-requires
mark_all-count-requires c =
    let s = c.args.self.now in
    let next : c.from-v.result < s.nodes.records.n = rw c.from-v.ensures (walk_below s.nodes.records.n (stored_in s).ids c.requires c.loop-done.invariant c.loop-done.done c.loop-done-test.true) in
    walk_markable c.loop-done.invariant (stored_ids 4096 c.from-v.result _ (stored_in s) s.nodes.records.few next c.list.ensures)

pub loop-done-preserved : goal.loop-done-preserved
loop-done-preserved c =
    let s = c.args.self.now in
    walk_turn (stored_list s.lists.now s.edges.now) 4096 c.args.from c.loop-done.marks c.mark_all-count.new.marks c.loop-done.work
    _ c.loop-done.done c.loop-done.count c.mark_all-count.result c.from-v.result _ c.loop-done.invariant c.loop-done-test.true c.from-v.ensures
    c.list.ensures c.mark_all-count.ensures

pub returns : goal.returns
returns c =
    let listed = region_listed (stored_in c.args.self.now) c.requires
    (omega (arith, walk_few c.loop-done.invariant, c.loop-done.invariant.work_size)) (walk_end _ _ _ _ _ _ _ c.loop-done-test.false c.loop-done.invariant) in
    listed.reached
