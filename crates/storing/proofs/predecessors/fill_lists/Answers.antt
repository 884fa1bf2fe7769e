-- `fill_lists`: whatever lists the tables hold, the nodes passed stand in the lists of their successors. Assumes
-- nothing.
use native.Mathlib.Omega.{arith}
use Rattle.storing.specs.PredecessorLists.{filling_none, filling_inside, filling_fillable, filling_more}
use Rattle.storing.proofs.predecessors.fill_lists.Goals as goal

pub loop-j-init : goal.loop-j-init
loop-j-init c = λ ls b r. filling_none b r

pub slice_bounds-list-end : goal.slice_bounds-list-end
slice_bounds-list-end c =
    let f = c.loop-j.invariant c.requires.ls c.requires.begun c.requires.room in
    omega (arith, filling_inside c.requires.begun c.requires.room c.loop-j.j (omega arith) f, c.list_ends.ensures.start, c.list_ends.ensures.end)

pub fill_list-requires : goal.fill_list-requires
fill_list-requires c =
    let f = c.loop-j.invariant c.requires.ls c.requires.begun c.requires.room in
    filling_fillable c.requires.begun c.requires.room c.loop-j.j (omega arith) f c.list_ends.result.start c.list_ends.result.end c.list_ends.ensures.start c.list_ends.ensures.end

pub loop-j-preserved : goal.loop-j-preserved
loop-j-preserved c = λ ls b r. filling_more b r c.loop-j.j (omega arith) (c.loop-j.invariant ls b r) c.list_ends.result.start c.list_ends.result.end c.list_ends.ensures.start c.list_ends.ensures.end c.fill_list.ensures
