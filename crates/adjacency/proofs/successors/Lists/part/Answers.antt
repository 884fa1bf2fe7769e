-- `part`: the part that the question answers, or an empty one. Assumes nothing.
use Rattle.std.proofs.Common.{arith}
use Rattle.adjacency.specs.ListsAtLaws.{part_lent, refused_empty}
use Rattle.adjacency.specs.Sides.{side_inside}
use Rattle.adjacency.proofs.successors.Lists.part.Goals as goal

pub overflow_add-result : goal.overflow_add-result
overflow_add-result c = omega (arith, side_inside _ _ _ _ _ _ _ c.in-Ok.ensures)

pub offset_bounds-table-start : goal.offset_bounds-table-start
offset_bounds-table-start c = omega (arith, side_inside _ _ _ _ _ _ _ c.in-Ok.ensures)

pub slice_bounds-result-end : goal.slice_bounds-result-end
slice_bounds-result-end c = omega (arith, side_inside _ _ _ _ _ _ _ c.in-Ok.ensures)

pub returns-in-Ok : goal.returns-in-Ok
returns-in-Ok c = part_lent _ _ _ _ c.in-Ok.ensures

pub returns-in-Err : goal.returns-in-Err
returns-in-Err c = refused_empty _ _ _ _ c.in-Err.ensures
