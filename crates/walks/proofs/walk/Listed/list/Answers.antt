-- `list`: the row that the node has, and the part that lies in the table. Assumes nothing.
use Rattle.std.proofs.Common.{arith}
use Rattle.passes.specs.WalkLaws.{stored_part}
use Rattle.walks.specs.FromListed.{stored_in}
use Rattle.walks.proofs.walk.Listed.list.Goals as goal

pub bounds-self-row : goal.bounds-self-row
bounds-self-row c = omega (arith, (stored_in c.args.self.now).rows, c.requires)

pub bounds-self-row-2 : goal.bounds-self-row-2
bounds-self-row-2 c = omega (arith, (stored_in c.args.self.now).rows, c.requires)

pub slice_bounds-result-end : goal.slice_bounds-result-end
slice_bounds-result-end c =
    omega (arith, (stored_in c.args.self.now).within c.args.v c.requires, c.from-start.ensures, c.from-count.ensures)

pub returns : goal.returns
returns c =
    let s = c.args.self.now in
    stored_part s.lists.now s.edges.now c.args.v c.from-start.result _ c.from-start.ensures (omega (arith, c.from-count.ensures))
