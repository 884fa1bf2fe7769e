-- `read_items`: those put and those still to come are all; each took a byte. Assumes nothing.
use Rattle.std.proofs.Common.{length, ◌+◌, ◌≤◌}
use Rattle.basic.specs.Cursors.{tokens_at}
use Rattle.basic.specs.Items.{items_from}
use Rattle.basic.specs.ItemLaws.{Putting}
use Rattle.basic.proofs.items.read_items.Given as goal

abbrev pub invariant-loop-item : goal.invariant-loop-item
invariant-loop-item l =
    record {
      putting : Putting l.count (items_from l.kind (tokens_at l.file l.at)) (items_from l.kind (tokens_at l.file l.fn.c)) l.initial.part l.part;
      few : l.count + length (tokens_at l.file l.at) ≤ length (tokens_at l.file l.fn.c);
    }

abbrev pub decreases-loop-item : goal.decreases-loop-item
decreases-loop-item l = length (tokens_at l.file l.at)
