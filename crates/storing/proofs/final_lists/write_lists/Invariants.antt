-- `write_lists`: the lists of the first i nodes are written, and the rows of the others are as they were. Assumes
-- nothing.
use Rattle.passes.specs.EdgeTable.{lists_to, ListsStored}
use Rattle.storing.specs.FromSource.{list_from}
use Rattle.storing.proofs.final_lists.write_lists.Given as goal

abbrev pub invariant-loop-i : goal.invariant-loop-i
invariant-loop-i l = ListsStored (lists_to (list_from l.source l.args l.initial.lists) l.i) l.at l.initial.lists l.lists l.initial.succ l.succ
