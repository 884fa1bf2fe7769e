-- `write_predecessors`: the four passes, one after the other. Assumes nothing.
use Rattle.storing.specs.PredecessorLists.{ready_count, ready_rows, ready_sum, ready_begun, ready_room, ready_filled}
use Rattle.storing.proofs.predecessors.write_predecessors.Goals as goal

pub count_edges-requires : goal.count_edges-requires
count_edges-requires c = ready_count c.requires.held c.requires.edges_are c.requires.room c.clear_counts.ensures

pub set_starts-requires : goal.set_starts-requires
set_starts-requires c = (ready_rows c.requires.held c.requires.edges_are c.requires.room c.clear_counts.ensures c.count_edges.ensures, ready_sum c.requires.held c.requires.edges_are c.requires.room c.clear_counts.ensures c.count_edges.ensures)

pub fill_lists-requires : goal.fill_lists-requires
fill_lists-requires c = record { ls = c.requires.ls; begun = ready_begun c.requires.held c.requires.edges_are c.requires.room c.clear_counts.ensures c.count_edges.ensures c.set_starts.ensures; room = ready_room c.requires.held c.requires.edges_are c.requires.room c.clear_counts.ensures c.count_edges.ensures c.set_starts.ensures }

pub returns : goal.returns
returns c = λ ls s e. ready_filled s e c.requires.room c.clear_counts.ensures c.count_edges.ensures c.set_starts.ensures c.fill_lists.ensures
