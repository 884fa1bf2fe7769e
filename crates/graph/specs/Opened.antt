-- All definitions, opened: a table that names `opened` in its `unfolding` line can be computed. Assumes nothing.
use Rattle.std.specs.Prelude.{ℕ}
use Rattle.listings.specs.Opened as listings
use Rattle.graph.specs.Lists.{has, add, add_all, below, keep, each, list, insert_by, insert, ascending}
use Rattle.graph.specs.Nodes.{branch_target, allocate, line_entry, nodes_before, nodes, entries_before, first_entry, all_entries, entries, entry_in}
use Rattle.graph.specs.Targets.{target_entries, branch_edges, on_for, on_next, on_simple, dispatch_target, dispatch_targets, selectable, orphan_targets, orphan_edges}
use Rattle.graph.specs.Edges.{empty_stacks, no_moves, on_fors, on_stack, falling, not_falling, rule_of, moves_of, node_moves, find_for, under_or, found_or, pop_for, popped, left, fors_after, frames_after, stacks_after, frame_body, popped_bodies, closed_body, closer_edges, own_block, own_simple, own, jumps_or, sent, from_node, to_fall, wired, orphans, edges, ends}
use Rattle.graph.specs.Reach.{reaches}
use Rattle.graph.specs.Graph.{simple_role, stmt_role, wire, role_of, role, fall_of, fall_from, base, continuation_by, continuation, callees_by, callees, skip_steps_by, skip_steps, some_reaches, return_from, region_return_edges, return_targets, return_edges, successors_by, successors_in, successors, all_successors, predecessors_in, predecessors}
use Rattle.graph.specs.Run.{toward, may_fall, close_call, moves_by, moves, run_from, run}
use Rattle.graph.specs.Print.{spaced, joined, node_row, node_rows, entry_row, back_row, printed, printed_refusal}
use Rattle.graph.specs.Build.{lengths, edge_count, fitted, built_of_answer, written, limits, flowlist}

unfoldable pub opened : ℕ
unfolding listings.opened has add add_all below keep each list insert_by insert ascending branch_target allocate line_entry nodes_before nodes entries_before first_entry all_entries entries entry_in target_entries branch_edges on_for on_next on_simple dispatch_target dispatch_targets selectable orphan_targets orphan_edges empty_stacks no_moves on_fors on_stack falling not_falling rule_of moves_of node_moves find_for under_or found_or pop_for popped left fors_after frames_after stacks_after frame_body popped_bodies closed_body closer_edges own_block own_simple own jumps_or sent from_node to_fall wired orphans edges ends reaches simple_role stmt_role wire role_of role fall_of fall_from base continuation_by continuation callees_by callees skip_steps_by skip_steps some_reaches return_from region_return_edges return_targets return_edges successors_by successors_in successors all_successors predecessors_in predecessors toward may_fall close_call moves_by moves run_from run spaced joined node_row node_rows entry_row back_row printed printed_refusal lengths edge_count fitted built_of_answer written limits flowlist
opened = 0
