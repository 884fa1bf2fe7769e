-- All definitions of the questions, opened: a table that names `opened` in its `unfolding` line can be computed. Assumes nothing.
use Rattle.std.specs.Prelude.{ℕ}
use Rattle.listings.specs.ListingText.{simple_word, cond_word}
use Rattle.graph.specs.NodeWords.{stmt_word}
use Rattle.graph.specs.Questions.{kept, frame_simple, frame_by, frame_of, frame_list, node_from, if_node, ask_successors, ask_predecessors, statement_of, ask_statement, found_or, ask_path, ask_entry, if_room, ask_frame}

unfoldable pub opened : ℕ
unfolding simple_word cond_word kept frame_simple frame_by frame_of frame_list stmt_word node_from if_node ask_successors ask_predecessors statement_of ask_statement found_or ask_path ask_entry if_room ask_frame
opened = 0
