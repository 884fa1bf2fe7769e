-- A node's opening word: "a statement is answered by its node id and opening word". Assumes nothing.
use Rattle.std.specs.Prelude.{ℕ, List}
use Rattle.listings.specs.ListingText.{simple_word, cond_word}
use Rattle.listings.specs.WordTable.{word_index}
use Rattle.graph.specs.Nodes.{NodeStmt, simple, cond}

-- the opening word of a node's statement, and its number in the table of the 28
unfoldable pub stmt_word : NodeStmt → List ℕ
stmt_word (simple o) = simple_word o
stmt_word (cond w a b) = cond_word w

unfoldable pub stmt_number : NodeStmt → ℕ
stmt_number s = word_index (stmt_word s)
