-- The frame question on any tables (document 01, "Frame question"): "On tables that no build wrote, the same rules read what the records say." Assumes nothing.
use Rattle.std.specs.Prelude.{ℕ, ◌+◌, ◌*◌, List, [], Bool, ◌&&◌, ◌||◌, eqb, ltb, length, get_or}
use Rattle.listings.specs.Bytes.{pick}
use Rattle.listings.specs.Listing.{Name}
use Rattle.listings.specs.Rows.{is_name}
use Rattle.listings.specs.Records.{name_key}
use Rattle.listings.specs.Cut.{cut_name}
use Rattle.layout.specs.Layout.{return_word, run_word, for_word, next_word, clr_word, stmt_entries, arg_entries, fall_entries, list_entries}
use Rattle.tables.specs.Columns.{call_word, word_of, fall_entry, succ_start, succ_count, succ_part}
use Rattle.graph.specs.Questions.{Reply, refused, kept, if_room}
use Rattle.statements.specs.StatementAt.{no_statement, unless_refused}

-- ---- the list, by the number of the node's opening word (its place among the opening words)

-- "nothing for CLR, RUN, RETURN"
unfoldable pub forgets_word : ℕ → Bool
forgets_word w = eqb w clr_word || (eqb w run_word || eqb w return_word)

-- ".. and a FOR of that name": a is the key in the record, k that of the name asked for
unfoldable pub ends_frame : (w a k : ℕ) → Bool
ends_frame w a k = forgets_word w || (eqb w for_word && eqb a k)

-- "a NEXT with the flag"
unfoldable pub keeps_shared : ℕ → Bool → Bool
keeps_shared w flag = eqb w next_word && flag

-- the rest of the rule: "keeps those successors that the header has; a call gives its continuation, if any; else all successors"
unfoldable pub frame_read : (stmts args falls lists succ : List ℕ) → (header node key : ℕ) → Bool → List ℕ
frame_read stmts args falls lists succ h i k flag =
    pick (ends_frame (word_of stmts i) (get_or args (i * arg_entries) 0) k) []
    (pick (keeps_shared (word_of stmts i) flag) (kept (succ_part lists succ h) (succ_part lists succ i))
    (pick (call_word (word_of stmts i)) (fall_entry falls i) (succ_part lists succ i)))

-- ---- "25 a used count or a record that the call reads points outside its table (place 0)"

-- n statements do not fit a table of so many entries
unfoldable pub short_tables : (n stmts args falls lists : ℕ) → Bool
short_tables n stmts args falls lists = ltb stmts (n * stmt_entries) || (ltb args (n * arg_entries) || (ltb falls (n * fall_entries) || ltb lists (n * list_entries)))

unfoldable pub part_outside : (lists succ : List ℕ) → ℕ → Bool
part_outside lists succ i = ltb (length succ) (succ_start lists i + succ_count lists i)

-- a call falls to no node
unfoldable pub fall_outside : ℕ → (stmts falls : List ℕ) → ℕ → Bool
fall_outside n stmts falls i = call_word (word_of stmts i) && ltb n (get_or falls (i * fall_entries) 0)

unfoldable pub frame_outside : ℕ → (stmts args falls lists succ : List ℕ) → (header node : ℕ) → Bool
frame_outside n stmts args falls lists succ h i =
    short_tables n (length stmts) (length args) (length falls) (length lists) || (part_outside lists succ h || (part_outside lists succ i || fall_outside n stmts falls i))

-- ---- the question: "3 (a bad name, place 0), then 24 (the header first), 25, 26, 28"; lines, n: the used counts of lines and statements

-- of the name with key k; "26 no statement .. at the path in a node's record"
unfoldable pub frame_in : (lines n : ℕ) (stmts args falls lists succ : List ℕ) → (header node key : ℕ) → Bool → (room : ℕ) → Reply (List ℕ)
frame_in lines n stmts args falls lists succ h i k flag room =
    pick (ltb h n)
    (pick (ltb i n)
    (pick (frame_outside n stmts args falls lists succ h i) (refused 25 0) (unless_refused (no_statement lines stmts n i) (if_room room (frame_read stmts args falls lists succ h i k flag))))
    (refused 24 i))
    (refused 24 h)

-- the name is judged whole and then cut (document 02, L2)
unfoldable pub frame_at : (lines n : ℕ) (stmts args falls lists succ : List ℕ) → (header node : ℕ) → Name → Bool → (room : ℕ) → Reply (List ℕ)
frame_at lines n stmts args falls lists succ h i v flag room = pick (is_name v) (frame_in lines n stmts args falls lists succ h i (name_key (cut_name v)) flag room) (refused 3 0)
