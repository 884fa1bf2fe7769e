-- What `flowask` writes for a text: of a listing with questions behind it one answer a row (docs/DECISIONS.md, "flowask"). Assumes nothing.
use Rattle.std.specs.Prelude.{ℕ, suc, List, [], ◌∷◌, ◌++◌, Bool, true, false, leb, length}
use Rattle.std.proofs.Math.Option.{Option, none, some}
use Rattle.listings.specs.Bytes.{bytes, same, pick}
use Rattle.listings.specs.Listing.{Name, Listing}
use Rattle.listings.specs.Rows.{split, Row, close, bad, form, row_of, lookup, Parse, malformed, map_parse, with_parse, parse_number, parse_numbers, or_malformed, single, handler_facts}
use Rattle.listings.specs.Read.{Outcome, taken, or_refused, check}
use Rattle.graph.specs.Lists.{list}
use Rattle.graph.specs.Print.{spaced, printed_refusal}
use Rattle.graph.specs.Build.{Capacity, Built, graph, build, limits}
use Rattle.graph.specs.Questions.{Reply, answer, ask_successors, ask_predecessors, ask_statement, ask_path, ask_entry, ask_frame}

-- ---- what a row asks

pub data Question : Type 0 where
  of_successors of_predecessors of_statement of_entry : ℕ → Question
  of_path : (line : ℕ) (path : List ℕ) → Question
  of_frame : (header node : ℕ) → Name → Bool → Question

-- what follows the opening word: one number, or the words of `path` or of `frame`
pub data QuestionForm : Type 0 where
  by_number : (ℕ → Question) → QuestionForm
  by_path by_frame : QuestionForm

unfoldable pub question_words : List (List ℕ × QuestionForm)
question_words =
    (bytes "successors", by_number of_successors) ∷ (bytes "predecessors", by_number of_predecessors) ∷ (bytes "statement", by_number of_statement)
    ∷ (bytes "entry", by_number of_entry) ∷ (bytes "path", by_path) ∷ (bytes "frame", by_frame) ∷ []

-- `(path L N ..)`: a line index and numbers
unfoldable pub path_question : List (List ℕ) → Parse Question
path_question [] = malformed
path_question (l ∷ ws) = with_parse of_path (parse_number l) (parse_numbers ws)

-- `(frame H N V F)`: any word may stand for the name, which the question itself judges; an F other than 0 or 1 is 2, as such an H of `(module H` is
unfoldable pub frame_question : List (List ℕ) → Parse Question
frame_question [] = malformed
frame_question (h ∷ []) = malformed
frame_question (h ∷ i ∷ []) = malformed
frame_question (h ∷ i ∷ v ∷ []) = malformed
frame_question (h ∷ i ∷ v ∷ f ∷ []) =
    with_parse (λ (d : ℕ × ℕ) (flag : Bool). of_frame d.0 d.1 v flag) (with_parse (λ a b. (a, b)) (parse_number h) (parse_number i)) (or_malformed (lookup handler_facts f))
frame_question (h ∷ i ∷ v ∷ f ∷ w ∷ ws) = malformed

unfoldable pub form_question : QuestionForm → List (List ℕ) → Parse Question
form_question (by_number q) ws = map_parse q (single ws)
form_question by_path ws = path_question ws
form_question by_frame ws = frame_question ws

unfoldable pub word_question : Option QuestionForm → List (List ℕ) → Parse Question
word_question none ws = malformed
word_question (some h) ws = form_question h ws

-- a question is closed on its row
unfoldable pub row_question : Row → Parse Question
row_question bad = malformed
row_question close = malformed
row_question (form false w ws) = malformed
row_question (form true w ws) = word_question (lookup question_words w) ws

-- how many numbers a path has
unfoldable pub path_length : Question → ℕ
path_length (of_successors n) = 0
path_length (of_predecessors n) = 0
path_length (of_statement n) = 0
path_length (of_entry n) = 0
path_length (of_path l p) = length p
path_length (of_frame h i v f) = 0

-- "8 a 65th number"
unfoldable pub short : Question → Outcome Question
short q = check (leb (path_length q) 64) 8 (taken q)

-- a row's question, or its refusal: 2, 3 or 8
unfoldable pub question : List ℕ → Outcome Question
question w = or_refused (row_question (row_of w)) short

-- ---- an answer's row

-- a word, and each number after a space
unfoldable pub list_row : List ℕ → List ℕ → List ℕ
list_row w l = w ++ spaced l ++ bytes ")\n"

-- "a statement is answered by its node id and opening word"
unfoldable pub stmt_row : ℕ → List ℕ → List ℕ
stmt_row i w = bytes "(statement" ++ spaced (i ∷ []) ++ (32 ∷ w) ++ bytes ")\n"

-- the row of an answer, or that of its refusal
unfoldable pub reply_row : {A : Type 0} → (A → List ℕ) → Reply A → List ℕ
reply_row f (answer a) = f a
reply_row f (Reply.refused n p) = printed_refusal n p

-- no frame list has more than 4,096 nodes, so that 28 is never met here
unfoldable pub answer_row : Listing → Question → List ℕ
answer_row L (of_successors i) = reply_row (list_row (bytes "(successors")) (ask_successors L i)
answer_row L (of_predecessors i) = reply_row (list_row (bytes "(predecessors")) (ask_predecessors L i)
answer_row L (of_statement i) = reply_row (λ d. stmt_row d.0 d.1) (ask_statement L i)
answer_row L (of_entry n) = reply_row (λ e. list_row (bytes "(entry") (list e)) (ask_entry L n)
answer_row L (of_path l p) = reply_row (λ d. stmt_row d.0 d.1) (ask_path L l p)
answer_row L (of_frame h i v flag) = reply_row (list_row (bytes "(frame")) (ask_frame L h i v flag 4096)

-- ---- the rows of questions

-- row k of the questions: f answers
unfoldable pub outcome_row : (Question → List ℕ) → ℕ → Outcome Question → List ℕ
outcome_row f k (taken q) = f q
outcome_row f k (Outcome.refused n) = printed_refusal n k

unfoldable pub row_answer : (Question → List ℕ) → ℕ → List ℕ → List ℕ
row_answer f k w = outcome_row f k (question w)

-- after the closing `)` nothing may stand; k: the row that would stand there
unfoldable pub ending : ℕ → List (List ℕ) → List ℕ
ending k [] = []
ending k ([] ∷ []) = []
ending k ([] ∷ w ∷ ws) = printed_refusal 2 k
ending k ((b ∷ w) ∷ ws) = printed_refusal 2 k

-- the rows from number k on, and the piece behind the last byte 10: there the `)` is missing
unfoldable pub answer_rows : (Question → List ℕ) → ℕ → List (List ℕ) → List ℕ
answer_rows f k [] = printed_refusal 2 k
answer_rows f k (w ∷ []) = printed_refusal 2 k
answer_rows f k (w ∷ v ∷ ws) =
    let r = answer_rows f (suc k) (v ∷ ws) in
    pick (same w (bytes ")")) (ending (suc k) (v ∷ ws)) (row_answer f k w ++ r)

-- ---- the whole text

-- the listing before the first row `(questions`, and the pieces after that row, if there is one
unfoldable pub parts : List (List ℕ) → List ℕ × Option (List (List ℕ))
parts [] = ([], none)
parts (w ∷ []) = (w, none)
parts (w ∷ v ∷ ws) =
    let r = parts (v ∷ ws) in
    pick (same w (bytes "(questions")) ([], some (v ∷ ws)) (w ++ (10 ∷ r.0), r.1)

-- "A refusal prints only" its number and place
unfoldable pub answers : Built → Option (List (List ℕ)) → List ℕ
answers (graph L) none = []
answers (graph L) (some ws) = answer_rows (answer_row L) 0 ws
answers (Built.refused n p) q = printed_refusal n p

-- with tables of this capacity
unfoldable pub ask_text : Capacity → List ℕ → List ℕ
ask_text c t = let d = parts (split 10 t) in answers (build c d.0) d.1

-- "28 .. longer than the slice lent for it": of all answers together; none is written then but this row, so that nothing is lost silently.
-- The place is the room that there is: who asks can ask less at a time.
unfoldable pub in_room : (room : ℕ) → List ℕ → List ℕ
in_room room l = pick (leb (length l) room) l (printed_refusal 28 room)

-- "1 text too long (place 0, before all else)": here of the whole text, listing and questions
unfoldable pub flowask : List ℕ → List ℕ
flowask t = pick (leb (length t) 262144) (in_room 2097152 (ask_text limits t)) (printed_refusal 1 0)
