-- 0 is no refusal's number: the C functions return it for a graph, a right graph or an answer alone. Assumes nothing.
use Rattle.std.specs.Prelude.{ℕ, zero, suc, ◌+◌, ◌*◌, ◌<◌, ◌≡◌, refl, Bool, true, false, List, [], ◌∷◌, ltb, leb, length, get_or}
use Rattle.std.proofs.Math.Option.{Option, none, some}
use Rattle.std.proofs.Common.{arith}
use Rattle.listings.specs.Bytes.{same, pick}
use Rattle.listings.specs.Listing.{Listing, count}
use Rattle.listings.specs.Rows.{split, is_name}
use Rattle.listings.specs.Read.{start}
use Rattle.listings.specs.Records.{name_key}
use Rattle.listings.specs.Cut.{cut_name}
use Rattle.program_files.specs.Inputs.{meaning}
use Rattle.program_laws.specs.Accepted.{too_long, of_line, ended, foreign_byte, misses, program-numbers}
use Rattle.graph.specs.Build.{Capacity, Built, graph, refused as refused_build, built_of_answer, build, BuildNumber, of_input, of_lines, of_nodes, of_edges}
use Rattle.graph.specs.Print.{printed}
use Rattle.graph.specs.Check.{Verdict, right, wrong, is_graph_row, row_number, compared, against, checked}
use Rattle.graph_laws.specs.Theorems.{numbers}
use Rattle.graph_laws.specs.Numbers.{answer_number}
use Rattle.graph.specs.Questions.{Reply, answer, refused, if_room}
use Rattle.adjacency.specs.ListsAt.{list_at, successors_at, predecessors_at}
use Rattle.adjacency.specs.EntryAt.{node_in, entry_at}
use Rattle.statements.specs.StatementAt.{if_rows, record_outside, stmt_at, child_at, if_found, statement_from, path_statement, unless_refused, node_statement}
use Rattle.wiring.specs.Refusals.{NumberOf}
use Rattle.frame_lists.specs.FrameAt.{frame_outside, frame_read, frame_in, frame_at}
use Rattle.c_answers.specs.BuildNumbers.{number_of}
use Rattle.c_answers.specs.VerdictNumbers.{number_of as verdict_number}
use Rattle.c_answers.specs.QuestionNumbers.{code_of}

-- ---- a refusal's number is above 0

abbrev Numbered : {A : Type 0} → Reply A → Type 0
Numbered (answer a) = Unit {0}
Numbered (refused n p) = 0 < n

either : {A : Type 0} (P : A → Type 0) (t : Bool) (x y : A) → P x → P y → P (pick t x y)
either P true x y h g = h
either P false x y h g = g

given_above : (program : Bool) {n : ℕ} → NumberOf program n → 0 < n
given_above false h = omega arith
given_above true too_long = omega arith
given_above true (of_line h) = omega arith
given_above true ended = omega arith
given_above true foreign_byte = omega arith
given_above true misses = omega arith

above : (program : Bool) {n : ℕ} → BuildNumber (NumberOf program) n → 0 < n
above program (of_input h) = given_above program h
above program of_lines = omega arith
above program of_nodes = omega arith
above program of_edges = omega arith

-- a build's answer by a number of 0
told_graph : (program : Bool) (b : Built) → ((n p : ℕ) → b ≡ refused_build n p → BuildNumber (NumberOf program) n) → number_of b ≡ 0 → (L : Listing) × (b ≡ graph L)
unfolding number_of
told_graph program (graph L) h e = (L, refl)
told_graph program (refused_build n p) h e = absurd (omega (arith, above program (h n p refl)))

-- "0": the graph is in the tables
pub zero_graph : (c : Capacity) (t : List ℕ) → number_of (build c t) ≡ 0 → (L : Listing) × (build c t ≡ graph L)
zero_graph c t = told_graph false (build c t) (numbers c t)

-- the same of a saved program: "33, .. 34, .. 35" are above 0 too
pub zero-program : (c : Capacity) (f : List ℕ) → number_of (built_of_answer c (meaning true f)) ≡ 0 → (L : Listing) × (built_of_answer c (meaning true f) ≡ graph L)
zero-program c f = told_graph true (built_of_answer c (meaning true f)) (answer_number (NumberOf true) c (meaning true f) (program-numbers f))

-- ---- the check

abbrev Judged : Verdict → Type 0
Judged right = Unit {0}
Judged (wrong n p) = 0 < n

row_number_lem : (w : List ℕ) → 0 < row_number w
unfolding row_number
row_number_lem w = either (λ (n : ℕ). 0 < n) (is_graph_row w) 32 31 (omega arith) (omega arith)

compared-judged : (i : ℕ) (due given : List (List ℕ)) → Judged (compared i due given)
unfolding compared
compared-judged i [] [] = omega arith
compared-judged i (d ∷ []) [] = omega arith
compared-judged i (d ∷ e ∷ due) [] = omega arith
compared-judged i [] ((b ∷ w) ∷ []) = omega arith
compared-judged i (d ∷ []) ((b ∷ w) ∷ []) = omega arith
compared-judged i (d ∷ e ∷ due) ((b ∷ w) ∷ []) = omega arith
compared-judged i [] ([] ∷ []) = tt
compared-judged i (d ∷ []) ([] ∷ []) = tt
compared-judged i (d ∷ e ∷ due) ([] ∷ []) = omega arith
compared-judged i [] (w ∷ v ∷ ws) = row_number_lem w
compared-judged i (d ∷ []) (w ∷ v ∷ ws) = row_number_lem w
compared-judged i (d ∷ e ∷ due) (w ∷ v ∷ ws) = either Judged (same d w) _ _ (compared-judged (suc i) (e ∷ due) (v ∷ ws)) (row_number_lem w)

-- "0": the graph is right
pub zero-check : (c : Capacity) (t g : List ℕ) → verdict_number (checked c t g) ≡ 0 → checked c t g ≡ right
unfolding against verdict_number
zero-check c t g e = told (checked c t g) (judged (build c t) refl) e
  where
    judged : (b : Built) → build c t ≡ b → Judged (against b g)
    judged (graph L) q = compared-judged 0 (split 10 (printed L)) (split 10 g)
    judged (refused_build n p) q = above false (numbers c t n p q)

    told : (v : Verdict) → Judged v → verdict_number v ≡ 0 → v ≡ right
    told right h z = refl
    told (wrong n p) h z = absurd (omega arith)

-- ---- the questions

list-numbered : (counts lists : List ℕ) (size node start count : ℕ) → Numbered (list_at counts lists size node start count)
unfolding list_at
list-numbered counts lists size node start count =
    either Numbered (ltb node (get_or counts 1 0)) _ _
    (either Numbered (leb (get_or counts 1 0 * 4) (length lists)) _ _ (either Numbered (leb (start + count) size) (answer (start, count)) (refused 25 0) tt (omega arith)) (omega arith))
    (omega arith)

node_numbered : (nodes : ℕ) (x : Option ℕ) → Numbered (node_in nodes x)
unfolding node_in
node_numbered nodes none = tt
node_numbered nodes (some i) = either Numbered (ltb i nodes) (answer (some i)) (refused 25 0) tt (omega arith)

entry_numbered : (counts entries : List ℕ) (number : ℕ) → Numbered (entry_at counts entries number)
unfolding entry_at
entry_numbered counts entries number = either Numbered (leb (get_or counts 5 0 * 2) (length entries)) _ _ (node_numbered (get_or counts 1 0) _) (omega arith)

stmt_numbered : (stmts : List ℕ) (h : ℕ) → Numbered (stmt_at stmts h)
unfolding stmt_at
stmt_numbered stmts zero = omega arith
stmt_numbered stmts (suc i) = tt

found_numbered : (lines : ℕ) (stmts : List ℕ) (r : ℕ) (f : ℕ → Reply (ℕ × ℕ)) → ((k : ℕ) → Numbered (f k)) → Numbered (if_found lines stmts r f)
unfolding if_found
found_numbered lines stmts zero f h = omega arith
found_numbered lines stmts (suc i) f h = either Numbered (record_outside lines stmts i) (refused 25 0) (f (suc i)) (omega arith) (h (suc i))

from_numbered : (lines : ℕ) (stmts : List ℕ) (n line h : ℕ) (path : List ℕ) → Numbered (statement_from lines stmts n line h path)
unfolding statement_from
from_numbered lines stmts n line h [] = stmt_numbered stmts h
from_numbered lines stmts n line h (p ∷ path) = found_numbered lines stmts (child_at stmts n line h p) _ (λ k. from_numbered lines stmts n line k path)

rows_held : {A : Type 0} (n : ℕ) (stmts : List ℕ) (q : Reply A) → Numbered q → Numbered (if_rows n stmts q)
unfolding if_rows
rows_held n stmts q h = either Numbered (ltb (length stmts) (n * 12)) (refused 25 0) q (omega arith) h

unless_numbered : {A : Type 0} (c : ℕ) (q : Reply A) → Numbered q → Numbered (unless_refused c q)
unfolding unless_refused
unless_numbered zero q h = h
unless_numbered (suc c) q h = omega arith

path_numbered : (counts stmts : List ℕ) (line : ℕ) (path : List ℕ) → Numbered (path_statement counts stmts line path)
unfolding path_statement
path_numbered counts stmts line path =
    rows_held (get_or counts 1 0) stmts _ (either Numbered (ltb line (get_or counts 0 0)) _ _ (from_numbered (get_or counts 0 0) stmts (get_or counts 1 0) line 0 path) (omega arith))

statement_numbered : (counts stmts : List ℕ) (node : ℕ) → Numbered (node_statement counts stmts node)
unfolding node_statement
statement_numbered counts stmts node = either Numbered (ltb node (get_or counts 1 0)) _ _ (rows_held (get_or counts 1 0) stmts _ (unless_numbered _ _ tt)) (omega arith)

room_numbered : (room : ℕ) (l : List ℕ) → Numbered (if_room room l)
unfolding if_room
room_numbered room l = either Numbered (leb (length l) room) (answer l) (refused 28 (length l)) tt (omega arith)

frame_numbered : (lines n : ℕ) (stmts args falls lists succ : List ℕ) (header node : ℕ) (name : List ℕ) (flag : Bool) (room : ℕ) → Numbered (frame_at lines n stmts args falls lists succ header node name flag room)
unfolding frame_at frame_in
frame_numbered lines n stmts args falls lists succ header node name flag room =
    either Numbered (is_name name) _ _
    (either Numbered (ltb header n) _ _
    (either Numbered (ltb node n) _ _
    (either Numbered (frame_outside n stmts args falls lists succ header node) (refused 25 0) _ (omega arith) (unless_numbered _ _ (room_numbered room (frame_read stmts args falls lists succ header node (name_key (cut_name name)) flag))))
    (omega arith))
    (omega arith))
    (omega arith)

zero_answer : {A : Type 0} (q : Reply A) → Numbered q → code_of q ≡ 0 → (a : A) × (q ≡ answer a)
unfolding code_of
zero_answer (answer a) h e = (a, refl)
zero_answer (refused n p) h e = absurd (omega arith)

-- "0": the question is answered

pub zero-successors : (counts lists : List ℕ) (size node : ℕ) → code_of (successors_at counts lists size node) ≡ 0 → (d : ℕ × ℕ) × (successors_at counts lists size node ≡ answer d)
unfolding successors_at
zero-successors counts lists size node = zero_answer _ (list-numbered counts lists size node _ _)

pub zero-predecessors : (counts lists : List ℕ) (size node : ℕ) → code_of (predecessors_at counts lists size node) ≡ 0 → (d : ℕ × ℕ) × (predecessors_at counts lists size node ≡ answer d)
unfolding predecessors_at
zero-predecessors counts lists size node = zero_answer _ (list-numbered counts lists size node _ _)

pub zero_statement : (counts stmts : List ℕ) (node : ℕ) → code_of (node_statement counts stmts node) ≡ 0 → (d : ℕ × ℕ) × (node_statement counts stmts node ≡ answer d)
zero_statement counts stmts node = zero_answer _ (statement_numbered counts stmts node)

pub zero_path : (counts stmts : List ℕ) (line : ℕ) (path : List ℕ) → code_of (path_statement counts stmts line path) ≡ 0 → (d : ℕ × ℕ) × (path_statement counts stmts line path ≡ answer d)
zero_path counts stmts line path = zero_answer _ (path_numbered counts stmts line path)

pub zero_entry : (counts entries : List ℕ) (number : ℕ) → code_of (entry_at counts entries number) ≡ 0 → (x : Option ℕ) × (entry_at counts entries number ≡ answer x)
zero_entry counts entries number = zero_answer _ (entry_numbered counts entries number)

pub zero_frame : (lines n : ℕ) (stmts args falls lists succ : List ℕ) (header node : ℕ) (name : List ℕ) (flag : Bool) (room : ℕ)
    → code_of (frame_at lines n stmts args falls lists succ header node name flag room) ≡ 0 → (l : List ℕ) × (frame_at lines n stmts args falls lists succ header node name flag room ≡ answer l)
zero_frame lines n stmts args falls lists succ header node name flag room = zero_answer _ (frame_numbered lines n stmts args falls lists succ header node name flag room)
