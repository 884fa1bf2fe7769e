-- The statement at a path and the statement of a node, read from any tables. Assumes nothing.
use Rattle.std.specs.Prelude.{ℕ, zero, suc, ◌*◌, List, [], ◌∷◌, Bool, false, ◌||◌, eqb, ltb, leb, length, get_or}
use Rattle.listings.specs.Bytes.{pick}
use Rattle.layout.specs.Layout.{if_word, ifelse_word, rcomp_word, stmt_entries}
use Rattle.tables.specs.Columns.{word_of, holder_of, index_of, line_of}
use Rattle.graph.specs.Questions.{Reply, answer, refused}
use Rattle.statements.specs.StatementWords.{no_statement_word}

-- "25 a used count or a record that the call reads points outside its table (place 0)": n statements, each with its entries
unfoldable pub if_rows : {A : Type 0} → ℕ → List ℕ → Reply A → Reply A
if_rows n stmts r = pick (ltb (length stmts) (n * stmt_entries)) (refused 25 0) r

-- and the record of node i: its word opens no statement, or its line index is none of so many lines
unfoldable pub record_outside : (lines : ℕ) (stmts : List ℕ) (i : ℕ) → Bool
record_outside lines stmts i = no_statement_word (word_of stmts i) || leb lines (line_of stmts i)

-- `(if`, `(ifelse` and `(rcomp` alone hold statements
unfoldable pub branching_word : ℕ → Bool
branching_word w = eqb w if_word || (eqb w ifelse_word || eqb w rcomp_word)

-- ---- down a path

-- h holds a node with line index l: h is one more than an IF, or 0 for the line
unfoldable pub held_in : (stmts : List ℕ) (line l h : ℕ) → Bool
held_in stmts line l zero = eqb l line
held_in stmts line l (suc j) = branching_word (word_of stmts j)

-- node i is number p of what h holds
unfoldable pub stands_at : (stmts : List ℕ) (line h p i : ℕ) → Bool
stands_at stmts line h p i = pick (eqb (holder_of stmts i) h) (pick (eqb (index_of stmts i) p) (held_in stmts line (line_of stmts i) h) false) false

-- one more than the first of the k nodes from i on that passes the test, or 0
unfoldable pub first_from : (ℕ → Bool) → (k i : ℕ) → ℕ
first_from t zero i = 0
first_from t (suc k) i = pick (t i) (suc i) (first_from t k (suc i))

unfoldable pub child_at : (stmts : List ℕ) (n line h p : ℕ) → ℕ
child_at stmts n line h p = first_from (stands_at stmts line h p) n 0

-- "26 no statement at the path asked": h is one more than a node, or 0
unfoldable pub stmt_at : List ℕ → ℕ → Reply (ℕ × ℕ)
stmt_at stmts zero = refused 26 0
stmt_at stmts (suc i) = answer (i, word_of stmts i)

-- on from the node found, if there is one; its record is read first
unfoldable pub if_found : (lines : ℕ) (stmts : List ℕ) → ℕ → (ℕ → Reply (ℕ × ℕ)) → Reply (ℕ × ℕ)
if_found lines stmts zero f = refused 26 0
if_found lines stmts (suc i) f = pick (record_outside lines stmts i) (refused 25 0) (f (suc i))

-- by each number to what the node found so far holds
unfoldable pub statement_from : (lines : ℕ) (stmts : List ℕ) (n line h : ℕ) → List ℕ → Reply (ℕ × ℕ)
statement_from lines stmts n line h [] = stmt_at stmts h
statement_from lines stmts n line h (p ∷ ps) = if_found lines stmts (child_at stmts n line h p) (λ k. statement_from lines stmts n line k ps)

-- "A path is a line index and numbers": no line, no statement
unfoldable pub path_statement : (counts stmts : List ℕ) (line : ℕ) (path : List ℕ) → Reply (ℕ × ℕ)
path_statement counts stmts line path =
    if_rows (get_or counts 1 0) stmts (pick (ltb line (get_or counts 0 0)) (statement_from (get_or counts 0 0) stmts (get_or counts 1 0) line 0 path) (refused 26 0))

-- ---- "the path in a node's record"

-- document 01's number if a record with that holder gives no path, else 0: up from holder to holder, at most k of them.
-- A holder that is none of n nodes, or whose record points outside, is 25; one that holds no statements is 26, and so is one too many.
unfoldable pub climb : (lines : ℕ) (stmts : List ℕ) (n k holder : ℕ) → ℕ
climb lines stmts n zero zero = 0
climb lines stmts n zero (suc h) = pick (ltb h n) (pick (record_outside lines stmts h) 25 26) 25
climb lines stmts n (suc k) zero = 0
climb lines stmts n (suc k) (suc h) =
    pick (ltb h n) (pick (record_outside lines stmts h) 25 (pick (branching_word (word_of stmts h)) (climb lines stmts n k (holder_of stmts h)) 26)) 25

-- the same of node i, whose own record is read first; "depth 16 is accepted": so many IFs can hold a statement
unfoldable pub no_statement : (lines : ℕ) (stmts : List ℕ) (n i : ℕ) → ℕ
no_statement lines stmts n i = pick (record_outside lines stmts i) 25 (climb lines stmts n 16 (holder_of stmts i))

-- the same of any node of any table: 25 where n statements have no record of it there
unfoldable pub no_statement_in : (lines : ℕ) (stmts : List ℕ) (n i : ℕ) → ℕ
no_statement_in lines stmts n i = pick (ltb i n) (pick (ltb (length stmts) (n * stmt_entries)) 25 (no_statement lines stmts n i)) 25

-- 0 is no refusal
unfoldable pub unless_refused : {A : Type 0} → ℕ → Reply A → Reply A
unless_refused zero r = r
unless_refused (suc c) r = refused (suc c) 0

-- whether there is a refusal, and nothing else is answered
abbrev pub refused_by : ℕ → Reply (Unit {0})
refused_by c = unless_refused c (answer tt)

-- "24 node id not below the node count (place: the id)"
unfoldable pub node_statement : (counts stmts : List ℕ) (i : ℕ) → Reply (ℕ × ℕ)
node_statement counts stmts i =
    pick (ltb i (get_or counts 1 0))
    (if_rows (get_or counts 1 0) stmts (unless_refused (no_statement (get_or counts 0 0) stmts (get_or counts 1 0) i) (answer (i, word_of stmts i))))
    (refused 24 i)
