-- The nodes of a listing in reading order, where each falls, and the line entries (document 01, port order 2 and 3). Assumes nothing.
use Rattle.std.specs.Prelude.{ℕ, zero, suc, ◌+◌, List, [], ◌∷◌, ◌++◌, eqb}
use Rattle.std.proofs.Math.Option.{Option, none, some}
use Rattle.listings.specs.Bytes.{pick}
use Rattle.listings.specs.Listing.{Simple, CondWord, BranchForm, to, stmts, absent, Stmts, ∅, ◌▸◌, branching, Lines, nolines, line, size, len, total, count}
use Rattle.graph.specs.Lists.{each, list}

-- "A branch gives its target or first statement; an empty one falls"; one that is absent falls too
pub data BranchTarget : Type 0 where
  to_line to_node : ℕ → BranchTarget
  falls : BranchTarget

pub data NodeStmt : Type 0 where
  simple : Simple → NodeStmt
  cond : CondWord → BranchTarget → BranchTarget → NodeStmt

-- a node: line index from 0, line number, path, holder, statement, and where it falls
pub record Node : Type 0 where
  pub line : ℕ
  pub number : ℕ
  pub path : List ℕ
  pub holder : Option ℕ
  pub stmt : NodeStmt
  pub fall : Option ℕ

-- a branch whose first statement, if it has one, is node i
unfoldable pub branch_target : BranchForm → ℕ → Stmts → BranchTarget
branch_target (to n) i b = to_line n
branch_target stmts i ∅ = falls
branch_target stmts i (s ▸ o) = to_node i
branch_target stmts i (branching s w t a u b) = to_node i
branch_target absent i b = falls

-- The statements of a list on line li with number n: the first is node i, with the path p and then k; after the last comes e; v holds them.
-- "ids in reading order; an else branch's path numbers go on after the then statements, or from 0 if then is `to`".
-- "Each node's record gains its holder: the nearest `if`, `ifelse` or `rcomp` whose branch it stands in, or none."
-- "Falls means: to the next statement of the same list, from a branch's last to what follows its IF".
unfoldable pub allocate : (li n : ℕ) (p : List ℕ) (v : Option ℕ) (i k : ℕ) → Option ℕ → Stmts → List Node
unfolding size len branch_target
allocate li n p v i k e ∅ = []
allocate li n p v i k e (s ▸ o) =
    allocate li n p v i k (some (i + size s)) s
    ++ (record { line = li; number = n; path = p ++ ((k + len s) ∷ []); holder = v; stmt = simple o; fall = e } ∷ [])
allocate li n p v i k e (branching s w t a u b) =
    let j = i + size s in
    let q = p ++ ((k + len s) ∷ []) in
    allocate li n p v i k (some j) s
    ++ (record { line = li; number = n; path = q; holder = v; stmt = cond w (branch_target t (suc j) a) (branch_target u (suc j + size a) b); fall = e }
    ∷ (allocate li n q (some j) (suc j) 0 e a ++ allocate li n q (some j) (suc j + size a) (len a) e b))

-- "a line without statements takes the next line's entry": of a line whose first statement, if it has one, is node i; e is the next line's entry
unfoldable pub line_entry : ℕ → Stmts → Option ℕ → Option ℕ
line_entry i ∅ e = e
line_entry i (s ▸ o) e = some i
line_entry i (branching s w t a u b) e = some i

-- the nodes of lines after which comes e: "from a line's last to the next line's entry, or nowhere"
unfoldable pub nodes_before : Option ℕ → Lines → List Node
unfolding allocate line_entry total count
nodes_before e nolines = []
nodes_before e (line ls n s) = nodes_before (line_entry (total ls) s e) ls ++ allocate (count ls) n [] none (total ls) 0 e s

unfoldable pub nodes : Lines → List Node
unfolding nodes_before
nodes ls = nodes_before none ls

-- ---- line entries

-- a line's number and entry
abbrev pub LineEntry : Type 0
LineEntry = ℕ × Option ℕ

-- the line entries as the rules ask for them: by number, ascending; the first line's; all nodes that are entries, ascending
pub record Entries : Type 0 where
  pub rows : List LineEntry
  pub first : Option ℕ
  pub all : List ℕ

-- those of lines after which comes e: "entries ascending by line number", as the lines do
unfoldable pub entries_before : Option ℕ → Lines → List LineEntry
unfolding line_entry total
entries_before e nolines = []
entries_before e (line ls n s) = let d = line_entry (total ls) s e in entries_before d ls ++ ((n, d) ∷ [])

-- "RUN without number: the first line's entry"
unfoldable pub first_entry : List LineEntry → Option ℕ
first_entry [] = none
first_entry (d ∷ ds) = d.1

-- "`any`: all line entries, ascending": by node as by number, while the lines ascend
unfoldable pub all_entries : List LineEntry → List ℕ
all_entries ds = each (λ (d : LineEntry). list d.1) ds

unfoldable pub entries : Lines → Entries
unfolding entries_before first_entry all_entries
entries ls = let ds = entries_before none ls in record { rows = ds; first = first_entry ds; all = all_entries ds }

-- the entry of the line with number n, if there is such a line and it has one
unfoldable pub entry_in : List LineEntry → ℕ → Option ℕ
entry_in [] n = none
entry_in (d ∷ ds) n = pick (eqb d.0 n) d.1 (entry_in ds n)

abbrev pub entry_of : Entries → ℕ → Option ℕ
entry_of es n = entry_in es.rows n
