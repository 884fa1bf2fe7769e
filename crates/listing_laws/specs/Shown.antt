-- What a reading has read so far, as rows, the limits that hold of it, and what each row that says something is. Assumes nothing.
use Rattle.std.specs.Prelude.{ℕ, suc, ◌+◌, ◌≤◌, ◌≡◌, List, [], ◌∷◌, ◌++◌, Bool, length}
use Rattle.std.proofs.Math.Option.{Option, none, some}
use Rattle.listings.specs.Listing.{BranchForm, Stmts, Lines, nolines, size, total, count}
use Rattle.listings.specs.Read.{OpenCond, Branches, no_branch, one_branch, two_branches, Position, begin, in_module, ended, in_stmts, in_cond, Reading, Outcome, taken, refused, number_of}
use Rattle.listings.specs.ListingText.{end_form, cond_text, branch_rows, stmt_rows, rows_of_lines, NumberOk, BranchOk, StmtsOk, last_number, Above, LinesOk, stmts_text, line_text, module_text}

-- ---- what was read, as rows

abbrev pub Branch : Type 0
Branch = BranchForm × Stmts

abbrev pub rows_of : Branch → List (List ℕ)
rows_of a = branch_rows a.0 (stmt_rows a.1)

unfoldable pub first_rows : Option Branch → List (List ℕ)
first_rows none = []
first_rows (some a) = rows_of a

unfoldable pub branches_rows : Branches → List (List ℕ)
branches_rows no_branch = []
branches_rows (one_branch a) = rows_of a
branches_rows (two_branches a b) = rows_of a ++ rows_of b

-- the open IFs, up to the row `(stmts` of each
unfoldable pub open_rows : List OpenCond → List (List ℕ)
open_rows [] = []
open_rows (f ∷ fs) = open_rows fs ++ (stmt_rows f.before ++ (cond_text f.word ∷ (first_rows f.first ++ (stmts_text ∷ []))))

-- a module with its closed lines, and the open line with these rows of it
abbrev pub line_shown : Bool → Lines → Option ℕ → List (List ℕ) → List (List ℕ)
line_shown h ls m ws = module_text h ∷ (rows_of_lines ls ++ (line_text (number_of m) ∷ ws))

unfoldable pub position_rows : Bool → Lines → Option ℕ → Position → List (List ℕ)
position_rows h ls m begin = []
position_rows h ls m in_module = module_text h ∷ rows_of_lines ls
position_rows h ls m ended = module_text h ∷ (rows_of_lines ls ++ (end_form ∷ []))
position_rows h ls m (in_stmts s fs) = line_shown h ls m (open_rows fs ++ stmt_rows s)
position_rows h ls m (in_cond s k bs fs) = line_shown h ls m (open_rows fs ++ (stmt_rows s ++ (cond_text k ∷ branches_rows bs)))

abbrev pub shown : Reading → Position → List (List ℕ)
shown r p = position_rows r.handlers r.lines r.last p

-- ---- what holds of it

unfoldable pub first_size : Option Branch → ℕ
first_size none = 0
first_size (some a) = size a.1

unfoldable pub branches_size : Branches → ℕ
branches_size no_branch = 0
branches_size (one_branch a) = size a.1
branches_size (two_branches a b) = size a.1 + size b.1

unfoldable pub open_size : List OpenCond → ℕ
open_size [] = 0
open_size (f ∷ fs) = open_size fs + size f.before + 1 + first_size f.first

unfoldable pub position_size : Position → ℕ
position_size begin = 0
position_size in_module = 0
position_size ended = 0
position_size (in_stmts s fs) = open_size fs + size s
position_size (in_cond s k bs fs) = open_size fs + size s + 1 + branches_size bs

-- whether a line is open
unfoldable pub open_lines : Position → ℕ
open_lines begin = 0
open_lines in_module = 0
open_lines ended = 0
open_lines (in_stmts s fs) = 1
open_lines (in_cond s k bs fs) = 1

-- a branch of an IF at depth d
abbrev pub ReadOk : ℕ → Branch → Type 0
ReadOk d a = BranchOk a.0 a.1 × StmtsOk (suc d) a.1

unfoldable pub FirstOk : ℕ → Option Branch → Type 0
FirstOk d none = Unit {0}
FirstOk d (some a) = ReadOk d a

unfoldable pub AllRead : ℕ → Branches → Type 0
AllRead d no_branch = Unit {0}
AllRead d (one_branch a) = ReadOk d a
AllRead d (two_branches a b) = ReadOk d a × ReadOk d b

unfoldable pub OpenOk : List OpenCond → Type 0
OpenOk [] = Unit {0}
OpenOk (f ∷ fs) = OpenOk fs × StmtsOk (length fs) f.before × (length fs ≤ 16) × FirstOk (length fs) f.first

-- the open line's number
abbrev pub NumberRead : Lines → Option ℕ → Type 0
NumberRead ls m = (m ≡ some (number_of m)) × NumberOk (number_of m) × Above (number_of m) (last_number ls)

unfoldable pub PositionOk : Lines → Option ℕ → Position → Type 0
PositionOk ls m begin = (m ≡ none) × (ls ≡ nolines)
PositionOk ls m in_module = m ≡ last_number ls
PositionOk ls m ended = Unit {0}
PositionOk ls m (in_stmts s fs) = NumberRead ls m × OpenOk fs × StmtsOk (length fs) s
PositionOk ls m (in_cond s k bs fs) = NumberRead ls m × OpenOk fs × StmtsOk (length fs) s × (length fs ≤ 16) × AllRead (length fs) bs

pub record Good (r : Reading) (p : Position) : Type 0 where
  pub lines : LinesOk r.lines
  pub line_sum : r.line_count ≡ count r.lines + open_lines p
  pub line_most : r.line_count ≤ 1024
  pub stmt_sum : r.stmt_count ≡ total r.lines + position_size p
  pub stmt_most : r.stmt_count ≤ 4096
  pub place : PositionOk r.lines r.last p

-- of an outcome: what holds of the reading and what it has read, if the row was taken
unfoldable pub Next : List (List ℕ) → Outcome Reading → Type 0
Next ws (taken q) = Good q q.position × (shown q q.position ≡ ws)
Next ws (refused n) = Unit {0}
