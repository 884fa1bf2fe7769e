-- A text as a listing, or its refusal (document 01, "Refused because of the input"). Assumes nothing.
-- Rows are read one after the other, each judged by where it stands; "the first bad row decides; within it, the lowest number".
use Rattle.std.specs.Prelude.{ℕ, suc, List, [], ◌∷◌, Bool, true, false, ltb, leb, length}
use Rattle.std.proofs.Math.Option.{Option, none, some}
use Rattle.listings.specs.Bytes.{pick}
use Rattle.listings.specs.Listing.{CondWord, if, ifelse, rcomp, BranchForm, Stmts, ∅, ◌▸◌, branching, Lines, nolines, line, Listing}
use Rattle.listings.specs.Rows.{split, row_of, Parse, malformed, invalid, parsed, refusal_of, Counted, Content, no_form, end_row, stmts_row, module_row, line_row, to_row, simple_row, cond_row, content_of}

-- ---- where a row stands

-- an IF, IFELSE or RCOMP in one of whose `(stmts` the next row stands: the statements before it in its list, its word, the branch before, if any
pub record OpenCond : Type 0 where
  pub before : Stmts
  pub word : CondWord
  pub first : Option (BranchForm × Stmts)

-- the branches that were read of an IF, IFELSE or RCOMP
pub data Branches : Type 0 where
  no_branch : Branches
  one_branch : BranchForm × Stmts → Branches
  two_branches : BranchForm × Stmts → BranchForm × Stmts → Branches

-- in a list of statements, those read of it and the open IFs around it, innermost first; or between the branches of one
pub data Position : Type 0 where
  begin in_module ended : Position
  in_stmts : Stmts → List OpenCond → Position
  in_cond : Stmts → CondWord → Branches → List OpenCond → Position

-- what was read: the lines that are closed, the number of the open or last line, lines and statements begun, and where the next row stands
pub record Reading : Type 0 where
  pub handlers : Bool
  pub lines : Lines
  pub last : Option ℕ
  pub line_count : ℕ
  pub stmt_count : ℕ
  pub position : Position

unfoldable pub start : Reading
start = record { handlers = false; lines = nolines; last = none; line_count = 0; stmt_count = 0; position = begin }

unfoldable pub go_to : Reading → Position → Reading
go_to r p = record { handlers = r.handlers; lines = r.lines; last = r.last; line_count = r.line_count; stmt_count = r.stmt_count; position = p }

-- one statement more
unfoldable pub one_more : Reading → Position → Reading
one_more r p = record { handlers = r.handlers; lines = r.lines; last = r.last; line_count = r.line_count; stmt_count = suc r.stmt_count; position = p }

-- ---- a row, where it stands

pub data Outcome (A : Type 0) : Type 0 where
  taken : A → Outcome A
  refused : ℕ → Outcome A

-- 2 and 3 are given before the later numbers
unfoldable pub or_refused : {A B : Type 0} → Parse A → (A → Outcome B) → Outcome B
or_refused {A} malformed f = refused (refusal_of {A = A} malformed)
or_refused {A} invalid f = refused (refusal_of {A = A} invalid)
or_refused (parsed a) f = f a

-- refused by n unless the test passes
unfoldable pub check : {A : Type 0} → Bool → ℕ → Outcome A → Outcome A
check true n o = o
check false n o = refused n

unfoldable pub at_begin : Reading → Content → Outcome Reading
at_begin r no_form = refused 2
at_begin r end_row = refused 2
at_begin r stmts_row = refused 2
at_begin r (module_row h) = taken (record { handlers = h; lines = r.lines; last = r.last; line_count = r.line_count; stmt_count = r.stmt_count; position = in_module })
at_begin r (line_row n) = refused 2
at_begin r (to_row n) = refused 2
at_begin r (simple_row o) = refused 2
at_begin r (cond_row k) = refused 2

unfoldable pub ascends : ℕ → Option ℕ → Bool
ascends n none = true
ascends n (some m) = ltb m n

-- `(line N`: "4 line number not above the last. 5 line 1,025."
unfoldable pub read_line : Reading → ℕ → Outcome Reading
read_line r n =
    check (ascends n r.last) 4 (check (ltb r.line_count 1024) 5
    (taken (record { handlers = r.handlers; lines = r.lines; last = some n; line_count = suc r.line_count; stmt_count = r.stmt_count; position = in_stmts ∅ [] })))

unfoldable pub at_module : Reading → Content → Outcome Reading
at_module r no_form = refused 2
at_module r end_row = taken (go_to r ended)
at_module r stmts_row = refused 2
at_module r (module_row h) = refused 2
at_module r (line_row n) = or_refused n (read_line r)
at_module r (to_row n) = refused 2
at_module r (simple_row o) = refused 2
at_module r (cond_row k) = refused 2

-- a statement's row: "6 statement 4,097. 7 a statement at depth 17. 8 a 65th number or slot."
unfoldable pub read_simple : Reading → Stmts → List OpenCond → Counted → Outcome Reading
read_simple r s fs d =
    check (ltb r.stmt_count 4096) 6 (check (leb (length fs) 16) 7 (check (leb d.1 64) 8 (taken (one_more r (in_stmts (s ▸ d.0) fs)))))

unfoldable pub read_cond : Reading → Stmts → List OpenCond → CondWord → Outcome Reading
read_cond r s fs k =
    check (ltb r.stmt_count 4096) 6 (check (leb (length fs) 16) 7 (taken (one_more r (in_cond s k no_branch fs))))

unfoldable pub number_of : Option ℕ → ℕ
number_of none = 0
number_of (some n) = n

-- a branch after the one before it, if any
unfoldable pub branched : Option (BranchForm × Stmts) → BranchForm × Stmts → Branches
branched none b = one_branch b
branched (some a) b = two_branches a b

-- `)` after statements: the end of a branch, or of a line
unfoldable pub end_stmts : Reading → Stmts → List OpenCond → Reading
end_stmts r s (f ∷ fs) = go_to r (in_cond f.before f.word (branched f.first (BranchForm.stmts, s)) fs)
end_stmts r s [] = record { handlers = r.handlers; lines = line r.lines (number_of r.last) s; last = r.last; line_count = r.line_count; stmt_count = r.stmt_count; position = in_module }

unfoldable pub at_stmts : Reading → Stmts → List OpenCond → Content → Outcome Reading
at_stmts r s fs no_form = refused 2
at_stmts r s fs end_row = taken (end_stmts r s fs)
at_stmts r s fs stmts_row = refused 2
at_stmts r s fs (module_row h) = refused 2
at_stmts r s fs (line_row n) = refused 2
at_stmts r s fs (to_row n) = refused 2
at_stmts r s fs (simple_row o) = or_refused o (read_simple r s fs)
at_stmts r s fs (cond_row k) = read_cond r s fs k

-- may a branch follow, and after which: "`(if` holds one branch, `(ifelse` two, `(rcomp` one or two"
pub data NextBranch : Type 0 where
  no_more : NextBranch
  may_follow : Option (BranchForm × Stmts) → NextBranch

unfoldable pub next_branch : CondWord → Branches → NextBranch
next_branch k no_branch = may_follow none
next_branch if (one_branch a) = no_more
next_branch ifelse (one_branch a) = may_follow (some a)
next_branch rcomp (one_branch a) = may_follow (some a)
next_branch k (two_branches a b) = no_more

-- `)` after branches: the whole statement, where it has the branches that it must have
unfoldable pub cond_stmt : Stmts → CondWord → Branches → Option Stmts
cond_stmt s k no_branch = none
cond_stmt s if (one_branch a) = some (branching s if a.0 a.1 BranchForm.absent ∅)
cond_stmt s ifelse (one_branch a) = none
cond_stmt s rcomp (one_branch a) = some (branching s rcomp a.0 a.1 BranchForm.absent ∅)
cond_stmt s if (two_branches a b) = none
cond_stmt s ifelse (two_branches a b) = some (branching s ifelse a.0 a.1 b.0 b.1)
cond_stmt s rcomp (two_branches a b) = some (branching s rcomp a.0 a.1 b.0 b.1)

unfoldable pub end_cond : Reading → List OpenCond → Option Stmts → Outcome Reading
end_cond r fs none = refused 2
end_cond r fs (some s) = taken (go_to r (in_stmts s fs))

unfoldable pub read_to : Reading → Stmts → CondWord → List OpenCond → NextBranch → Parse ℕ → Outcome Reading
read_to r s k fs no_more n = refused 2
read_to r s k fs (may_follow a) n = or_refused n λ m. taken (go_to r (in_cond s k (branched a (BranchForm.to m, ∅)) fs))

unfoldable pub read_stmts : Reading → Stmts → CondWord → List OpenCond → NextBranch → Outcome Reading
read_stmts r s k fs no_more = refused 2
read_stmts r s k fs (may_follow a) = taken (go_to r (in_stmts ∅ (record { before = s; word = k; first = a } ∷ fs)))

unfoldable pub at_cond : Reading → Stmts → CondWord → Branches → List OpenCond → Content → Outcome Reading
at_cond r s k bs fs no_form = refused 2
at_cond r s k bs fs end_row = end_cond r fs (cond_stmt s k bs)
at_cond r s k bs fs stmts_row = read_stmts r s k fs (next_branch k bs)
at_cond r s k bs fs (module_row h) = refused 2
at_cond r s k bs fs (line_row n) = refused 2
at_cond r s k bs fs (to_row n) = read_to r s k fs (next_branch k bs) n
at_cond r s k bs fs (simple_row o) = refused 2
at_cond r s k bs fs (cond_row w) = refused 2

unfoldable pub read_row : Reading → Position → Content → Outcome Reading
read_row r begin d = at_begin r d
read_row r in_module d = at_module r d
read_row r ended d = refused 2
read_row r (in_stmts s fs) d = at_stmts r s fs d
read_row r (in_cond s k bs fs) d = at_cond r s k bs fs d

-- ---- the whole text

pub data Answer : Type 0 where
  listing : Listing → Answer
  refusal : (number place : ℕ) → Answer

-- the piece after the last byte 10: "2 .. or the text ends early (place: the row due, or the one not ended by byte 10)"
unfoldable pub finish : Reading → ℕ → Position → List ℕ → Answer
finish r i ended [] = listing (record { handlers = r.handlers; lines = r.lines })
finish r i ended (b ∷ l) = refusal 2 i
finish r i begin l = refusal 2 i
finish r i in_module l = refusal 2 i
finish r i (in_stmts s fs) l = refusal 2 i
finish r i (in_cond s k bs fs) l = refusal 2 i

-- "Rows count from 0 and are the place": the rows from number i on, and the piece after them
unfoldable pub read_rows : Reading → ℕ → List (List ℕ) → Answer
read_rows r i [] = refusal 2 i
read_rows r i (w ∷ []) = finish r i r.position w
read_rows r i (w ∷ v ∷ ws) = elim (read_row r r.position (content_of (row_of w))) [ refused n ↦ refusal n i | taken q ↦ read_rows q (suc i) (v ∷ ws) ]

-- "1 text too long (place 0, before all else)"
unfoldable pub read : List ℕ → Answer
read t = pick (leb (length t) 65536) (read_rows start 0 (split 10 t)) (refusal 1 0)
