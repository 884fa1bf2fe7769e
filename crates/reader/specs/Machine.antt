-- The row machine on numbers: the state that stands for a reading, and each step of it. Assumes nothing.
use Rattle.std.specs.Prelude.{ℕ, ◌+◌, ◌*◌, ◌-◌, ◌/◌, ◌%◌, List, [], ◌∷◌, Bool, true, eqb, leb, ltb, length, ◌≡◌, Option as Maybe, Some, None, Result, Ok, Err}
use Rattle.std.proofs.Math.Option.{Option, none, some}
use Rattle.listings.specs.Bytes.{pick}
use Rattle.listings.specs.Listing.{BranchForm, Stmts}
use Rattle.listings.specs.Read.{OpenCond, Branches, no_branch, one_branch, two_branches, Position, begin, in_module, ended, in_stmts, in_cond, Reading, Outcome, taken, refused}
use Rattle.tokens.specs.Kinds.{as_cond}
use Rattle.reader.specs.CodedRows.{place_number, cond_index, cond_by, cond_number, Said}
use Rattle.reader.specs.declared.rows.Position.{Position as Place}
use Rattle.reader.specs.declared.rows.Position.TheVariants as at
use Rattle.tokens.specs.declared.words.Cond.{Cond}
use Rattle.tokens.specs.declared.words.Cond.TheVariants as cond
use Rattle.reader.specs.declared.rows.Misfit.{Misfit}
use Rattle.reader.specs.declared.rows.Row.TheVariants as row
use Rattle.layout.specs.Refusals.{number_of}
use Rattle.layout.specs.declared.refusals.Reason.{Reason}
use Rattle.layout.specs.declared.refusals.Reason.TheVariants as reason
use Rattle.tokens.specs.Numbers.{ascends}

-- ---- the state that stands for a reading

-- what the machine keeps
pub record State : Type 0 where
  pub position : Place
  pub handlers : Bool
  pub last : Maybe ℕ
  pub lines : ℕ
  pub stmts : ℕ
  pub depth : ℕ
  pub open_conds : ℕ
  pub word : Cond
  pub branches : ℕ

-- in how many branches its next row stands at most: one fewer where an IF's own branches are due
abbrev pub deepest : Place → ℕ
deepest p = pick (eqb (place_number p) 4) 16 17

-- the last line's number
unfoldable pub last_code : Option ℕ → Maybe ℕ
last_code none = None
last_code (some n) = Some n

-- whether a branch was read before the one in which the next row stands
unfoldable pub first_code : Option (BranchForm × Stmts) → ℕ
first_code none = 0
first_code (some a) = 1

-- an open IF as a digit to the base 8: twice its word's number, and 1 in a second branch
unfoldable pub cond_code : OpenCond → ℕ
unfolding first_code
cond_code f = cond_number f.word * 2 + first_code f.first

-- the open IFs, the innermost lowest
unfoldable pub packed : List OpenCond → ℕ
packed [] = 0
packed (f ∷ fs) = cond_code f + 8 * packed fs

unfoldable pub branch_count : Branches → ℕ
branch_count no_branch = 0
branch_count (one_branch a) = 1
branch_count (two_branches a b) = 2

unfoldable pub position_code : Position → Place
position_code begin = at.Begin
position_code in_module = at.InModule
position_code ended = at.Ended
position_code (in_stmts s fs) = at.InStmts
position_code (in_cond s k bs fs) = at.InCond

unfoldable pub open_conds : Position → List OpenCond
open_conds begin = []
open_conds in_module = []
open_conds ended = []
open_conds (in_stmts s fs) = fs
open_conds (in_cond s k bs fs) = fs

-- of the IF whose branches are due: its word, and how many branches were read
unfoldable pub word_code : Position → Cond
word_code begin = cond.If
word_code in_module = cond.If
word_code ended = cond.If
word_code (in_stmts s fs) = cond.If
word_code (in_cond s k bs fs) = as_cond k

unfoldable pub branch_code : Position → ℕ
branch_code begin = 0
branch_code in_module = 0
branch_code ended = 0
branch_code (in_stmts s fs) = 0
branch_code (in_cond s k bs fs) = branch_count bs

unfoldable pub state_at : Reading → Position → State
state_at r p = record {
  position = position_code p;
  handlers = r.handlers;
  last = last_code r.last;
  lines = r.line_count;
  stmts = r.stmt_count;
  depth = length (open_conds p);
  open_conds = packed (open_conds p);
  word = word_code p;
  branches = branch_code p;
}

unfoldable pub as_state : Reading → State
as_state r = state_at r r.position

-- what the machine makes of a row, or why the row is refused
abbrev pub Step : Type 0
Step = Result State Reason

-- the step that a routine made: the state that it left, or why the row is refused
abbrev pub stepped : Result (Unit {0}) Reason → State → Step
stepped (Ok u) s = Ok s
stepped (Err r) s = Err r

-- the same by the papers' number
abbrev pub numbered_step : Step → Result State ℕ
numbered_step (Ok s) = Ok s
numbered_step (Err r) = Err (number_of r)

unfoldable pub as_step : Outcome Reading → Result State ℕ
as_step (taken r) = Ok (as_state r)
as_step (refused n) = Err n

pub taken_is : (x : Step) (s : State) → numbered_step x ≡ Ok s → x ≡ Ok s
taken_is (Ok t) s e = let z : t ≡ s = cc in cc
taken_is (Err r) s e = cc

-- ---- the steps

-- whether a row is due
abbrev pub due : Bool → Result (Unit {0}) Reason
due t = pick t (Ok tt) (Err reason.NotAForm)

-- whether there is room for one statement more
abbrev pub room : State → Result (Unit {0}) Reason
room s = pick (ltb s.stmts 4096) (pick (leb s.depth 16) (Ok tt) (Err reason.TooDeep)) (Err reason.TooManyStatements)

-- outside of all lines
abbrev pub outside : State → Place → State
outside s p = record { position = p; handlers = s.handlers; last = s.last; lines = s.lines; stmts = s.stmts; depth = 0; open_conds = 0; word = cond.If; branches = 0 }

-- at another position, as deep as before
abbrev pub moved : State → Place → Cond → ℕ → State
moved s p w b = record { position = p; handlers = s.handlers; last = s.last; lines = s.lines; stmts = s.stmts; depth = s.depth; open_conds = s.open_conds; word = w; branches = b }

-- with one statement more
abbrev pub one_more : State → Place → Cond → State
one_more s p w = record { position = p; handlers = s.handlers; last = s.last; lines = s.lines; stmts = s.stmts + 1; depth = s.depth; open_conds = s.open_conds; word = w; branches = 0 }

abbrev pub step_module : State → Bool → Step
step_module s h = pick (eqb (place_number s.position) 0) (Ok (record { position = at.InModule; handlers = h; last = s.last; lines = s.lines; stmts = s.stmts; depth = 0; open_conds = 0; word = cond.If; branches = 0 })) (Err reason.NotAForm)

abbrev pub step_line : State → ℕ → Step
step_line s n =
    pick (eqb (place_number s.position) 1)
    (pick (ascends s.last n)
    (pick (ltb s.lines 1024)
    (Ok (record { position = at.InStmts; handlers = s.handlers; last = Some n; lines = s.lines + 1; stmts = s.stmts; depth = 0; open_conds = 0; word = cond.If; branches = 0 }))
    (Err reason.TooManyLines))
    (Err reason.LineOrder))
    (Err reason.NotAForm)

abbrev pub step_simple : State → ℕ → Step
step_simple s n =
    pick (eqb (place_number s.position) 3)
    (pick (ltb s.stmts 4096)
    (pick (leb s.depth 16)
    (pick (leb n 64)
    (Ok (one_more s at.InStmts cond.If))
    (Err reason.TooWide))
    (Err reason.TooDeep))
    (Err reason.TooManyStatements))
    (Err reason.NotAForm)

abbrev pub step_cond : State → Cond → Step
step_cond s k =
    pick (eqb (place_number s.position) 3)
    (pick (ltb s.stmts 4096)
    (pick (leb s.depth 16)
    (Ok (one_more s at.InCond k))
    (Err reason.TooDeep))
    (Err reason.TooManyStatements))
    (Err reason.NotAForm)

-- may one more branch follow
abbrev pub may_branch : Cond → ℕ → Bool
may_branch cond.If b = eqb b 0
may_branch cond.IfElse b = ltb b 2
may_branch cond.Rcomp b = ltb b 2

-- are the branches all that the word must have
abbrev pub is_complete : Cond → ℕ → Bool
is_complete cond.If b = eqb b 1
is_complete cond.IfElse b = eqb b 2
is_complete cond.Rcomp b = pick (eqb b 1) true (eqb b 2)

abbrev pub step_stmts : State → Step
step_stmts s =
    pick (eqb (place_number s.position) 4)
    (pick (may_branch s.word s.branches)
    (Ok (record { position = at.InStmts; handlers = s.handlers; last = s.last; lines = s.lines; stmts = s.stmts; depth = s.depth + 1; open_conds = cond_index s.word * 2 + s.branches + 8 * s.open_conds; word = cond.If; branches = 0 }))
    (Err reason.NotAForm))
    (Err reason.NotAForm)

abbrev pub step_to : State → Step
step_to s =
    pick (eqb (place_number s.position) 4)
    (pick (may_branch s.word s.branches)
    (Ok (moved s at.InCond s.word (s.branches + 1)))
    (Err reason.NotAForm))
    (Err reason.NotAForm)

-- "2 not a form allowed here": a number or name is judged only where its row is due, that of a branch only where one
-- may follow; outside of branches word and branches are 0
abbrev pub reason_at : State → Misfit → Reason
reason_at s m = pick (eqb (place_number s.position) (place_number m.due)) (pick (may_branch s.word s.branches) m.reason reason.NotAForm) reason.NotAForm

-- `)` after statements: a line ends, or the innermost IF goes on
abbrev pub end_of_stmts : State → Step
end_of_stmts s =
    pick (eqb s.depth 0)
    (Ok (outside s at.InModule))
    (Ok (record { position = at.InCond; handlers = s.handlers; last = s.last; lines = s.lines; stmts = s.stmts; depth = s.depth - 1; open_conds = s.open_conds / 8; word = cond_by ((s.open_conds % 8) / 2); branches = (s.open_conds % 8) % 2 + 1 }))

abbrev pub step_end : State → Step
step_end s =
    pick (eqb (place_number s.position) 3) (end_of_stmts s)
    (pick (eqb (place_number s.position) 4)
    (pick (is_complete s.word s.branches)
    (Ok (moved s at.InStmts cond.If 0))
    (Err reason.NotAForm))
    (pick (eqb (place_number s.position) 1)
    (Ok (outside s at.Ended))
    (Err reason.NotAForm)))

abbrev pub step_row : State → Said → Step
step_row s (Err m) = Err (reason_at s m)
step_row s (Ok row.End) = step_end s
step_row s (Ok row.Stmts) = step_stmts s
step_row s (Ok (row.Module h)) = step_module s h
step_row s (Ok (row.Line n)) = step_line s n
step_row s (Ok (row.To n)) = step_to s
step_row s (Ok (row.Simple w n)) = step_simple s n
step_row s (Ok (row.Cond k)) = step_cond s k
