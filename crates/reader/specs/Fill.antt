-- What a row gives, what it does to the tables and to the walk, and what the code needs for that. Assumes nothing.
use Rattle.std.specs.Prelude.{◌≡◌, Bool, true, false, List, [], ◌++◌, ℕ, ◌+◌, ◌*◌, ◌-◌, ◌%◌, ◌≤◌, ◌<◌, eqb, length, take, drop, set, get_or, Option as Maybe, Some, None, zero, suc, refl, Ok, Err}
use Rattle.std.proofs.Common.{sym, ap, ◌∙◌, subst, arith}
use Rattle.listings.specs.Bytes.{pick}
use Rattle.listings.specs.Rows.{malformed, invalid, parsed, Content, no_form, end_row, stmts_row, module_row, line_row, to_row, simple_row, cond_row}
use Rattle.listings.specs.Records.{args_of, detail_of}
use Rattle.reader.specs.Tables.{append_row}
use Rattle.reader.specs.CodedRows.{place_number, as_row, cond_index, Said}
use Rattle.reader.specs.AcceptedRows.{uncounted}
use Rattle.reader.specs.Machine.{State}
use Rattle.tokens.specs.declared.words.Cond.{Cond}
use Rattle.reader.specs.declared.rows.Row.TheVariants as row
use Rattle.reader.specs.declared.fill.Walk.{Walk}
use Rattle.reader.specs.declared.tables.Entry.{Entry}
use Rattle.reader.specs.declared.operands.Given.{Given}

-- ---- what a row is to the tables, and what it gives

-- how many numbers or slots it lists was judged before
abbrev pub written_row : Content → Said
written_row d = uncounted (as_row d)

-- a statement's arguments and its detail
pub record Operands : Type 0 where
  pub entries : List ℕ
  pub detail : ℕ

abbrev pub no_operands : Operands
no_operands = record { entries = []; detail = 0 }

abbrev pub operands_of : Content → Operands
operands_of no_form = no_operands
operands_of end_row = no_operands
operands_of stmts_row = no_operands
operands_of (module_row h) = no_operands
operands_of (line_row n) = no_operands
operands_of (to_row n) = no_operands
operands_of (simple_row malformed) = no_operands
operands_of (simple_row invalid) = no_operands
operands_of (simple_row (parsed d)) = record { entries = args_of d.0; detail = detail_of d.0 }
operands_of (cond_row k) = no_operands

-- what a reader has of a row that says d, whatever it reads from
pub record Says (d : Content) (e : Said) (x : Operands) : Type 0 where
  pub row : e ≡ written_row d
  pub operands : x ≡ operands_of d

-- what the code keeps of them once the arguments are in their table
abbrev pub as_given : Operands → Given
as_given x = record { count = length x.entries; detail = x.detail }

-- ---- what the code does to the tables

-- a holder as its records have it: one more than its node, or 0 where there is none
abbrev pub held : Maybe ℕ → ℕ
held None = 0
held (Some i) = i + 1

abbrev pub holder_by : ℕ → Maybe ℕ
holder_by zero = None
holder_by (suc i) = Some i

pub held_back : (n : ℕ) → held (holder_by n) ≡ n
held_back zero = refl
held_back (suc i) = omega arith

abbrev pub entry_of : State → Walk → (word end : ℕ) → Given → Entry
entry_of s w k e g = record { word = k; line = s.lines - 1; holder = held w.holder; index = w.index; end = e; count = g.count; detail = g.detail }

abbrev pub branch_stmts : List ℕ → ℕ → Bool → (form number n : ℕ) → List ℕ
branch_stmts t i true form number n = set (set t (i * 12 + 8) form) (i * 12 + 9) number
branch_stmts t i false form number n = set (set (set t (i * 12 + 5) n) (i * 12 + 6) form) (i * 12 + 7) number

-- `)`, by the IF in which the next statement stands: its branch ends or, where its branches are due, itself
abbrev pub ended : List ℕ → State → Maybe ℕ → List ℕ
ended t s None = t
ended t s (Some i) = pick (eqb (place_number s.position) 4) (set t (i * 12 + 4) s.stmts) (branch_stmts t i (eqb (s.open_conds % 2) 1) 1 0 s.stmts)

abbrev pub end_table : List ℕ → State → Walk → List ℕ
end_table t s w = ended t s w.holder

abbrev pub outside_walk : Walk
outside_walk = record { holder = None; index = 0 }

abbrev pub ended_walk : List ℕ → State → Walk → Maybe ℕ → Walk
ended_walk t s w None = outside_walk
ended_walk t s w (Some i) = pick (eqb (place_number s.position) 4) (record { holder = holder_by (get_or t (i * 12 + 2) 0); index = get_or t (i * 12 + 3) 0 + 1 }) w

abbrev pub end_walk : List ℕ → State → Walk → Walk
end_walk t s w = ended_walk t s w w.holder

-- `(to N)`: a branch of the IF whose branches are due
abbrev pub branch_to : List ℕ → State → Maybe ℕ → ℕ → List ℕ
branch_to t s None n = t
branch_to t s (Some i) n = branch_stmts t i (eqb s.branches 1) 2 n s.stmts

abbrev pub to_table : List ℕ → State → Walk → ℕ → List ℕ
to_table t s w n = branch_to t s w.holder n

abbrev pub add_simple : List ℕ → State → Walk → ℕ → Given → List ℕ
add_simple t s w k g = append_row t s.stmts (entry_of s w k (s.stmts + 1) g)

abbrev pub add_cond : List ℕ → State → Walk → Cond → List ℕ
add_cond t s w k = append_row t s.stmts (entry_of s w (cond_index k + 2) 0 (as_given no_operands))

abbrev pub add_entries : List ℕ → ℕ → List ℕ → List ℕ
add_entries a n es = take (n * 64) a ++ (es ++ drop (n * 64 + length es) a)

abbrev pub added_walk : Walk → Walk
added_walk w = record { holder = w.holder; index = w.index + 1 }

abbrev pub inside_walk : State → Walk
inside_walk s = record { holder = Some s.stmts; index = 0 }

abbrev pub stmt_table : List ℕ → State → Walk → Said → Given → List ℕ
stmt_table t s w (Err m) g = t
stmt_table t s w (Ok row.End) g = end_table t s w
stmt_table t s w (Ok row.Stmts) g = t
stmt_table t s w (Ok (row.Module h)) g = t
stmt_table t s w (Ok (row.Line n)) g = t
stmt_table t s w (Ok (row.To n)) g = to_table t s w n
stmt_table t s w (Ok (row.Simple k n)) g = add_simple t s w k g
stmt_table t s w (Ok (row.Cond k)) g = add_cond t s w k

-- the arguments of statement n
abbrev pub arg_table : List ℕ → ℕ → Said → Operands → List ℕ
arg_table a n (Err m) x = a
arg_table a n (Ok row.End) x = a
arg_table a n (Ok row.Stmts) x = a
arg_table a n (Ok (row.Module h)) x = a
arg_table a n (Ok (row.Line m)) x = a
arg_table a n (Ok (row.To m)) x = a
arg_table a n (Ok (row.Simple k m)) x = add_entries a n x.entries
arg_table a n (Ok (row.Cond k)) x = a

abbrev pub line_table : List ℕ → State → Said → List ℕ
line_table t s (Err m) = t
line_table t s (Ok row.End) = t
line_table t s (Ok row.Stmts) = t
line_table t s (Ok (row.Module h)) = t
line_table t s (Ok (row.Line n)) = set t s.lines n
line_table t s (Ok (row.To n)) = t
line_table t s (Ok (row.Simple k n)) = t
line_table t s (Ok (row.Cond k)) = t

abbrev pub walk_by : List ℕ → State → Walk → Said → Walk
walk_by t s w (Err m) = w
walk_by t s w (Ok row.End) = end_walk t s w
walk_by t s w (Ok row.Stmts) = w
walk_by t s w (Ok (row.Module h)) = outside_walk
walk_by t s w (Ok (row.Line n)) = outside_walk
walk_by t s w (Ok (row.To n)) = w
walk_by t s w (Ok (row.Simple k n)) = added_walk w
walk_by t s w (Ok (row.Cond k)) = inside_walk s

-- the operands x of statement n: its arguments are in the table, the code has the rest
abbrev pub OperandsPut : List ℕ → ℕ → Operands → List ℕ → Given → Type 0
OperandsPut a n x a' g = (a' ≡ add_entries a n x.entries) × (g ≡ as_given x)

-- the lines and the statements after a row
pub record Wrote (n t : List ℕ) (s : State) (w : Walk) (d : Said) (g : Given) (n' t' : List ℕ) (r : Walk) : Type 0 where
  pub walk : r ≡ walk_by t s w d
  pub lines : n' ≡ line_table n s d
  pub stmts : t' ≡ stmt_table t s w d g

-- and the arguments
pub record Recorded (n t a : List ℕ) (s : State) (w : Walk) (d : Said) (x : Operands) (n' t' a' : List ℕ) (r : Walk) : Type 0 where
  pub args : a' ≡ arg_table a s.stmts d x
  pub rest : Wrote n t s w d (as_given x) n' t' r

-- ---- what the code needs

pub record EndReady (t : List ℕ) (s : State) (w : Walk) : Type 0 where
  pub fits : held w.holder * 12 ≤ length t
  pub small : held w.holder ≤ 4096
  pub most : s.stmts ≤ 4096
  pub index : (i : ℕ) → w.holder ≡ Some i → place_number s.position ≡ 4 → get_or t (i * 12 + 3) 0 ≤ 4096

pub record ToReady (t : List ℕ) (s : State) (w : Walk) : Type 0 where
  pub fits : held w.holder * 12 ≤ length t
  pub small : held w.holder ≤ 4096
  pub most : s.stmts ≤ 4096

pub record AddReady (t : List ℕ) (s : State) (w : Walk) (k : ℕ) : Type 0 where
  pub fits : s.stmts * 12 + 12 ≤ length t
  pub small : s.stmts < 4096
  pub line : 0 < s.lines
  pub lines : s.lines ≤ 1024
  pub holder : held w.holder ≤ 4096
  pub index : w.index ≤ 4096
  pub word : k ≤ 28

abbrev pub Ready : List ℕ → List ℕ → State → Walk → Said → Given → Type 0
Ready n t s w (Err m) g = Unit {0}
Ready n t s w (Ok row.End) g = EndReady t s w
Ready n t s w (Ok row.Stmts) g = Unit {0}
Ready n t s w (Ok (row.Module h)) g = Unit {0}
Ready n t s w (Ok (row.Line m)) g = s.lines < length n
Ready n t s w (Ok (row.To m)) g = ToReady t s w
Ready n t s w (Ok (row.Simple k m)) g = AddReady t s w k × (g.count ≤ 64)
Ready n t s w (Ok (row.Cond k)) g = AddReady t s w (cond_index k + 2)

-- room for the arguments of statement n
abbrev pub HasRoom : List ℕ → ℕ → Operands → Type 0
HasRoom a n x = (n * 64 + 64 ≤ length a) × (length x.entries ≤ 64)

abbrev pub ArgsReady : List ℕ → ℕ → Said → Operands → Type 0
ArgsReady a n (Err m) x = Unit {0}
ArgsReady a n (Ok row.End) x = Unit {0}
ArgsReady a n (Ok row.Stmts) x = Unit {0}
ArgsReady a n (Ok (row.Module h)) x = Unit {0}
ArgsReady a n (Ok (row.Line m)) x = Unit {0}
ArgsReady a n (Ok (row.To m)) x = Unit {0}
ArgsReady a n (Ok (row.Simple k m)) x = HasRoom a n x
ArgsReady a n (Ok (row.Cond k)) x = Unit {0}

pub record RecordReady (n t a : List ℕ) (s : State) (w : Walk) (d : Said) (x : Operands) : Type 0 where
  pub args : ArgsReady a s.stmts d x
  pub rest : Ready n t s w d (as_given x)

pub walk_is : {w : Walk} {a : Maybe ℕ} {b : ℕ} → w.holder ≡ a → w.index ≡ b → w ≡ record { holder = a; index = b }
walk_is {w} {a} {b} p q = ap {B = Walk} (λ (x : Maybe ℕ). record { holder = x; index = w.index }) p ∙ ap {B = Walk} (λ (x : ℕ). record { holder = a; index = x }) q

pub given_is : {g : Given} {a b : ℕ} → g.count ≡ a → g.detail ≡ b → g ≡ record { count = a; detail = b }
given_is {g} {a} {b} p q = ap {B = Given} (λ (x : ℕ). record { count = x; detail = g.detail }) p ∙ ap {B = Given} (λ (x : ℕ). record { count = a; detail = x }) q

-- by which row it is
pub wrote_as : {n t : List ℕ} {s : State} {w : Walk} {d e : Said} {g : Given} {n' t' : List ℕ} {r : Walk} → d ≡ e → Wrote n t s w e g n' t' r → Wrote n t s w d g n' t' r
wrote_as {n} {t} {s} {w} {d} {e} {g} {n'} {t'} {r} p = subst (λ (x : Said). Wrote n t s w x g n' t' r) (sym p)
