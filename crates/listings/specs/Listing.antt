-- A listing (document 01, "The listing"): lines with numbers, each with a tree of statements. Assumes nothing.
-- Statements and lines are built from the left, in reading order: s ▸ o is the statements s and then o.
use Rattle.std.specs.Prelude.{ℕ, suc, ◌+◌, Bool, List}
use Rattle.std.proofs.Math.Option.{Option}

-- a name with its kind (`%`, `$` or nothing at its end); names are compared whole, after they were cut (`Cut`)
abbrev pub Name : Type 0
Name = List ℕ

-- T of `(for V T)`
pub data Tier : Type 0 where
  static framed dispatched : Tier

-- M of `(next M S ..)`
pub data Mark : Type 0 where
  plain orphan : Mark

-- a slot of NEXT: a name, or `*` (no name written)
abbrev pub Slot : Type 0
Slot = Option Name

-- The opening words of the statements that hold no others, by what stands behind them. One line number; `runto` is `(run N)`:
pub data JumpWord : Type 0 where
  goto gosub runto : JumpWord

-- "0 to 64 numbers":
pub data OnWord : Type 0 where
  ongoto ongosub : OnWord

-- nothing, the words of loops and DOs:
pub data BlockWord : Type 0 where
  repeat loop until endloop exit exitif doif else done : BlockWord

-- nothing, all others:
pub data BareWord : Type 0 where
  return run clr stop any plain : BareWord

-- the statements that hold no others
pub data Simple : Type 0 where
  jump : JumpWord → ℕ → Simple
  on : OnWord → List ℕ → Simple
  for : Name → Tier → Simple
  next : Mark → List Slot → Simple
  block : BlockWord → Simple
  bare : BareWord → Simple

-- the statements that hold branches: `(if` one, `(ifelse` two, `(rcomp` one or two
pub data CondWord : Type 0 where
  if ifelse rcomp : CondWord

-- a branch: `(to N)`, `(stmts` (its statements stand beside it), or no such branch
pub data BranchForm : Type 0 where
  to : ℕ → BranchForm
  stmts absent : BranchForm

infixl 30 ◌▸◌
pub data Stmts : Type 0 where
  ∅ : Stmts
  ◌▸◌ : Stmts → Simple → Stmts
  branching : Stmts → CondWord → BranchForm → Stmts → BranchForm → Stmts → Stmts

pub data Lines : Type 0 where
  nolines : Lines
  line : Lines → ℕ → Stmts → Lines

-- handlers: the H of `(module H`
pub record Listing : Type 0 where
  pub handlers : Bool
  pub lines : Lines

-- the statements of a list, inner ones too
unfoldable pub size : Stmts → ℕ
size ∅ = 0
size (s ▸ o) = suc (size s)
size (branching s w t a u b) = suc (size s + size a + size b)

-- the statements of this list alone
unfoldable pub len : Stmts → ℕ
len ∅ = 0
len (s ▸ o) = suc (len s)
len (branching s w t a u b) = suc (len s)

-- the statements of all lines, and the lines
unfoldable pub total : Lines → ℕ
unfolding size
total nolines = 0
total (line ls n s) = total ls + size s

unfoldable pub count : Lines → ℕ
count nolines = 0
count (line ls n s) = suc (count ls)
