-- Which listings BASIC V2 can write: the shapes of its statements, where an IF may stand, and which numbers and names there are (document 02, L3). Assumes nothing.
use Rattle.std.specs.Prelude.{ℕ, ◌≤◌, ◌≡◌, List, [], ◌∷◌, map, true, false}
use Rattle.std.proofs.Math.Option.{none, some}
use Rattle.listings.specs.Listing.{Name, static, Mark, JumpWord, OnWord, return, run, clr, stop, BareWord, Simple, jump, on, for, next, bare, if, to, stmts, absent, Stmts, ∅, ◌▸◌, branching, Lines, nolines, line, Listing}
use Rattle.listings.specs.Rows.{is_name}
use Rattle.listings.specs.ListingText.{Within}
use Rattle.listings.specs.Every.{All}
use Rattle.listings.specs.Cut.{cut_name}

-- 35 where "a line number exceeds 63999"
abbrev pub NumberV2 : ℕ → Type 0
NumberV2 n = n ≤ 63999

-- "Names .. are cut as above": in form, and cut
abbrev pub NameV2 : Name → Type 0
NameV2 v = (is_name v ≡ true) × (cut_name v ≡ v)

-- the statements that hold no others: plain, END or STOP, RETURN, CLR, RUN; GOTO, GOSUB and RUN with a number; "ON has GOTO or GOSUB .. a comma brings ON a further number and NEXT
-- a further name"; "NEXT with no name first has the one slot `*`"; "FOR is static, NEXT plain"
pub data SimpleV2 : Simple → Type 0 where
  is_plain : SimpleV2 (bare BareWord.plain)
  is_stop : SimpleV2 (bare stop)
  is_return : SimpleV2 (bare return)
  is_clr : SimpleV2 (bare clr)
  is_run : SimpleV2 (bare run)
  is_jump : {w : JumpWord} {n : ℕ} → NumberV2 n → SimpleV2 (jump w n)
  is_on : {w : OnWord} {n : ℕ} {ns : List ℕ} → NumberV2 n → All NumberV2 ns → SimpleV2 (on w (n ∷ ns))
  is_for : {v : Name} → NameV2 v → SimpleV2 (for v static)
  is_star : SimpleV2 (next Mark.plain (none ∷ []))
  is_next : {v : Name} {vs : List Name} → NameV2 v → All NameV2 vs → SimpleV2 (next Mark.plain (some v ∷ map some vs))

-- no IF among them
pub data StraightV2 : Stmts → Type 0 where
  empty : StraightV2 ∅
  then_simple : {s : Stmts} {o : Simple} → StraightV2 s → SimpleV2 o → StraightV2 (s ▸ o)

-- "Any other THEN holds the rest of its line", and of a jump branch "the rest of that line makes no node": an IF stands last in its list
pub data StmtsV2 : Stmts → Type 0 where
  no_if : {s : Stmts} → StraightV2 s → StmtsV2 s
  then_to : {s : Stmts} {n : ℕ} → StraightV2 s → NumberV2 n → StmtsV2 (branching s if (to n) ∅ absent ∅)
  then_stmts : {s a : Stmts} → StraightV2 s → StmtsV2 a → StmtsV2 (branching s if stmts a absent ∅)

pub data LinesV2 : Lines → Type 0 where
  no_lines : LinesV2 nolines
  then_line : {ls : Lines} {n : ℕ} {s : Stmts} → LinesV2 ls → NumberV2 n → StmtsV2 s → LinesV2 (line ls n s)

-- "handlers 0"; within the limits
pub record V2 (L : Listing) : Type 0 where
  pub within : Within L
  pub handlers : L.handlers ≡ false
  pub lines : LinesV2 L.lines
