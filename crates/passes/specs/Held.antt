-- The lent tables hold a listing: what the reader promises of them. Assumes nothing.
use Rattle.std.specs.Prelude.{ℕ, ◌-◌, ◌≡◌, refl, List, ◌++◌, length, replicate}
use Rattle.listings.specs.Listing.{Lines, total, count}
use Rattle.listings.specs.ListingText.{LinesOk}
use Rattle.listings.specs.Records.{line_numbers, line_recs, rec_rows, arg_rows, padded}

-- the numbers of n lines, which are in form
pub record LinesHeld (ls : Lines) (lines : List ℕ) (n : ℕ) : Type 0 where
  pub in_form : LinesOk ls
  pub counted : n ≡ count ls
  pub rest : List ℕ
  pub rows : lines ≡ line_numbers ls ++ rest

-- the records of n statements
pub record StmtsHeld (ls : Lines) (stmts : List ℕ) (n : ℕ) : Type 0 where
  pub counted : n ≡ total ls
  pub rest : List ℕ
  pub rows : stmts ≡ rec_rows (line_recs ls) ++ rest

-- their arguments
pub record ArgsHeld (ls : Lines) (args : List ℕ) : Type 0 where
  pub rest : List ℕ
  pub rows : args ≡ arg_rows (line_recs ls) ++ rest

-- as the reader's contract has them, in tables of m entries
pub lines_held : (ls : Lines) (m : ℕ) (t : List ℕ) → LinesOk ls → t ≡ padded m (line_numbers ls) → LinesHeld ls t (count ls)
unfolding padded
lines_held ls m t ok e = record { in_form = ok; counted = refl; rest = replicate (m - length (line_numbers ls)) 0; rows = e }

pub stmts_held : (ls : Lines) (m : ℕ) (t : List ℕ) → t ≡ padded m (rec_rows (line_recs ls)) → StmtsHeld ls t (total ls)
unfolding padded
stmts_held ls m t e = record { counted = refl; rest = replicate (m - length (rec_rows (line_recs ls))) 0; rows = e }

pub args_held : (ls : Lines) (m : ℕ) (t : List ℕ) → t ≡ padded m (arg_rows (line_recs ls)) → ArgsHeld ls t
unfolding padded
args_held ls m t e = record { rest = replicate (m - length (arg_rows (line_recs ls))) 0; rows = e }
