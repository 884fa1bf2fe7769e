-- The width of the rows of arguments. Assumes nothing.
use Rattle.std.specs.Prelude.{[], ℕ, suc, ◌+◌, ◌≤◌, length}
use Rattle.std.proofs.Common.{arith}
use Rattle.std.proofs.lemmas.List.{length-map}
use Rattle.listings.specs.Listing.{Simple, jump, on, for, next, block, bare, Lines, nolines, line, Stmts, ∅, ◌▸◌, branching, size, len, total, count}
use Rattle.listings.specs.ListingText.{listed, StmtsOk, LinesOk}
use Rattle.listings.specs.Every.{all[], all∷, all_append}
use Rattle.listings.specs.Records.{slot_key, args_of, simple_rec, cond_rec, stmt_recs, line_recs, arg_row}
use Rattle.reader.specs.Tables.{Wide, padded-length}

-- "0 to 64 numbers", or slots
pub args_short : (o : Simple) → listed o ≤ 64 → length (args_of o) ≤ 64
unfolding args_of listed
args_short (jump w n) h = omega arith
args_short (on w ns) h = h
args_short (for v t) h = omega arith
args_short (next m ss) h = omega (arith, length-map ss slot_key)
args_short (block w) h = omega arith
args_short (bare w) h = omega arith

stmts_wide : (d li h k i : ℕ) (s : Stmts) → StmtsOk d s → Wide arg_row 64 (stmt_recs li h k i s)
unfolding StmtsOk stmt_recs arg_row simple_rec cond_rec
stmts_wide d li h k i ∅ ok = all[]
stmts_wide d li h k i (s ▸ o) ok = all_append (stmts_wide d li h k i s ok.0) (all∷ (padded-length 64 _ (args_short o ok.3)) all[])
stmts_wide d li h k i (branching s w t a u b) ok =
    all_append (stmts_wide d li h k i s ok.0)
    (all∷ (padded-length 64 [] (omega arith))
    (all_append (stmts_wide (suc d) li (suc (i + size s)) 0 (suc (i + size s)) a ok.3) (stmts_wide (suc d) li (suc (i + size s)) (len a) (suc (i + size s) + size a) b ok.4)))

-- a listing in form has at most 64 arguments a statement
pub lines_wide : (ls : Lines) → LinesOk ls → Wide arg_row 64 (line_recs ls)
unfolding LinesOk line_recs
lines_wide nolines ok = all[]
lines_wide (line ls n s) ok = all_append (lines_wide ls ok.0) (stmts_wide 0 (count ls) 0 0 (total ls) s ok.3)
