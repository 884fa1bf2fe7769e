-- Names cut to two characters (document 02, L2): what was written, and the listing that it means. Assumes nothing.
use Rattle.std.specs.Prelude.{ℕ, zero, suc, List, [], ◌∷◌, map, ◌||◌}
use Rattle.std.proofs.Math.Option.{none, some}
use Rattle.listings.specs.Bytes.{pick}
use Rattle.listings.specs.Listing.{Name, Slot, Simple, jump, on, for, next, block, bare, Stmts, ∅, ◌▸◌, branching, Lines, nolines, line, Listing}
use Rattle.listings.specs.Rows.{is_capital, is_digit}
use Rattle.listings.specs.Read.{Answer, listing, refusal, read}

-- keeps the first k bytes, and of the rest only what is no character: the `%` or `$`
unfoldable pub cut_to : ℕ → Name → Name
cut_to k [] = []
cut_to zero (b ∷ v) = pick (is_capital b || is_digit b) (cut_to zero v) (b ∷ cut_to zero v)
cut_to (suc k) (b ∷ v) = b ∷ cut_to k v

-- "cuts a name to two characters and keeps its `%` or `$`"
unfoldable pub cut_name : Name → Name
cut_name v = cut_to 2 v

unfoldable pub cut_slot : Slot → Slot
cut_slot none = none
cut_slot (some v) = some (cut_name v)

-- only FOR and NEXT have names
unfoldable pub cut_simple : Simple → Simple
cut_simple (for v t) = for (cut_name v) t
cut_simple (next m ss) = next m (map cut_slot ss)
cut_simple (jump w n) = jump w n
cut_simple (on w ns) = on w ns
cut_simple (block w) = block w
cut_simple (bare w) = bare w

unfoldable pub cut_stmts : Stmts → Stmts
cut_stmts ∅ = ∅
cut_stmts (s ▸ o) = cut_stmts s ▸ cut_simple o
cut_stmts (branching s w t a u b) = branching (cut_stmts s) w t (cut_stmts a) u (cut_stmts b)

unfoldable pub cut_lines : Lines → Lines
cut_lines nolines = nolines
cut_lines (line ls n s) = line (cut_lines ls) n (cut_stmts s)

unfoldable pub cut_listing : Listing → Listing
cut_listing L = record { handlers = L.handlers; lines = cut_lines L.lines }

-- a name is judged whole, before it is cut: "Errors: unchanged."
unfoldable pub cut_answer : Answer → Answer
cut_answer (listing L) = listing (cut_listing L)
cut_answer (refusal n p) = refusal n p

-- "The reader therefore cuts a name": what a text means
unfoldable pub meant : List ℕ → Answer
meant t = cut_answer (read t)
