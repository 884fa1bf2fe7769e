-- The text of a listing in the bracket form, and the limits (document 01, "The listing"): what a listing in form is. Assumes nothing.
use Rattle.std.specs.Prelude.{ℕ, suc, ◌≤◌, ◌<◌, ◌≡◌, List, [], ◌∷◌, ◌++◌, map, Bool, true, false, length}
use Rattle.std.proofs.Math.Option.{Option, none, some}
use Rattle.listings.specs.Bytes.{bytes, decimal}
use Rattle.listings.specs.Listing.{Name, Tier, static, framed, dispatched, Mark, orphan, Slot, JumpWord, goto, gosub, runto, OnWord, ongoto, ongosub, BlockWord, repeat, loop, until, endloop, exit, exitif, doif, else, done, BareWord, return, run, clr, stop, any, Simple, jump, on, for, next, block, bare, CondWord, if, ifelse, rcomp, BranchForm, to, stmts, absent, Stmts, ∅, ◌▸◌, branching, Lines, nolines, line, Listing, total, count}
use Rattle.listings.specs.Rows.{is_name}

-- ---- the text

-- "one space between words"
unfoldable pub spaced_words : List (List ℕ) → List ℕ
spaced_words [] = []
spaced_words (w ∷ ws) = 32 ∷ (w ++ spaced_words ws)

-- a form's row: the opening word and the others; closed on its row, or one that holds others
unfoldable pub closed_form : List ℕ → List (List ℕ) → List ℕ
closed_form w ws = 40 ∷ (w ++ (spaced_words ws ++ (41 ∷ [])))

unfoldable pub open_form : List ℕ → List (List ℕ) → List ℕ
open_form w ws = 40 ∷ (w ++ spaced_words ws)

-- "and ends with a row `)`"
unfoldable pub end_form : List ℕ
end_form = 41 ∷ []

unfoldable pub tier_word : Tier → List ℕ
tier_word static = bytes "static"
tier_word framed = bytes "framed"
tier_word dispatched = bytes "dispatched"

unfoldable pub mark_word : Mark → List ℕ
mark_word Mark.plain = bytes "plain"
mark_word orphan = bytes "orphan"

unfoldable pub slot_word : Slot → List ℕ
slot_word none = 42 ∷ []
slot_word (some v) = v

-- the opening words
unfoldable pub jump_word : JumpWord → List ℕ
jump_word goto = bytes "goto"
jump_word gosub = bytes "gosub"
jump_word runto = bytes "run"

unfoldable pub on_word : OnWord → List ℕ
on_word ongoto = bytes "ongoto"
on_word ongosub = bytes "ongosub"

unfoldable pub block_word : BlockWord → List ℕ
block_word repeat = bytes "repeat"
block_word loop = bytes "loop"
block_word until = bytes "until"
block_word endloop = bytes "endloop"
block_word exit = bytes "exit"
block_word exitif = bytes "exitif"
block_word doif = bytes "doif"
block_word else = bytes "else"
block_word done = bytes "done"

unfoldable pub bare_word : BareWord → List ℕ
bare_word return = bytes "return"
bare_word run = bytes "run"
bare_word clr = bytes "clr"
bare_word stop = bytes "stop"
bare_word any = bytes "any"
bare_word BareWord.plain = bytes "plain"

-- the opening word of a statement, and its other words
unfoldable pub simple_word : Simple → List ℕ
unfolding jump_word on_word block_word bare_word
simple_word (jump w n) = jump_word w
simple_word (on w ns) = on_word w
simple_word (for v t) = bytes "for"
simple_word (next m ss) = bytes "next"
simple_word (block w) = block_word w
simple_word (bare w) = bare_word w

unfoldable pub simple_args : Simple → List (List ℕ)
simple_args (jump w n) = decimal n ∷ []
simple_args (on w ns) = map decimal ns
simple_args (for v t) = v ∷ tier_word t ∷ []
simple_args (next m ss) = mark_word m ∷ map slot_word ss
simple_args (block w) = []
simple_args (bare w) = []

unfoldable pub simple_text : Simple → List ℕ
simple_text o = closed_form (simple_word o) (simple_args o)

unfoldable pub cond_word : CondWord → List ℕ
cond_word if = bytes "if"
cond_word ifelse = bytes "ifelse"
cond_word rcomp = bytes "rcomp"

unfoldable pub cond_text : CondWord → List ℕ
cond_text w = open_form (cond_word w) []

abbrev pub stmts_text : List ℕ
stmts_text = open_form (bytes "stmts") []

abbrev pub to_text : ℕ → List ℕ
to_text n = closed_form (bytes "to") (decimal n ∷ [])

abbrev pub line_text : ℕ → List ℕ
line_text n = open_form (bytes "line") (decimal n ∷ [])

unfoldable pub handler_word : Bool → List ℕ
handler_word false = bytes "0"
handler_word true = bytes "1"

abbrev pub module_text : Bool → List ℕ
module_text h = open_form (bytes "module") (handler_word h ∷ [])

-- the rows of a branch, of whose statements these are the rows
unfoldable pub branch_rows : BranchForm → List (List ℕ) → List (List ℕ)
branch_rows (to n) rs = to_text n ∷ []
branch_rows stmts rs = stmts_text ∷ (rs ++ (end_form ∷ []))
branch_rows absent rs = []

unfoldable pub stmt_rows : Stmts → List (List ℕ)
stmt_rows ∅ = []
stmt_rows (s ▸ o) = stmt_rows s ++ (simple_text o ∷ [])
stmt_rows (branching s w t a u b) = stmt_rows s ++ (cond_text w ∷ (branch_rows t (stmt_rows a) ++ (branch_rows u (stmt_rows b) ++ (end_form ∷ []))))

unfoldable pub rows_of_lines : Lines → List (List ℕ)
rows_of_lines nolines = []
rows_of_lines (line ls n s) = rows_of_lines ls ++ (line_text n ∷ (stmt_rows s ++ (end_form ∷ [])))

unfoldable pub listing_rows : Listing → List (List ℕ)
listing_rows L = module_text L.handlers ∷ (rows_of_lines L.lines ++ (end_form ∷ []))

-- "each row ended by byte 10"
unfoldable pub text_of : List (List ℕ) → List ℕ
text_of [] = []
text_of (r ∷ rs) = r ++ (10 ∷ text_of rs)

unfoldable pub listing_text : Listing → List ℕ
listing_text L = text_of (listing_rows L)

-- ---- the limits

-- "Numbers are decimal without leading zeros, 0 to 65535"
abbrev pub NumberOk : ℕ → Type 0
NumberOk n = n ≤ 65535

abbrev pub NameOk : Name → Type 0
NameOk v = is_name v ≡ true

unfoldable pub NumbersOk : List ℕ → Type 0
NumbersOk [] = Unit {0}
NumbersOk (n ∷ ns) = NumberOk n × NumbersOk ns

unfoldable pub SlotsOk : List Slot → Type 0
SlotsOk [] = Unit {0}
SlotsOk (none ∷ ss) = SlotsOk ss
SlotsOk (some v ∷ ss) = NameOk v × SlotsOk ss

-- how many numbers or slots a statement lists
unfoldable pub listed : Simple → ℕ
listed (jump w n) = 0
listed (on w ns) = length ns
listed (for v t) = 0
listed (next m ss) = length ss
listed (block w) = 0
listed (bare w) = 0

-- numbers and names in form
unfoldable pub SimpleOk : Simple → Type 0
SimpleOk (jump w n) = NumberOk n
SimpleOk (on w ns) = NumbersOk ns
SimpleOk (for v t) = NameOk v
SimpleOk (next m ss) = SlotsOk ss
SimpleOk (block w) = Unit {0}
SimpleOk (bare w) = Unit {0}

-- a branch that is there: `(to N)` holds nothing
unfoldable pub BranchOk : BranchForm → Stmts → Type 0
BranchOk (to n) s = NumberOk n × (s ≡ ∅)
BranchOk stmts s = Unit {0}
BranchOk absent s = ⊥

unfoldable pub NoBranch : BranchForm → Stmts → Type 0
NoBranch (to n) s = ⊥
NoBranch stmts s = ⊥
NoBranch absent s = s ≡ ∅

-- "`(if` holds one branch, `(ifelse` two, `(rcomp` one or two"; rcomp's second branch is absent or there
unfoldable pub SecondOk : BranchForm → Stmts → Type 0
SecondOk (to n) s = NumberOk n × (s ≡ ∅)
SecondOk stmts s = Unit {0}
SecondOk absent s = s ≡ ∅

unfoldable pub BranchesOk : CondWord → BranchForm → Stmts → BranchForm → Stmts → Type 0
BranchesOk if t a u b = BranchOk t a × NoBranch u b
BranchesOk ifelse t a u b = BranchOk t a × BranchOk u b
BranchesOk rcomp t a u b = BranchOk t a × SecondOk u b

-- "A line's own statements have depth 0; depth 16 is accepted, 17 refused", "0 to 64 numbers": statements at depth d
unfoldable pub StmtsOk : ℕ → Stmts → Type 0
StmtsOk d ∅ = Unit {0}
StmtsOk d (s ▸ o) = StmtsOk d s × (d ≤ 16) × SimpleOk o × (listed o ≤ 64)
StmtsOk d (branching s w t a u b) = StmtsOk d s × (d ≤ 16) × BranchesOk w t a u b × StmtsOk (suc d) a × StmtsOk (suc d) b

-- the number of the last line
unfoldable pub last_number : Lines → Option ℕ
last_number nolines = none
last_number (line ls n s) = some n

unfoldable pub Above : ℕ → Option ℕ → Type 0
Above n none = Unit {0}
Above n (some m) = m < n

unfoldable pub LinesOk : Lines → Type 0
LinesOk nolines = Unit {0}
LinesOk (line ls n s) = LinesOk ls × NumberOk n × Above n (last_number ls) × StmtsOk 0 s

-- a listing within the limits, whatever it was read from: "1,024 lines with ascending numbers, 4,096 statements"
pub record Within (L : Listing) : Type 0 where
  pub lines : LinesOk L.lines
  pub line_count : count L.lines ≤ 1024
  pub stmt_count : total L.lines ≤ 4096

-- a listing in form, as a text: "At most 65,536 bytes" too
pub record InForm (L : Listing) : Type 0 where
  pub within : Within L
  pub byte_count : length (listing_text L) ≤ 65536
