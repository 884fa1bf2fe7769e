-- The records of a listing: what the lent tables hold after reading. Assumes nothing.
-- A statement's record has 12 entries and a row of 64 arguments; a line's record is its number; 0 stands past the used parts.
use Rattle.std.specs.Prelude.{ℕ, suc, ◌+◌, ◌*◌, ◌-◌, ◌/◌, Bool, true, false, List, [], ◌∷◌, ◌++◌, map, leb, length, replicate}
use Rattle.std.proofs.Math.Option.{none, some}
use Rattle.listings.specs.Bytes.{pick}
use Rattle.listings.specs.Listing.{Name, Tier, static, framed, dispatched, Mark, orphan, Slot, Simple, jump, on, for, next, block, bare, CondWord, BranchForm, to, stmts, absent, Stmts, ∅, ◌▸◌, branching, Lines, nolines, line, Listing, size, len, total, count}
use Rattle.listings.specs.Read.{Answer, listing, refusal}
use Rattle.listings.specs.ListingText.{simple_word, cond_word}
use Rattle.listings.specs.WordTable.{word_index}

-- ---- a statement's arguments

-- a name as a number: its bytes less 32 as digits to the base 64, the first byte lowest; 0 is no name
unfoldable pub name_key : Name → ℕ
name_key [] = 0
name_key (b ∷ v) = (b - 32) + 64 * name_key v

-- a slot: a name, or 0 for `*`
unfoldable pub slot_key : Slot → ℕ
slot_key none = 0
slot_key (some v) = name_key v

-- the written targets, FOR's name, NEXT's slots
unfoldable pub args_of : Simple → List ℕ
args_of (jump w n) = n ∷ []
args_of (on w ns) = ns
args_of (for v t) = name_key v ∷ []
args_of (next m ss) = map slot_key ss
args_of (block w) = []
args_of (bare w) = []

unfoldable pub tier_number : Tier → ℕ
tier_number static = 0
tier_number framed = 1
tier_number dispatched = 2

unfoldable pub mark_number : Mark → ℕ
mark_number Mark.plain = 0
mark_number orphan = 1

-- FOR's tier, NEXT's mark
unfoldable pub detail_of : Simple → ℕ
detail_of (for v t) = tier_number t
detail_of (next m ss) = mark_number m
detail_of (jump w n) = 0
detail_of (on w ns) = 0
detail_of (block w) = 0
detail_of (bare w) = 0

-- ---- a statement's record

-- word: the number of its opening word. line: the line index. holder: one more than the node of the IF that holds it, or 0.
-- index: its number in its list, the last of its path. end: the node past its subtree. second: the node where its second branch begins.
-- form, number (of the first branch and of the second): 0 no branch, 1 statements, 2 to the line with that number.
-- detail: FOR's tier, NEXT's mark. args: the arguments; their count is an entry too.
pub record Rec : Type 0 where
  pub word : ℕ
  pub line : ℕ
  pub holder : ℕ
  pub index : ℕ
  pub end : ℕ
  pub second : ℕ
  pub form1 : ℕ
  pub number1 : ℕ
  pub form2 : ℕ
  pub number2 : ℕ
  pub detail : ℕ
  pub args : List ℕ

unfoldable pub branch_number : BranchForm → ℕ
branch_number (to n) = 2
branch_number stmts = 1
branch_number absent = 0

unfoldable pub branch_line : BranchForm → ℕ
branch_line (to n) = n
branch_line stmts = 0
branch_line absent = 0

unfoldable pub simple_rec : Simple → (li h k j : ℕ) → Rec
simple_rec o li h k j =
    record { word = word_index (simple_word o); line = li; holder = h; index = k; end = suc j; second = 0; form1 = 0; number1 = 0; form2 = 0; number2 = 0; detail = detail_of o; args = args_of o }

-- e: the node past it; x: where its second branch begins
unfoldable pub cond_rec : CondWord → (li h k e x : ℕ) → BranchForm → BranchForm → Rec
cond_rec w li h k e x t u =
    record {
      word = word_index (cond_word w);
      line = li;
      holder = h;
      index = k;
      end = e;
      second = x;
      form1 = branch_number t;
      number1 = branch_line t;
      form2 = branch_number u;
      number2 = branch_line u;
      detail = 0;
      args = [];
    }

-- the statements of a list in line li, held by h: the first has the number k in its list and is node i
unfoldable pub stmt_recs : (li h k i : ℕ) → Stmts → List Rec
unfolding size len
stmt_recs li h k i ∅ = []
stmt_recs li h k i (s ▸ o) = stmt_recs li h k i s ++ (simple_rec o li h (k + len s) (i + size s) ∷ [])
stmt_recs li h k i (branching s w t a u b) =
    let j = i + size s in
    stmt_recs li h k i s
    ++ (cond_rec w li h (k + len s) (suc j + size a + size b) (suc j + size a) t u
    ∷ (stmt_recs li (suc j) 0 (suc j) a ++ stmt_recs li (suc j) (len a) (suc j + size a) b))

unfoldable pub line_recs : Lines → List Rec
unfolding total count
line_recs nolines = []
line_recs (line ls n s) = line_recs ls ++ stmt_recs (count ls) 0 0 (total ls) s

unfoldable pub line_numbers : Lines → List ℕ
line_numbers nolines = []
line_numbers (line ls n s) = line_numbers ls ++ (n ∷ [])

-- ---- the tables

-- zeros up to n entries
unfoldable pub padded : ℕ → List ℕ → List ℕ
padded n l = l ++ replicate (n - length l) 0

unfoldable pub rec_row : Rec → List ℕ
rec_row r =
    r.word ∷ r.line ∷ r.holder ∷ r.index ∷ r.end ∷ r.second ∷ r.form1 ∷ r.number1 ∷ r.form2 ∷ r.number2 ∷ length r.args ∷ r.detail ∷ []

-- the rows of some records, one after the other
unfoldable pub joined : (Rec → List ℕ) → List Rec → List ℕ
joined f [] = []
joined f (r ∷ rs) = f r ++ joined f rs

abbrev pub rec_rows : List Rec → List ℕ
rec_rows rs = joined rec_row rs

unfoldable pub arg_row : Rec → List ℕ
arg_row r = padded 64 r.args

abbrev pub arg_rows : List Rec → List ℕ
arg_rows rs = joined arg_row rs

unfoldable pub handler_number : Bool → ℕ
handler_number true = 1
handler_number false = 0

-- used counts: lines, statements, handlers; the wiring writes the edges, the return targets and the entry rows
unfoldable pub counts_of : Listing → List ℕ
counts_of L = count L.lines ∷ total L.lines ∷ handler_number L.handlers ∷ 0 ∷ 0 ∷ 0 ∷ []

-- what reading answers, with tables of so many entries: the definition's refusal, or 21, 22 with the counts as places
unfoldable pub fitted : (lines stmts args : ℕ) → Listing → Answer
fitted nl ns na L =
    pick (leb (count L.lines) nl)
    (pick (leb (total L.lines) (ns / 12)) (pick (leb (total L.lines) (na / 64)) (listing L) (refusal 22 (total L.lines))) (refusal 22 (total L.lines)))
    (refusal 21 (count L.lines))

unfoldable pub answer_of : (lines stmts args : ℕ) → Answer → Answer
answer_of nl ns na (listing L) = fitted nl ns na L
answer_of nl ns na (refusal n p) = refusal n p

-- a refused text leaves every entry zero
unfoldable pub table_of : (Listing → List ℕ) → Answer → ℕ → List ℕ
table_of f (listing L) n = padded n (f L)
table_of f (refusal m p) n = replicate n 0
