-- A saved BASIC V2 program as the listing that it means, or its refusal (document 02, L3). Assumes nothing.
-- In passes: which bytes of a line count, each with its place in the file; the statements among them; the line's verdict; the lines in order.
-- k, where it stands: more than there are bytes left, so that a recursion over what is left has something that falls.
use Rattle.std.specs.Prelude.{ℕ, zero, suc, ◌+◌, ◌*◌, ◌-◌, List, [], ◌∷◌, ◌++◌, map, Bool, true, false, ◌&&◌, ◌||◌, not, eqb, ltb, leb, length, drop}
use Rattle.std.proofs.Math.Option.{Option, none, some}
use Rattle.listings.specs.Bytes.{pick}
use Rattle.listings.specs.Listing.{Name, static, Mark, goto, gosub, runto, ongoto, ongosub, return, run, clr, stop, BareWord, Simple, jump, on, for, next, bare, if, to, stmts, absent, Stmts, ∅, ◌▸◌, branching, Lines, nolines, line, Listing, size, total, count}
use Rattle.listings.specs.Rows.{is_digit, is_capital}
use Rattle.listings.specs.Read.{Outcome, taken, refused, check, ascends, Answer, listing, refusal}
use Rattle.listings.specs.ListingText.{listed, last_number}
use Rattle.listings.specs.Scan.{index_of}
use Rattle.listings.specs.Cut.{cut_name}

-- ---- the bytes that count

-- a place in the file, and the byte there
abbrev pub Placed : Type 0
Placed = ℕ × ℕ

-- what covers a byte of a line: nothing, quotes, a REM, a DATA, quotes in a DATA
pub data Cover : Type 0 where
  uncovered quoted remark items quoted_item : Cover

-- "Of REM and DATA, anywhere in a statement, the first counts: REM takes the rest of the line, DATA runs to its colon." What covers the byte behind b
-- (quote 22, REM 8F, DATA 83, colon 3A)
unfoldable pub behind : Cover → ℕ → Cover
behind uncovered b = pick (eqb b 34) quoted (pick (eqb b 143) remark (pick (eqb b 131) items uncovered))
behind quoted b = pick (eqb b 34) uncovered quoted
behind remark b = remark
behind items b = pick (eqb b 34) quoted_item (pick (eqb b 58) uncovered items)
behind quoted_item b = pick (eqb b 34) items quoted_item

-- "Quoted bytes are no tokens." "Spaces outside quotes are skipped": whether a byte under this cover counts
unfoldable pub counts : Cover → ℕ → Bool
counts uncovered b = not (eqb b 32)
counts quoted b = false
counts remark b = false
counts items b = eqb b 58
counts quoted_item b = false

-- "the bytes, and a zero": the bytes of a line that count, from place p on; last its zero, or the file's end as if it were one
unfoldable pub counted : Cover → ℕ → List ℕ → List Placed
counted c p [] = (p, 0) ∷ []
counted c p (b ∷ l) = let r = counted (behind c b) (suc p) l in pick (eqb b 0) ((p, 0) ∷ []) (pick (counts c b) ((p, b) ∷ r) r)

-- "GO then TO is GOTO" (GO CB, TO A4, GOTO 89)
unfoldable pub join_go : List Placed → List Placed
join_go [] = []
join_go (d ∷ []) = d ∷ []
join_go (d ∷ e ∷ l) = pick (eqb d.1 203 && eqb e.1 164) ((d.0, 137) ∷ join_go l) (d ∷ join_go (e ∷ l))

-- ---- numbers, names, lists of them

-- what was found and the bytes behind it, or the place that 35 names
pub data Found (A : Type 0) : Type 0 where
  found : A → List Placed → Found A
  lacks : ℕ → Found A

unfoldable pub map_found : {A B : Type 0} → (A → B) → Found A → Found B
map_found f (found a l) = found (f a) l
map_found f (lacks p) = lacks p

unfoldable pub digits : ℕ → List Placed → ℕ × List Placed
digits a [] = (a, [])
digits a (d ∷ l) = pick (is_digit d.1) (digits (a * 10 + (d.1 - 48)) l) (a, d ∷ l)

-- "lacks .. a line number", "or a line number exceeds 63999"; the place is "a number's first byte, or the one found instead"
unfoldable pub line_number : List Placed → Found ℕ
line_number [] = lacks 0
line_number (d ∷ l) = let r = digits 0 (d ∷ l) in pick (is_digit d.1 && leb r.0 63999) (found r.0 r.1) (lacks d.0)

unfoldable pub characters : List Placed → List ℕ × List Placed
characters [] = ([], [])
characters (d ∷ l) = let r = characters l in pick (is_capital d.1 || is_digit d.1) (d.1 ∷ r.0, r.1) ([], d ∷ l)

-- `%` or `$` behind the characters
unfoldable pub with_kind : List ℕ → List Placed → Found Name
with_kind v [] = found (cut_name v) []
with_kind v (d ∷ l) = pick (eqb d.1 37 || eqb d.1 36) (found (cut_name (v ++ (d.1 ∷ []))) l) (found (cut_name v) (d ∷ l))

-- "Names start with a capital, may be of any length and are cut as above."
unfoldable pub name : List Placed → Found Name
name [] = lacks 0
name (d ∷ l) = let r = characters (d ∷ l) in pick (is_capital d.1) (with_kind r.0 r.1) (lacks d.0)

-- "a comma brings ON a further number and NEXT a further name"
unfoldable pub after_comma : {A : Type 0} → A → (List Placed → Found (List A)) → List Placed → Found (List A)
after_comma a f [] = found (a ∷ []) []
after_comma a f (d ∷ l) = pick (eqb d.1 44) (map_found (λ bs. a ∷ bs) (f l)) (found (a ∷ []) (d ∷ l))

unfoldable pub several : {A : Type 0} → (List Placed → Found A) → ℕ → List Placed → Found (List A)
several f zero l = lacks 0
several f (suc k) l = elim (f l) [ lacks p ↦ lacks p | found a r ↦ after_comma a (several f k) r ]

-- ---- a statement

-- one that holds no others; an IF with a jump branch; an IF whose THEN "holds the rest of its line"
pub data Action : Type 0 where
  does : Simple → Action
  jumps : ℕ → Action
  holds : Action

unfoldable pub ends : ℕ → Bool
ends b = eqb b 0 || eqb b 58

-- the first of two tokens in a statement; without it the place is "after an expression the statement's colon or zero"
unfoldable pub seek : ℕ → ℕ → List Placed → Found ℕ
seek x y [] = lacks 0
seek x y (d ∷ l) = pick (ends d.1) (lacks d.0) (pick (eqb d.1 x || eqb d.1 y) (found d.1 l) (seek x y l))

-- "IF with THEN or GOTO and a number is a jump branch"; "Any other THEN holds the rest of its line"; "or has only spaces after it to the line's end"
unfoldable pub branch : ℕ → List Placed → Found Action
branch b [] = lacks 0
branch b (d ∷ l) = pick (is_digit d.1) (map_found jumps (line_number (d ∷ l))) (pick (eqb b 167 && not (eqb d.1 0)) (found holds (d ∷ l)) (lacks d.0))

-- "an IF lacks THEN or GOTO"
unfoldable pub if_action : List Placed → Found Action
if_action l = elim (seek 167 137 l) [ lacks p ↦ lacks p | found b r ↦ branch b r ]

-- "ON has GOTO or GOSUB after its expression"
unfoldable pub on_action : ℕ → List Placed → Found Action
on_action k l = elim (seek 137 141 l) [ lacks p ↦ lacks p | found b r ↦ map_found (λ ns. does (on (pick (eqb b 137) ongoto ongosub) ns)) (several line_number k r) ]

-- "NEXT with no name first has the one slot `*`."
unfoldable pub next_action : ℕ → List Placed → Found Action
next_action k [] = lacks 0
next_action k (d ∷ l) = pick (is_capital d.1) (map_found (λ vs. does (next Mark.plain (map some vs))) (several name k (d ∷ l))) (found (does (next Mark.plain (none ∷ []))) (d ∷ l))

-- RUN: with a number or without
unfoldable pub run_action : List Placed → Found Action
run_action [] = lacks 0
run_action (d ∷ l) = pick (is_digit d.1) (map_found (λ n. does (jump runto n)) (line_number (d ∷ l))) (found (does (bare run)) (d ∷ l))

-- a statement by its first byte; "FOR is static, NEXT plain, handlers 0, every other statement plain"
unfoldable pub action : ℕ → ℕ → List Placed → Found Action
action k b l =
    -- END 80, STOP 90, RETURN 8E, CLR 9C
    pick (eqb b 128 || eqb b 144) (found (does (bare stop)) l) (pick (eqb b 142) (found (does (bare return)) l) (pick (eqb b 156) (found (does (bare clr)) l)
    -- FOR 81, NEXT 82
    (pick (eqb b 129) (map_found (λ v. does (for v static)) (name l)) (pick (eqb b 130) (next_action k l)
    -- GOTO 89, GOSUB 8D, RUN 8A
    (pick (eqb b 137) (map_found (λ n. does (jump goto n)) (line_number l)) (pick (eqb b 141) (map_found (λ n. does (jump gosub n)) (line_number l)) (pick (eqb b 138) (run_action l)
    -- IF 8B, ON 91
    (pick (eqb b 139) (if_action l) (pick (eqb b 145) (on_action k l) (found (does (bare BareWord.plain)) l))))))))))

-- ---- a line

-- "The rest of a statement is passed over": up to its colon or zero
unfoldable pub pass_over : List Placed → List Placed
pass_over [] = []
pass_over (d ∷ l) = pick (ends d.1) (d ∷ l) (pass_over l)

-- the statements of a line, or the place that 35 names
pub data Body : Type 0 where
  body : Stmts → Body
  bad : ℕ → Body

unfoldable pub map_body : (Stmts → Stmts) → Body → Body
map_body f (body s) = body (f s)
map_body f (bad p) = bad p

-- behind the statements s. "Statements part at colons outside quotes"; "an empty statement makes no node"; of a jump branch "the rest of that line makes no node and
-- meets only 33 and 34"
unfoldable pub body_of : ℕ → Stmts → List Placed → Body
body_of zero s l = body s
body_of (suc k) s [] = body s
body_of (suc k) s (d ∷ l) =
    pick (eqb d.1 0) (body s) (pick (eqb d.1 58) (body_of k s l)
    (elim (action k d.1 l) [
      | lacks p ↦ bad p
      | found (does o) r ↦ body_of k (s ▸ o) (pass_over r)
      | found (jumps n) r ↦ body (branching s if (to n) ∅ absent ∅)
      | found holds r ↦ map_body (λ a. branching s if stmts a absent ∅) (body_of k ∅ r)
    ]))

-- ---- a line, judged

-- a place, and the number that it is refused by
abbrev pub Offence : Type 0
Offence = ℕ × ℕ

-- "The first offending byte decides and is the place .., and 34 comes before 35 on one byte"
unfoldable pub sooner : Offence → Option Offence → Option Offence
sooner a none = some a
sooner a (some b) = pick (ltb a.0 b.0 || (eqb a.0 b.0 && leb a.1 b.1)) (some a) (some b)

unfoldable pub soonest : List Offence → Option Offence
soonest [] = none
soonest (a ∷ l) = sooner a (soonest l)

-- "34, among a line's bytes .. a 64 hexadecimal outside quotes, REM and DATA"
unfoldable pub foreign : List Placed → List Offence
foreign [] = []
foreign (d ∷ l) = pick (eqb d.1 100) ((d.0, 34) ∷ foreign l) (foreign l)

unfoldable pub lacking : Body → List Offence
lacking (body s) = []
lacking (bad p) = (p, 35) ∷ []

-- of the line whose number n stands at place q and whose bytes are the first of l; e: the file's length, which is the place of 33
unfoldable pub offences : (e q n : ℕ) → List ℕ → List Placed → Body → List Offence
offences e q n l cs b = pick (leb n 63999) [] ((q, 35) ∷ []) ++ (foreign cs ++ (lacking b ++ pick (ltb (index_of 0 l) (length l)) [] ((e, 33) ∷ [])))

-- "7 a statement at depth 17", "8 a 65th number or slot"
unfoldable pub shallow : ℕ → Stmts → Bool
shallow d ∅ = true
shallow d (s ▸ o) = shallow d s && leb d 16
shallow d (branching s w t a u b) = shallow d s && leb d 16 && shallow (suc d) a && shallow (suc d) b

unfoldable pub short : Stmts → Bool
short ∅ = true
short (s ▸ o) = short s && leb (listed o) 64
short (branching s w t a u b) = short s && short a && short b

-- "within a line 4 to 8 come after 33 to 35, lowest first"
unfoldable pub with_line : Lines → ℕ → Stmts → Outcome Lines
with_line ls n s =
    check (ascends n (last_number ls)) 4 (check (ltb (count ls) 1024) 5 (check (leb (total ls + size s) 4096) 6 (check (shallow 0 s) 7 (check (short s) 8 (taken (line ls n s))))))

unfoldable pub stmts_in : Body → Stmts
stmts_in (body s) = s
stmts_in (bad p) = ∅

-- "with the line index as place"; f: the lines behind it
unfoldable pub judged : Lines → ℕ → Body → Option Offence → (Lines → Answer) → Answer
judged ls n b (some o) f = refusal o.1 o.0
judged ls n b none f = elim (with_line ls n (stmts_in b)) [ refused m ↦ refusal m (count ls) | taken ms ↦ f ms ]

-- ---- the file

-- "handlers 0"
unfoldable pub program : Lines → Answer
program ls = listing (record { handlers = false; lines = ls })

-- "per line a link word, a line number word (both low byte first), the bytes, and a zero. A link of 0 ends the reading; other links are not followed."
-- From place p on, behind the lines ls; "lines are judged in order"
unfoldable pub lines_from : (k e : ℕ) → Lines → ℕ → List ℕ → Answer
lines_from zero e ls p l = refusal 33 e
lines_from (suc k) e ls p [] = refusal 33 e
lines_from (suc k) e ls p (a ∷ []) = refusal 33 e
lines_from (suc k) e ls p (a ∷ b ∷ []) = pick (eqb a 0 && eqb b 0) (program ls) (refusal 33 e)
lines_from (suc k) e ls p (a ∷ b ∷ c ∷ []) = pick (eqb a 0 && eqb b 0) (program ls) (refusal 33 e)
lines_from (suc k) e ls p (a ∷ b ∷ c ∷ d ∷ l) =
    let cs = counted uncovered (p + 4) l in
    let m = body_of (length cs) ∅ (join_go cs) in
    let n = c + 256 * d in
    pick (eqb a 0 && eqb b 0) (program ls)
    (judged ls n m (soonest (offences e (p + 2) n l cs m)) (λ ms. lines_from k e ms (p + 5 + index_of 0 l) (drop (suc (index_of 0 l)) l)))

-- "two load address bytes"; "33, the file ends early"
unfoldable pub loaded : ℕ → List ℕ → Answer
loaded e [] = refusal 33 e
loaded e (a ∷ []) = refusal 33 e
loaded e (a ∷ b ∷ l) = lines_from (suc e) e nolines 2 l

-- "refusal 1 comes first with place 0"
unfoldable pub read_program : List ℕ → Answer
read_program f = pick (leb (length f) 65536) (loaded (length f) f) (refusal 1 0)
