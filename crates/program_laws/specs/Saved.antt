-- A writer of saved programs: for a listing of a shape that BASIC V2 can write, a file that means it (document 02, L3). Assumes nothing.
-- A form that BASIC V2 has not is written as some other; nothing is said of those.
use Rattle.std.specs.Prelude.{ℕ, ◌/◌, ◌%◌, List, [], ◌∷◌, ◌++◌, map}
use Rattle.std.proofs.Math.Option.{none, some}
use Rattle.listings.specs.Bytes.{decimal}
use Rattle.listings.specs.Listing.{Slot, JumpWord, goto, gosub, runto, OnWord, ongoto, ongosub, BareWord, return, run, clr, stop, any, Simple, jump, on, for, next, block, bare, BranchForm, to, stmts, absent, Stmts, ∅, ◌▸◌, branching, Lines, nolines, line, Listing}

-- commas between words
unfoldable pub commas : List (List ℕ) → List ℕ
commas [] = []
commas (w ∷ []) = w
commas (w ∷ v ∷ ws) = w ++ (44 ∷ commas (v ∷ ws))

-- tokens: GOTO 89, GOSUB 8D, RUN 8A
unfoldable pub jump_token : JumpWord → ℕ
jump_token goto = 137
jump_token gosub = 141
jump_token runto = 138

unfoldable pub on_token : OnWord → ℕ
on_token ongoto = 137
on_token ongosub = 141

-- RETURN 8E, RUN 8A, CLR 9C, STOP 90; a plain statement is a PRINT, 99
unfoldable pub bare_token : BareWord → ℕ
bare_token return = 142
bare_token run = 138
bare_token clr = 156
bare_token stop = 144
bare_token any = 153
bare_token BareWord.plain = 153

unfoldable pub slot_bytes : Slot → List ℕ
slot_bytes none = []
slot_bytes (some v) = v

-- `ON A GOTO 10,20`, `FOR A=0 TO 0`, `NEXT A,B` (ON 91, FOR 81, = B2, TO A4, NEXT 82)
unfoldable pub simple_bytes : Simple → List ℕ
simple_bytes (jump w n) = jump_token w ∷ decimal n
simple_bytes (on w ns) = 145 ∷ 65 ∷ on_token w ∷ commas (map decimal ns)
simple_bytes (for v t) = 129 ∷ (v ++ (178 ∷ 48 ∷ 164 ∷ 48 ∷ []))
simple_bytes (next m ss) = 130 ∷ commas (map slot_bytes ss)
simple_bytes (block w) = 153 ∷ []
simple_bytes (bare w) = bare_token w ∷ []

-- behind THEN: a number, or a colon and the statements
unfoldable pub branch_bytes : BranchForm → List ℕ → List ℕ
branch_bytes (to n) l = decimal n
branch_bytes stmts l = 58 ∷ l
branch_bytes absent l = []

-- each statement with a colon behind it; `IF A THEN` (IF 8B, THEN A7)
unfoldable pub stmts_bytes : Stmts → List ℕ
stmts_bytes ∅ = []
stmts_bytes (s ▸ o) = stmts_bytes s ++ (simple_bytes o ++ (58 ∷ []))
stmts_bytes (branching s w t a u b) = stmts_bytes s ++ (139 ∷ 65 ∷ 167 ∷ branch_bytes t (stmts_bytes a))

-- "per line a link word, a line number word (both low byte first), the bytes, and a zero"
unfoldable pub lines_bytes : Lines → List ℕ
lines_bytes nolines = []
lines_bytes (line ls n s) = lines_bytes ls ++ (1 ∷ 8 ∷ (n % 256) ∷ (n / 256) ∷ (stmts_bytes s ++ (0 ∷ [])))

-- "two load address bytes"; "A link of 0 ends the reading"
unfoldable pub saved : Listing → List ℕ
saved L = 1 ∷ 8 ∷ (lines_bytes L.lines ++ (0 ∷ 0 ∷ []))
