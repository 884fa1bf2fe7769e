-- What a saved program is answered with: a listing that BASIC V2 can write, within the limits, without handlers, its names cut; or a refusal by one of nine numbers (document 02, L3).
-- Assumes nothing.
use Rattle.std.specs.Prelude.{ℕ, zero, suc, ◌+◌, ◌*◌, ◌≤◌, ◌≡◌, refl, List, [], ◌∷◌, ◌++◌, Bool, true, false, ◌&&◌, ◌||◌, eqb, ltb, leb, length, drop}
use Rattle.std.proofs.Common.{subst, arith, leb-true, ltb-true}
use Rattle.std.proofs.Math.Option.{Option, none, some}
use Rattle.listings.specs.Bytes.{pick}
use Rattle.listings.specs.Listing.{Stmts, ∅, Lines, nolines, Listing, size, total, count}
use Rattle.listings.specs.Read.{Outcome, taken, refused, check, ascends, Answer, listing, refusal}
use Rattle.listings.specs.ListingText.{last_number, Above, LinesOk, Within}
use Rattle.listings.specs.Scan.{index_of}
use Rattle.listings.specs.Every.{All, all[], all∷, all_append}
use Rattle.listings.specs.Cut.{cut_listing}
use Rattle.program_laws.specs.V2.{NumberV2, empty, StmtsV2, no_if, LinesV2, no_lines, then_line, V2}
use Rattle.program_laws.specs.ShapesFound.{either, IfBody, body_shape}
use Rattle.program_laws.specs.V2Laws.{stmts_ok, lines_cut}
use Rattle.program_files.specs.Program.{Placed, Body, body, bad, body_of, Offence, sooner, soonest, foreign, lacking, offences, shallow, short, with_line, stmts_in, judged, program, lines_from, loaded, read_program, uncovered, counted, join_go}

-- ---- a line, judged

-- the numbers of a file's refusals: "refusal 1 comes first", "within a line 4 to 8 come after 33 to 35"
pub data ProgramNumber : ℕ → Type 0 where
  too_long : ProgramNumber 1
  of_line : {n : ℕ} → (4 ≤ n) × (n ≤ 8) → ProgramNumber n
  ended : ProgramNumber 33
  foreign_byte : ProgramNumber 34
  misses : ProgramNumber 35

-- of an offence, if one was found
IfOffence : (Offence → Type 0) → Option Offence → Type 0
IfOffence P none = Unit {0}
IfOffence P (some o) = P o

module _ (P : Offence → Type 0) where
  sooner-good : (a : Offence) (b : Option Offence) → P a → IfOffence P b → IfOffence P (sooner a b)
  unfolding IfOffence sooner
  sooner-good a none p q = p
  sooner-good a (some b) p q = either (IfOffence P) (ltb a.0 b.0 || (eqb a.0 b.0 && leb a.1 b.1)) p q

  soonest-good : {l : List Offence} → All P l → IfOffence P (soonest l)
  unfolding IfOffence soonest
  soonest-good all[] = tt
  soonest-good (all∷ p h) = sooner-good _ (soonest _) p (soonest-good h)

abbrev Numbered : Offence → Type 0
Numbered o = ProgramNumber o.1

foreign-numbered : (l : List Placed) → All Numbered (foreign l)
unfolding foreign
foreign-numbered [] = all[]
foreign-numbered (d ∷ l) = either (All Numbered) (eqb d.1 100) (all∷ foreign_byte (foreign-numbered l)) (foreign-numbered l)

lacking-numbered : (b : Body) → All Numbered (lacking b)
unfolding lacking
lacking-numbered (body s) = all[]
lacking-numbered (bad p) = all∷ misses all[]

offences-numbered : (e q n : ℕ) (l : List ℕ) (cs : List Placed) (b : Body) → All Numbered (offences e q n l cs b)
unfolding offences
offences-numbered e q n l cs b =
    all_append (either (All Numbered) (leb n 63999) all[] (all∷ misses all[]))
    (all_append (foreign-numbered cs) (all_append (lacking-numbered b) (either (All Numbered) (ltb (index_of 0 l) (length l)) all[] (all∷ ended all[]))))

-- where none is found, there is none
sooner-some : (a : Offence) (b : Option Offence) → sooner a b ≡ none → ⊥
unfolding sooner
sooner-some a none h = cc
sooner-some a (some b) h = go (ltb a.0 b.0 || (eqb a.0 b.0 && leb a.1 b.1)) h
  where
    go : (x : Bool) → pick x (some a) (some b) ≡ none → ⊥
    go true h = cc
    go false h = cc

offences-none : (e q n : ℕ) (l : List ℕ) (cs : List Placed) (b : Body) → soonest (offences e q n l cs b) ≡ none → n ≤ 63999
unfolding offences soonest
offences-none e q n l cs b h = leb-true n 63999 (go (leb n 63999) h)
  where
    go : (x : Bool) → soonest (pick x [] ((q, 35) ∷ []) ++ (foreign cs ++ (lacking b ++ pick (ltb (index_of 0 l) (length l)) [] ((e, 33) ∷ [])))) ≡ none → x ≡ true
    go true h = refl
    go false h = absurd (sooner-some _ _ h)

-- ---- the lines so far

-- within the limits, and as BASIC V2 can write them
record LinesGood (ls : Lines) : Type 0 where
  ok : LinesOk ls
  few : count ls ≤ 1024
  few_stmts : total ls ≤ 4096
  shape : LinesV2 ls

IfTaken : Outcome Lines → Type 0
IfTaken (taken ls) = LinesGood ls
IfTaken (refused m) = (4 ≤ m) × (m ≤ 8)

check-taken : (x : Bool) (m : ℕ) (o : Outcome Lines) → (4 ≤ m) × (m ≤ 8) → (x ≡ true → IfTaken o) → IfTaken (check x m o)
unfolding check IfTaken
check-taken true m o g h = h refl
check-taken false m o g h = g

ascends_above : (n : ℕ) (m : Option ℕ) → ascends n m ≡ true → Above n m
unfolding ascends Above
ascends_above n none h = tt
ascends_above n (some m) h = ltb-true m n h

with_line-taken : (ls : Lines) (n : ℕ) (s : Stmts) → LinesGood ls → NumberV2 n → StmtsV2 s → IfTaken (with_line ls n s)
unfolding with_line IfTaken count total LinesOk
with_line-taken ls n s g small f =
    check-taken (ascends n (last_number ls)) 4 _ (omega arith, omega arith) λ a.
    check-taken (ltb (count ls) 1024) 5 _ (omega arith, omega arith) λ b.
    check-taken (leb (total ls + size s) 4096) 6 _ (omega arith, omega arith) λ c.
    check-taken (shallow 0 s) 7 _ (omega arith, omega arith) λ d.
    check-taken (short s) 8 _ (omega arith, omega arith) λ e.
    record {
      ok = (g.ok, omega arith, ascends_above n (last_number ls) a, stmts_ok 0 f d e);
      few = omega (arith, ltb-true (count ls) 1024 b);
      few_stmts = leb-true (total ls + size s) 4096 c;
      shape = then_line g.shape small f;
    }

-- ---- an answer

-- what holds of each answer
Good : Answer → Type 0
Good (listing L) = V2 L
Good (refusal n p) = ProgramNumber n

stmts_shape : (b : Body) → IfBody StmtsV2 b → StmtsV2 (stmts_in b)
unfolding IfBody stmts_in
stmts_shape (body s) h = h
stmts_shape (bad p) h = no_if empty

judged-good : (ls : Lines) (n : ℕ) (b : Body) (o : Option Offence) (f : Lines → Answer) → LinesGood ls → IfBody StmtsV2 b → IfOffence Numbered o → (o ≡ none → NumberV2 n)
    → ((ms : Lines) → LinesGood ms → Good (f ms)) → Good (judged ls n b o f)
unfolding judged Good IfOffence IfTaken
judged-good ls n b (some o) f g h p small more = p
judged-good ls n b none f g h p small more = go (with_line ls n (stmts_in b)) (with_line-taken ls n (stmts_in b) g (small refl) (stmts_shape b h))
  where
    go : (r : Outcome Lines) → IfTaken r → Good (elim r [ refused m ↦ refusal m (count ls) | taken ms ↦ f ms ])
    go (refused m) h = of_line h
    go (taken ms) h = more ms h

program-good : (ls : Lines) → LinesGood ls → Good (program ls)
unfolding program Good
program-good ls g = record { within = record { lines = g.ok; line_count = g.few; stmt_count = g.few_stmts }; handlers = refl; lines = g.shape }

lines_good : (k e : ℕ) (ls : Lines) (p : ℕ) (l : List ℕ) → LinesGood ls → Good (lines_from k e ls p l)
unfolding lines_from Good
lines_good zero e ls p l g = ended
lines_good (suc k) e ls p [] g = ended
lines_good (suc k) e ls p (a ∷ []) g = ended
lines_good (suc k) e ls p (a ∷ b ∷ []) g = either Good (eqb a 0 && eqb b 0) (program-good ls g) ended
lines_good (suc k) e ls p (a ∷ b ∷ c ∷ []) g = either Good (eqb a 0 && eqb b 0) (program-good ls g) ended
lines_good (suc k) e ls p (a ∷ b ∷ c ∷ d ∷ l) g =
    let cs : List Placed = counted uncovered (p + 4) l in
    let m : Body = body_of (length cs) ∅ (join_go cs) in
    let n : ℕ = c + 256 * d in
    either Good (eqb a 0 && eqb b 0) (program-good ls g)
    (judged-good ls n m (soonest (offences e (p + 2) n l cs m)) _ g (body_shape (length cs) ∅ (join_go cs) empty)
    (soonest-good Numbered (offences-numbered e (p + 2) n l cs m)) (offences-none e (p + 2) n l cs m)
    (λ ms h. lines_good k e ms (p + 5 + index_of 0 l) (drop (suc (index_of 0 l)) l) h))

answer_good : (f : List ℕ) → Good (read_program f)
unfolding read_program loaded Good LinesOk count total
answer_good f = either Good (leb (length f) 65536) (go f) too_long
  where
    go : (l : List ℕ) → Good (loaded (length f) l)
    go [] = ended
    go (a ∷ []) = ended
    go (a ∷ b ∷ l) = lines_good (suc (length f)) (length f) nolines 2 l (record { ok = tt; few = omega arith; few_stmts = omega arith; shape = no_lines })

-- ---- the laws

-- what a file means is a listing that BASIC V2 can write (and each of those whose `saved` has at most 65,536 bytes is meant by that: `saved-meant` in Shapes)
pub program_shape : (f : List ℕ) (L : Listing) → read_program f ≡ listing L → V2 L
unfolding Good
program_shape f L e = subst Good e (answer_good f)

-- what a file means is a listing within the limits, "whose own text length is not judged"
pub program_within : (f : List ℕ) (L : Listing) → read_program f ≡ listing L → Within L
program_within f L e = (program_shape f L e).within

-- "handlers 0"
pub program_plain : (f : List ℕ) (L : Listing) → read_program f ≡ listing L → L.handlers ≡ false
program_plain f L e = (program_shape f L e).handlers

-- "Names .. are cut as above"
pub program_cut : (f : List ℕ) (L : Listing) → read_program f ≡ listing L → cut_listing L ≡ L
unfolding cut_listing
program_cut f L e = rw (lines_cut (program_shape f L e).lines)

-- "33, the file ends early; 34, .. a 64 hexadecimal ..; 35, ..", "refusal 1 comes first", "within a line 4 to 8 come after 33 to 35": a refusal has no other number
pub program-numbers : (f : List ℕ) (n p : ℕ) → read_program f ≡ refusal n p → ProgramNumber n
unfolding Good
program-numbers f n p e = subst Good e (answer_good f)
