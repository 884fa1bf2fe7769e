-- Each listing that BASIC V2 can write, whose own text has at most 65,536 bytes, is meant by some file (document 02, L3), so a reader that refuses too much can't hide. Assumes nothing.
use Rattle.std.specs.Prelude.{ℕ, zero, suc, ◌+◌, ◌*◌, ◌/◌, ◌%◌, ◌≤◌, ◌<◌, ◌≡◌, refl, List, [], ◌∷◌, ◌++◌, Bool, true, length}
use Rattle.std.proofs.Common.{sym, ap, ◌∙◌, subst, append_assoc, arith, le-leb, lt-ltb, length-append}
use Rattle.std.proofs.Math.Option.{Option, none, some}
use Rattle.listings.specs.Listing.{Stmts, ∅, ◌▸◌, branching, Lines, nolines, line, Listing, size, total, count}
use Rattle.listings.specs.Rows.{all}
use Rattle.listings.specs.Every.{All, all[], all∷, all_append}
use Rattle.listings.specs.Tests.{both_true}
use Rattle.listings.specs.Read.{taken, check, ascends, Answer, listing}
use Rattle.listings.specs.ListingText.{listed, StmtsOk, last_number, Above, LinesOk, listing_text}
use Rattle.program_files.specs.Program.{uncovered, counted, join_go, body, body_of, Offence, soonest, lacking, offences, shallow, short, with_line, stmts_in, judged, program, lines_from, loaded, read_program}
use Rattle.program_laws.specs.V2.{NumberV2, StmtsV2, LinesV2, no_lines, then_line, V2}
use Rattle.program_laws.specs.Saved.{stmts_bytes, lines_bytes, saved}
use Rattle.program_laws.specs.PlacedBytes.{placed, placed-length, Byte, is_clean, clean_byte, counted-placed, foreign-placed, join-placed, zero-placed, drop_line}
use Rattle.program_laws.specs.StatementReads.{stmts_read}
use Rattle.program_laws.specs.SavedBytes.{saved-length, clean_stmts}

-- ---- a line within the limits is taken

shallow_ok : (d : ℕ) (s : Stmts) → StmtsOk d s → shallow d s ≡ true
unfolding StmtsOk shallow
shallow_ok d ∅ h = refl
shallow_ok d (s ▸ o) h = rw (shallow_ok d s h.0, le-leb d 16 h.1)
shallow_ok d (branching s w t a u b) h = rw (shallow_ok d s h.0, le-leb d 16 h.1, shallow_ok (suc d) a h.3, shallow_ok (suc d) b h.4)

short_ok : (d : ℕ) (s : Stmts) → StmtsOk d s → short s ≡ true
unfolding StmtsOk short
short_ok d ∅ h = refl
short_ok d (s ▸ o) h = rw (short_ok d s h.0, le-leb (listed o) 64 h.3)
short_ok d (branching s w t a u b) h = rw (short_ok d s h.0, short_ok (suc d) a h.3, short_ok (suc d) b h.4)

above_ascends : (n : ℕ) (m : Option ℕ) → Above n m → ascends n m ≡ true
unfolding Above ascends
above_ascends n none h = refl
above_ascends n (some m) h = lt-ltb m n h

-- lines within the limits, and no more than there may be
record Fits (ls : Lines) : Type 0 where
  ok : LinesOk ls
  few : count ls ≤ 1024
  few_stmts : total ls ≤ 4096

fits-before : (ls : Lines) (n : ℕ) (s : Stmts) → Fits (line ls n s) → Fits ls
unfolding LinesOk count total
fits-before ls n s h = record { ok = h.ok.0; few = omega (arith, h.few); few_stmts = omega (arith, h.few_stmts) }

line_taken : (ls : Lines) (n : ℕ) (s : Stmts) → Fits (line ls n s) → with_line ls n s ≡ taken (line ls n s)
unfolding with_line check LinesOk count total
line_taken ls n s h =
    rw (above_ascends n (last_number ls) h.ok.2, lt-ltb (count ls) 1024 (omega (arith, h.few)), le-leb (total ls + size s) 4096 h.few_stmts, shallow_ok 0 s h.ok.3, short_ok 0 s h.ok.3)

-- ---- a line is read

none_offends : (e q n : ℕ) (m bs : List ℕ) (s : Stmts) (p : ℕ) → NumberV2 n → all is_clean bs ≡ true
    → soonest (offences e q n (bs ++ (0 ∷ m)) (placed p bs) (body s)) ≡ none
unfolding offences lacking soonest
none_offends e q n m bs s p h c =
    rw (le-leb n 63999 h, foreign-placed p bs c, zero-placed bs m c, lt-ltb (length bs) (length (bs ++ (0 ∷ m))) (simp length-append (omega arith)))

judged-taken : (ls : Lines) (n : ℕ) (s : Stmts) (o : Option Offence) (f : Lines → Answer) → o ≡ none → with_line ls n s ≡ taken (line ls n s) → judged ls n (body s) o f ≡ f (line ls n s)
unfolding judged stmts_in
judged-taken ls n s o f e g = rw (e, judged, g)

-- the place of the line behind it
abbrev next_place : ℕ → List ℕ → ℕ
next_place p bs = p + 5 + length bs

line_read : (k e : ℕ) (ls : Lines) (p n : ℕ) {s : Stmts} (m : List ℕ) → NumberV2 n → StmtsV2 s → Fits (line ls n s)
    → lines_from (suc k) e ls p (1 ∷ 8 ∷ (n % 256) ∷ (n / 256) ∷ (stmts_bytes s ++ (0 ∷ m))) ≡ lines_from k e (line ls n s) (next_place p (stmts_bytes s)) m
unfolding lines_from
line_read k e ls p n {s} m h g fits =
    let bs : List ℕ = stmts_bytes s in
    let c : all is_clean bs ≡ true = clean_stmts g in
    let number : n % 256 + 256 * (n / 256) ≡ n = omega arith in
    let bytes : counted uncovered (p + 4) (bs ++ (0 ∷ m)) ≡ placed (p + 4) bs = counted-placed (p + 4) bs m c in
    let joined : join_go (placed (p + 4) bs) ≡ placed (p + 4) bs = join-placed (p + 4) bs c in
    let statements : body_of (length (placed (p + 4) bs)) ∅ (placed (p + 4) bs) ≡ body s = stmts_read (length (placed (p + 4) bs)) (p + 4) g (omega (arith, placed-length (p + 4) bs)) in
    rw (number, bytes, joined, statements)
    (judged-taken ls n s _ _ (none_offends e (p + 2) n m bs s (p + 4) h c) (line_taken ls n s fits)
    ∙ rw (zero-placed bs m c, drop_line bs m))

-- ---- all lines

-- the reading comes to the lines ls before the bytes m
record Further (k e : ℕ) (l : List ℕ) (ls : Lines) (m : List ℕ) : Type 0 where
  fuel : ℕ
  place : ℕ
  enough : length m < fuel
  reads : lines_from k e nolines 2 l ≡ lines_from fuel e ls place m

line_further : (k e : ℕ) (l : List ℕ) (ls : Lines) (n : ℕ) {s : Stmts} (m : List ℕ) → NumberV2 n → StmtsV2 s → Fits (line ls n s)
    → Further k e l ls (1 ∷ 8 ∷ (n % 256) ∷ (n / 256) ∷ (stmts_bytes s ++ (0 ∷ m))) → Further k e l (line ls n s) m
line_further k e l ls n {s} m h g fits x = go x.fuel x.place x.enough x.reads
  where
    go : (j p : ℕ) → length (1 ∷ 8 ∷ (n % 256) ∷ (n / 256) ∷ (stmts_bytes s ++ (0 ∷ m))) < j
        → lines_from k e nolines 2 l ≡ lines_from j e ls p (1 ∷ 8 ∷ (n % 256) ∷ (n / 256) ∷ (stmts_bytes s ++ (0 ∷ m))) → Further k e l (line ls n s) m
    go zero p enough reads = absurd (omega arith)
    go (suc j) p enough reads =
        let more : suc (suc (suc (suc (length (stmts_bytes s) + suc (length m))))) < suc j = simp length-append at enough in
        record { fuel = j; place = next_place p (stmts_bytes s); enough = omega arith; reads = reads ∙ line_read j e ls p n m h g fits }

lines_read : (k e : ℕ) {ls : Lines} (m : List ℕ) → LinesV2 ls → Fits ls → length (lines_bytes ls ++ m) < k → Further k e (lines_bytes ls ++ m) ls m
unfolding lines_bytes
lines_read k e m no_lines f g = record { fuel = k; place = 2; enough = g; reads = refl }
lines_read k e m (then_line {ls} {n} {s} h small stmts) f g =
    let l : List ℕ = 1 ∷ 8 ∷ (n % 256) ∷ (n / 256) ∷ (stmts_bytes s ++ (0 ∷ m)) in
    let bytes : lines_bytes (line ls n s) ++ m ≡ lines_bytes ls ++ l =
    append_assoc (lines_bytes ls) (1 ∷ 8 ∷ (n % 256) ∷ (n / 256) ∷ (stmts_bytes s ++ (0 ∷ []))) m
    ∙ ap (λ (z : List ℕ). lines_bytes ls ++ (1 ∷ 8 ∷ (n % 256) ∷ (n / 256) ∷ z)) (append_assoc (stmts_bytes s) (0 ∷ []) m) in
    subst (λ (z : List ℕ). Further k e z (line ls n s) m) (sym bytes)
    (line_further k e (lines_bytes ls ++ l) ls n m small stmts f (lines_read k e l h (fits-before ls n s f) (subst (λ (z : List ℕ). length z < k) bytes g)))

-- a link of 0
lines_end : (k e : ℕ) (ls : Lines) (p : ℕ) → 0 < k → lines_from k e ls p (0 ∷ 0 ∷ []) ≡ program ls
unfolding lines_from
lines_end zero e ls p h = absurd (omega arith)
lines_end (suc k) e ls p h = refl

-- ---- the laws

-- a listing "whose own text length is not judged": the file that was written of it means it, where that has at most 65,536 bytes
pub saved-meant : (L : Listing) → V2 L → length (saved L) ≤ 65536 → read_program (saved L) ≡ listing L
unfolding read_program loaded saved program
saved-meant L v h =
    let e : ℕ = length (saved L) in
    let x : Further (suc e) e (lines_bytes L.lines ++ (0 ∷ 0 ∷ [])) L.lines (0 ∷ 0 ∷ []) =
    lines_read (suc e) e (0 ∷ 0 ∷ []) v.lines (record { ok = v.within.lines; few = v.within.line_count; few_stmts = v.within.stmt_count }) (omega arith) in
    rw (le-leb e 65536 h)
    (x.reads ∙ lines_end x.fuel e L.lines x.place (omega (arith, x.enough)) ∙ ap (λ (b : Bool). listing (record { handlers = b; lines = L.lines })) (sym v.handlers))

-- "every listing within the limits whose IFs stand last, with numbers to 63999, ON with at least one number, NEXT with `*` or names, and whose own text has at most 65,536 bytes, is meant by
-- some file, so a reader that refuses too much is found"
pub shape_meant : (L : Listing) → V2 L → length (listing_text L) ≤ 65536 → read_program (saved L) ≡ listing L
shape_meant L v h = saved-meant L v (omega (arith, saved-length L))

-- ---- a file that was written

clean_bytes : (l : List ℕ) → all is_clean l ≡ true → All Byte l
unfolding all
clean_bytes [] h = all[]
clean_bytes (b ∷ l) h = let q = both_true (is_clean b) (all is_clean l) h in all∷ (clean_byte b q.0) (clean_bytes l q.1)

lines_are : {ls : Lines} → LinesV2 ls → All Byte (lines_bytes ls)
unfolding lines_bytes
lines_are no_lines = all[]
lines_are (then_line {ls} {n} {s} h small g) =
    all_append (lines_are h)
    (all∷ (omega arith) (all∷ (omega arith) (all∷ (omega arith) (all∷ (omega (arith, small)) (all_append (clean_bytes (stmts_bytes s) (clean_stmts g)) (all∷ (omega arith) all[]))))))

-- what the writer writes of such a listing are bytes
pub saved-bytes : (L : Listing) → V2 L → All Byte (saved L)
unfolding saved
saved-bytes L v = all∷ (omega arith) (all∷ (omega arith) (all_append (lines_are v.lines) (all∷ (omega arith) (all∷ (omega arith) all[]))))
