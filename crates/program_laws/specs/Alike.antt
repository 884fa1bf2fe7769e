-- Load address, links other than 0 and what follows the end do not matter: files alike but for these mean the same, or are refused alike (document 02, L3). Assumes nothing.
use Rattle.std.specs.Prelude.{ℕ, zero, suc, ◌+◌, ◌*◌, ◌<◌, ◌≤◌, ◌≡◌, refl, List, [], ◌∷◌, ◌++◌, Bool, true, false, ◌&&◌, eqb, length, drop}
use Rattle.std.proofs.Common.{sym, ap, ◌∙◌, arith, length-append, lt-ltb, le-leb}
use Rattle.std.proofs.Math.Option.{Option, none, some}
use Rattle.listings.specs.Bytes.{pick}
use Rattle.listings.specs.Listing.{∅, Lines, nolines, count}
use Rattle.listings.specs.Read.{Outcome, taken, refused, Answer, refusal}
use Rattle.listings.specs.Scan.{index_of}
use Rattle.program_files.specs.Program.{Placed, Cover, uncovered, counted, behind, join_go, body_of, Body, Offence, soonest, offences, with_line, stmts_in, judged, program, lines_from, loaded, read_program}

-- Two files from a link on (a b: its two bytes; c d: the number word), alike but for links that are not 0 and for what follows a link 0.
-- index_of 0 l ≡ length l: no byte of l is a zero
pub data Alike : List ℕ → List ℕ → Type 0 where
  -- "A link of 0 ends the reading": anything follows
  over : {f g : List ℕ} → Alike (0 ∷ 0 ∷ f) (0 ∷ 0 ∷ g)
  -- nothing, or one byte of a link, whichever: "the file ends early"
  none_left : Alike [] []
  half : {a a' : ℕ} → Alike (a ∷ []) (a' ∷ [])
  -- each its own link, and no more than one byte of the number, the same
  early : {a b a' b' : ℕ} {l : List ℕ} → (eqb a 0 && eqb b 0) ≡ false → (eqb a' 0 && eqb b' 0) ≡ false → length l < 2 → Alike (a ∷ b ∷ l) (a' ∷ b' ∷ l)
  -- "other links are not followed": each its own, then the same number, the same bytes, a zero, and so on
  goes : {a b a' b' c d : ℕ} (l : List ℕ) {f g : List ℕ} → (eqb a 0 && eqb b 0) ≡ false → (eqb a' 0 && eqb b' 0) ≡ false → index_of 0 l ≡ length l → Alike f g
      → Alike (a ∷ b ∷ c ∷ d ∷ (l ++ (0 ∷ f))) (a' ∷ b' ∷ c ∷ d ∷ (l ++ (0 ∷ g)))
  -- each its own link, the same number, and the same bytes without a zero: "33, the file ends early"
  cut : {a b a' b' c d : ℕ} {l : List ℕ} → (eqb a 0 && eqb b 0) ≡ false → (eqb a' 0 && eqb b' 0) ≡ false → index_of 0 l ≡ length l
      → Alike (a ∷ b ∷ c ∷ d ∷ l) (a' ∷ b' ∷ c ∷ d ∷ l)

-- ---- bytes up to a zero

-- what follows the zero does not count
counted_to : (c : Cover) (p : ℕ) (l f g : List ℕ) → counted c p (l ++ (0 ∷ f)) ≡ counted c p (l ++ (0 ∷ g))
unfolding counted
counted_to c p [] f g = refl
counted_to c p (b ∷ l) f g = rw (counted_to (behind c b) (suc p) l f g)

index_to : (l f : List ℕ) → index_of 0 l ≡ length l → index_of 0 (l ++ (0 ∷ f)) ≡ length l
unfolding index_of
index_to [] f h = refl
index_to (b ∷ l) f h = go (eqb b 0) h (index_to l f)
  where
    go : (x : Bool) → pick x 0 (suc (index_of 0 l)) ≡ suc (length l) → (index_of 0 l ≡ length l → index_of 0 (l ++ (0 ∷ f)) ≡ length l)
        → pick x 0 (suc (index_of 0 (l ++ (0 ∷ f)))) ≡ suc (length l)
    go true q r = absurd (omega arith)
    go false q r = ap suc (r (omega arith))

drop_to : (l f : List ℕ) → drop (suc (length l)) (l ++ (0 ∷ f)) ≡ f
drop_to [] f = refl
drop_to (b ∷ l) f = drop_to l f

-- ---- a line

-- "33, the file ends early" does not meet a line with its zero
offences_to : (e j q n : ℕ) (l f g : List ℕ) (cs : List Placed) (b : Body) → index_of 0 l ≡ length l → offences e q n (l ++ (0 ∷ f)) cs b ≡ offences j q n (l ++ (0 ∷ g)) cs b
unfolding offences
offences_to e j q n l f g cs b h =
    rw (index_to l f h, index_to l g h, lt-ltb (length l) (length (l ++ (0 ∷ f))) (simp length-append (omega arith)), lt-ltb (length l) (length (l ++ (0 ∷ g))) (simp length-append (omega arith)))

-- the lines behind it may be told otherwise
judged-same : (ls : Lines) (n : ℕ) (b : Body) (o : Option Offence) (f g : Lines → Answer) → ((ms : Lines) → f ms ≡ g ms) → judged ls n b o f ≡ judged ls n b o g
unfolding judged
judged-same ls n b (some o) f g h = refl
judged-same ls n b none f g h = go (with_line ls n (stmts_in b))
  where
    go : (x : Outcome Lines) → elim x as (λ _. Answer) [ refused m ↦ refusal m (count ls) | taken ms ↦ f ms ] ≡ elim x as (λ _. Answer) [ refused m ↦ refusal m (count ls) | taken ms ↦ g ms ]
    go (refused m) = refl
    go (taken ms) = h ms

-- ---- the file

-- a link of 0 ends the file, whatever follows
ended_there : (k e p : ℕ) (ls : Lines) (f : List ℕ) → 0 < k → lines_from k e ls p (0 ∷ 0 ∷ f) ≡ program ls
unfolding lines_from
ended_there zero e p ls f h = absurd (omega arith)
ended_there (suc k) e p ls [] h = refl
ended_there (suc k) e p ls (c ∷ []) h = refl
ended_there (suc k) e p ls (c ∷ d ∷ f) h = refl

-- with fewer than four bytes, and no link of 0, the file ends early: 33 at its length
ends_none : (k e p : ℕ) (ls : Lines) → lines_from k e ls p [] ≡ refusal 33 e
unfolding lines_from
ends_none zero e p ls = refl
ends_none (suc k) e p ls = refl

ends_half : (k e p a : ℕ) (ls : Lines) → lines_from k e ls p (a ∷ []) ≡ refusal 33 e
unfolding lines_from
ends_half zero e p a ls = refl
ends_half (suc k) e p a ls = refl

ends_early : (k e p a b : ℕ) (l : List ℕ) (ls : Lines) → (eqb a 0 && eqb b 0) ≡ false → length l < 2 → lines_from k e ls p (a ∷ b ∷ l) ≡ refusal 33 e
unfolding lines_from
ends_early zero e p a b l ls h s = refl
ends_early (suc k) e p a b [] ls h s = rw h refl
ends_early (suc k) e p a b (c ∷ []) ls h s = rw h refl
ends_early (suc k) e p a b (c ∷ d ∷ l) ls h s = absurd (omega arith)

-- what a line without a zero leaves
drop_past : (l : List ℕ) → drop (suc (length l)) l ≡ []
drop_past [] = refl
drop_past (b ∷ l) = drop_past l

-- from a link on; the file's length is e, or j
lines_same : {f g : List ℕ} → Alike f g → (k i e j p : ℕ) (ls : Lines) → length f < k → length g < i → e ≡ p + length f → j ≡ p + length g
    → lines_from k e ls p f ≡ lines_from i j ls p g
unfolding lines_from
lines_same (over {f = f} {g = g}) k i e j p ls s t x y = ended_there k e p ls f (omega arith) ∙ sym (ended_there i j p ls g (omega arith))
lines_same none_left k i e j p ls s t x y = ends_none k e p ls ∙ ap (refusal 33) (x ∙ sym y) ∙ sym (ends_none i j p ls)
lines_same (half {a} {a'}) k i e j p ls s t x y = ends_half k e p a ls ∙ ap (refusal 33) (x ∙ sym y) ∙ sym (ends_half i j p a' ls)
lines_same (early {a} {b} {a'} {b'} {l} r q h) k i e j p ls s t x y = ends_early k e p a b l ls r h ∙ ap (refusal 33) (x ∙ sym y) ∙ sym (ends_early i j p a' b' l ls q h)
lines_same (goes l r t h m) zero i e j p ls s u x y = absurd (omega arith)
lines_same (goes l r t h m) (suc k) zero e j p ls s u x y = absurd (omega arith)
lines_same (goes {c = c} {d = d} l {f = f} {g = g} r t h m) (suc k) (suc i) e j p ls s u x y =
    let cs = counted uncovered (p + 4) (l ++ (0 ∷ g)) in
    let b = body_of (length cs) ∅ (join_go cs) in
    rw (r, t, counted_to uncovered (p + 4) l f g, index_to l f h, index_to l g h, drop_to l f, drop_to l g, offences_to e j (p + 2) (c + 256 * d) l f g cs b h)
    (judged-same ls (c + 256 * d) b (soonest (offences j (p + 2) (c + 256 * d) (l ++ (0 ∷ g)) cs b)) (λ ms. lines_from k e ms (p + 5 + length l) f) (λ ms. lines_from i j ms (p + 5 + length l) g)
    (λ ms. lines_same m k i e j (p + 5 + length l) ms
    (omega (arith, length-append l (0 ∷ f))) (omega (arith, length-append l (0 ∷ g))) (omega (arith, length-append l (0 ∷ f))) (omega (arith, length-append l (0 ∷ g)))))
lines_same (cut r t h) zero i e j p ls s u x y = absurd (omega arith)
lines_same (cut r t h) (suc k) zero e j p ls s u x y = absurd (omega arith)
lines_same (cut {c = c} {d = d} {l = l} r t h) (suc k) (suc i) e j p ls s u x y =
    let cs = counted uncovered (p + 4) l in
    let b = body_of (length cs) ∅ (join_go cs) in
    rw (r, t, h, drop_past l, x ∙ sym y)
    (judged-same ls (c + 256 * d) b (soonest (offences j (p + 2) (c + 256 * d) l cs b)) (λ ms. lines_from k j ms (p + 5 + length l) []) (λ ms. lines_from i j ms (p + 5 + length l) [])
    (λ ms. ends_none k j (p + 5 + length l) ms ∙ sym (ends_none i j (p + 5 + length l) ms)))

-- of a file of one byte: it is half a load address
pub alike_one : (a c : ℕ) → read_program (a ∷ []) ≡ read_program (c ∷ [])
unfolding read_program loaded
alike_one a c = refl

-- "links other than 0, load address and what follows the end do not matter", of two files of at most 65,536 bytes each: the same listing, or the same refusal at the same place
pub alike_same : (a b c d : ℕ) (f g : List ℕ) → Alike f g → length f ≤ 65534 → length g ≤ 65534 → read_program (a ∷ b ∷ f) ≡ read_program (c ∷ d ∷ g)
unfolding read_program loaded
alike_same a b c d f g m h r =
    rw (le-leb (suc (suc (length f))) 65536 (omega arith), le-leb (suc (suc (length g))) 65536 (omega arith))
    (lines_same m (suc (suc (suc (length f)))) (suc (suc (suc (length g)))) (suc (suc (length f))) (suc (suc (length g))) 2 nolines (omega arith) (omega arith) (omega arith) (omega arith))
