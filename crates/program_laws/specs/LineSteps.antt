-- From line to line of a saved program: what the next line gives, and with it the answer. Assumes nothing.
use Rattle.std.specs.Prelude.{ℕ, suc, ◌+◌, ◌*◌, ◌≡◌, refl, List, ◌∷◌, false, ◌&&◌, eqb, drop}
use Rattle.std.proofs.Math.Option.{Option, none, some}
use Rattle.listings.specs.Scan.{index_of}
use Rattle.listings.specs.Listing.{Lines, count}
use Rattle.listings.specs.Read.{Outcome, taken, refused, Answer, refusal}
use Rattle.program_files.specs.Program.{Body, Offence, soonest, with_line, stmts_in, judged, lines_from}
use Rattle.program_laws.specs.CutOffences.{line_body, line_offences}

-- a line of number n is refused by 33 to 35, or by 4 to 8, or the reading goes on behind it
pub data Judged (ls : Lines) (n : ℕ) (b : Body) (o : Option Offence) (f : Lines → Answer) : Answer → Type 0 where
  offends : (x : Offence) → o ≡ some x → Judged ls n b o f (refusal x.1 x.0)
  outside : (m : ℕ) → o ≡ none → with_line ls n (stmts_in b) ≡ refused m → Judged ls n b o f (refusal m (count ls))
  goes_on : (ms : Lines) → o ≡ none → with_line ls n (stmts_in b) ≡ taken ms → Judged ls n b o f (f ms)

pub judged_view : (ls : Lines) (n : ℕ) (b : Body) (o : Option Offence) (f : Lines → Answer) → Judged ls n b o f (judged ls n b o f)
unfolding judged
judged_view ls n b (some x) f = offends x refl
judged_view ls n b none f = go (with_line ls n (stmts_in b)) refl
  where
    go : (w : Outcome Lines) → with_line ls n (stmts_in b) ≡ w → Judged ls n b none f (elim w [ refused m ↦ refusal m (count ls) | taken ms ↦ f ms ])
    go (refused m) e = outside m refl e
    go (taken ms) e = goes_on ms refl e

pub judged_offends : (ls : Lines) (n : ℕ) (b : Body) (o : Option Offence) (f : Lines → Answer) (x : Offence) → o ≡ some x → judged ls n b o f ≡ refusal x.1 x.0
unfolding judged
judged_offends ls n b o f x e = rw e refl

pub judged-outside : (ls : Lines) (n : ℕ) (b : Body) (o : Option Offence) (f : Lines → Answer) (m : ℕ) → o ≡ none → with_line ls n (stmts_in b) ≡ refused m → judged ls n b o f ≡ refusal m (count ls)
unfolding judged
judged-outside ls n b o f m e h = rw (e, judged, h) refl

pub judged_on : (ls : Lines) (n : ℕ) (b : Body) (o : Option Offence) (f : Lines → Answer) (ms : Lines) → o ≡ none → with_line ls n (stmts_in b) ≡ taken ms → judged ls n b o f ≡ f ms
unfolding judged
judged_on ls n b o f ms e h = rw (e, judged, h) refl

-- what stands behind the line whose bytes are the first of l
abbrev pub lines_past : List ℕ → List ℕ
lines_past l = drop (suc (index_of 0 l)) l

-- "per line a link word, a line number word (both low byte first), the bytes, and a zero"
pub next_line : (k e : ℕ) (ls : Lines) (p a b c d : ℕ) (l : List ℕ) → (eqb a 0 && eqb b 0) ≡ false
    → lines_from (suc k) e ls p (a ∷ b ∷ c ∷ d ∷ l)
    ≡ judged ls (c + 256 * d) (line_body p l) (soonest (line_offences e p (c + 256 * d) l)) (λ ms. lines_from k e ms (p + 5 + index_of 0 l) (lines_past l))
unfolding lines_from
next_line k e ls p a b c d l h = rw (lines_from, h) refl
