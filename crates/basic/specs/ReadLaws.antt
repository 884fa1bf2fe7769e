-- The lines of a file, one after the other. Assumes nothing.
use Rattle.std.specs.Prelude.{ℕ, zero, suc, ◌+◌, ◌*◌, ◌≤◌, ◌<◌, ◌≡◌, refl, List, [], ◌∷◌, length, get_or, drop, None, Ok, Err}
use Rattle.std.proofs.Common.{arith, sym, ap, ◌∙◌, length-drop, get_or-drop}
use borrow.Author.Tests.{le-leb, lt-leb}
use Rattle.listings.specs.Listing.{Lines, nolines, total, count}
use Rattle.listings.specs.ListingText.{last_number}
use Rattle.listings.specs.Read.{refusal}
use Rattle.listings.specs.Scan.{index_le}
use Rattle.program_files.specs.Program.{program, lines_from, loaded, read_program}
use Rattle.basic.specs.Judge as judged
use Rattle.basic.specs.Judge.{judged_of}
use Rattle.basic.specs.LineLaws.{linked, unlinked}
use Rattle.basic.specs.Lines.{maybe, word_at, zero_at, IsAfter, LineTold}
use Rattle.basic.specs.declared.line.Counted.{Counted}
use Rattle.basic.specs.declared.line.Taken.{Taken}
use Rattle.layout.specs.Refusals.{number_of}
use Rattle.layout.specs.declared.refusals.Refusal.{Refusal}

-- ---- the length of the file

pub file_long : (f : List ℕ) → 65536 < length f → read_program f ≡ refusal 1 0
unfolding read_program
file_long f h = rw (lt-leb (length f) 65536 h) refl

lines_none : (k e : ℕ) (ls : Lines) (p : ℕ) → lines_from k e ls p [] ≡ refusal 33 e
unfolding lines_from
lines_none zero e ls p = refl
lines_none (suc k) e ls p = refl

load : (e : ℕ) (f : List ℕ) → loaded e f ≡ lines_from (suc e) e nolines 2 (drop 2 f)
unfolding loaded
load e [] = sym (lines_none (suc e) e nolines 2)
load e (a ∷ []) = sym (lines_none (suc e) e nolines 2)
load e (a ∷ b ∷ l) = refl

file_short : (f : List ℕ) → length f ≤ 65536 → read_program f ≡ lines_from (suc (length f)) (length f) nolines 2 (drop 2 f)
unfolding read_program
file_short f h = (rw (le-leb (length f) 65536 h) refl) ∙ load (length f) f

-- ---- where a line is due

lines_short : (k e : ℕ) (ls : Lines) (p : ℕ) (l : List ℕ) → length l < 2 → lines_from k e ls p l ≡ refusal 33 e
unfolding lines_from
lines_short zero e ls p l h = refl
lines_short (suc k) e ls p [] h = refl
lines_short (suc k) e ls p (a ∷ []) h = refl
lines_short (suc k) e ls p (a ∷ b ∷ l) h = absurd (omega arith)

lines_end : (k e : ℕ) (ls : Lines) (p : ℕ) (l : List ℕ) → 2 ≤ length l → length l ≤ k → get_or l 0 0 + 256 * get_or l 1 0 ≡ 0 → lines_from k e ls p l ≡ program ls
unfolding lines_from
lines_end k e ls p [] h i g = absurd (omega arith)
lines_end k e ls p (a ∷ []) h i g = absurd (omega arith)
lines_end zero e ls p (a ∷ b ∷ l) h i g = absurd (omega arith)
lines_end (suc k) e ls p (a ∷ b ∷ []) h i g = rw (linked a b g) refl
lines_end (suc k) e ls p (a ∷ b ∷ c ∷ []) h i g = rw (linked a b g) refl
lines_end (suc k) e ls p (a ∷ b ∷ c ∷ d ∷ l) h i g = rw (linked a b g) refl

lines_cut : (k e : ℕ) (ls : Lines) (p : ℕ) (l : List ℕ) → 2 ≤ length l → length l < 4 → (get_or l 0 0 + 256 * get_or l 1 0 ≡ 0 → ⊥) → lines_from k e ls p l ≡ refusal 33 e
unfolding lines_from
lines_cut zero e ls p l h i g = refl
lines_cut (suc k) e ls p [] h i g = refl
lines_cut (suc k) e ls p (a ∷ []) h i g = refl
lines_cut (suc k) e ls p (a ∷ b ∷ []) h i g = rw (unlinked a b g) refl
lines_cut (suc k) e ls p (a ∷ b ∷ c ∷ []) h i g = rw (unlinked a b g) refl
lines_cut (suc k) e ls p (a ∷ b ∷ c ∷ d ∷ l) h i g = absurd (omega arith)

-- ---- the loop

-- its invariant: some lines are counted so, and the rest is read behind them as the whole is
pub record Follows (f : List ℕ) (s : Counted) (at : ℕ) : Type 0 where
  pub lines : Lines
  pub after : IsAfter lines s
  pub fuel : ℕ
  pub enough : length (drop at f) ≤ fuel
  pub rest : lines_from fuel (length f) lines at (drop at f) ≡ read_program f

pub follows_start : (f : List ℕ) (s : Counted) → length f ≤ 65536 → s.last ≡ None → s.lines ≡ 0 → s.stmts ≡ 0 → Follows f s 2
unfolding last_number count total
follows_start f s h a b c = record {
  lines = nolines;
  after = record { last = ap maybe a; lines = b; stmts = c };
  fuel = suc (length f);
  enough = let g = length-drop 2 f in omega arith;
  rest = sym (file_short f h);
}

-- the word at the front of the rest
word_front : (f : List ℕ) (p : ℕ) → word_at f p ≡ get_or (drop p f) 0 0 + 256 * get_or (drop p f) 1 0
word_front f p =
    let z : p + 0 ≡ p = omega arith in
    rw (get_or-drop p f 0 0, get_or-drop p f 1 0, z) refl

module _ {f : List ℕ} {s : Counted} {p : ℕ} (r : Follows f s p) where
  pub follows_early : length f < p + 2 → judged.refused 33 (length f) ≡ judged_of (read_program f)
  unfolding judged_of
  follows_early h =
      let g = length-drop p f in
      ap judged_of (sym (lines_short r.fuel (length f) r.lines p (drop p f) (omega arith)) ∙ r.rest)

  pub follows_end : p + 2 ≤ length f → word_at f p ≡ 0 → judged.accepted s.lines s.stmts ≡ judged_of (read_program f)
  unfolding judged_of program
  follows_end h w =
      let g = length-drop p f in
      let a = r.after in
      let x : judged_of (program r.lines) ≡ judged_of (read_program f) = ap judged_of (sym (lines_end r.fuel (length f) r.lines p (drop p f) (omega arith) r.enough (sym (word_front f p) ∙ w)) ∙ r.rest) in
      rw (a.lines, a.stmts) x

  module _ (link : word_at f p ≡ 0 → ⊥) (h : p + 2 ≤ length f) where
    pub follows_cut : length f < p + 4 → judged.refused 33 (length f) ≡ judged_of (read_program f)
    unfolding judged_of
    follows_cut i =
        let g = length-drop p f in
        ap judged_of (sym (lines_cut r.fuel (length f) r.lines p (drop p f) (omega arith) (omega arith) (λ e. link (word_front f p ∙ e))) ∙ r.rest)

  -- one line more: fuel is left
  record Line : Type 0 where
    pub fuel : ℕ
    pub enough : length (drop p f) ≤ suc fuel
    pub rest : lines_from (suc fuel) (length f) r.lines p (drop p f) ≡ read_program f

  line_by : (k : ℕ) → 0 < length (drop p f) → length (drop p f) ≤ k → lines_from k (length f) r.lines p (drop p f) ≡ read_program f → Line
  line_by zero h i e = absurd (omega arith)
  line_by (suc k) h i e = record { fuel = k; enough = i; rest = e }

  one : p < length f → Line
  one h = let g = length-drop p f in line_by r.fuel (omega arith) r.enough r.rest

  pub follows_refused : p < length f → (e : Refusal) → LineTold f p s (Err e) → judged.refused (number_of e.reason) e.place ≡ judged_of (read_program f)
  unfolding judged_of
  follows_refused h e t = let x = one h in ap judged_of (sym (t r.lines r.after x.fuel) ∙ x.rest)

  pub follows_taken : p < length f → (t : Taken) → p < t.next → LineTold f p s (Ok t) → Follows f t.counted t.next
  follows_taken h t i w =
      let x = one h in
      let y = w r.lines r.after in
      let e = x.enough in
      let a = length-drop p f in
      let b = length-drop t.next f in
      record { lines = y.0; after = y.1; fuel = x.fuel; enough = omega arith; rest = sym (y.2 x.fuel) ∙ x.rest }

-- the next link stands behind this one, and no further than one place behind the file's end
pub next_place_lem : (f : List ℕ) (p next : ℕ) → p + 4 ≤ length f → next ≡ p + 5 + zero_at f p → (p < next) × (next ≤ suc (length f))
next_place_lem f p next h e =
    let a = index_le 0 (drop (p + 4) f) in
    let b = length-drop (p + 4) f in
    (omega arith, omega arith)
