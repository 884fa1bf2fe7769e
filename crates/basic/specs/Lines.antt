-- A line behind others, as the code judges it and as the definition does. Assumes nothing.
use Rattle.std.specs.Prelude.{◌≡◌, ℕ, suc, ◌+◌, ◌*◌, ◌≤◌, Bool, not, List, [], ◌∷◌, ◌++◌, eqb, ltb, length, get_or, drop, Some, None, Result, Ok, Err}
use Rattle.std.specs.Prelude as std
use Rattle.std.proofs.Math.Option.{Option, none, some}
use Rattle.listings.specs.Bytes.{pick}
use Rattle.listings.specs.Listing.{Stmts, ∅, Lines, line, total, count}
use Rattle.listings.specs.ListingText.{last_number}
use Rattle.listings.specs.Read.{taken, refused, refusal}
use Rattle.listings.specs.Scan.{index_of}
use Rattle.program_files.specs.Program as definition
use Rattle.program_files.specs.Program.{Placed, uncovered, counted, join_go, body_of, foreign, lacking, sooner, soonest, offences, with_line, lines_from}
use Rattle.basic.specs.Bodies.{summary}
use Rattle.basic.specs.declared.bodies.Body.{Body}
use Rattle.basic.specs.declared.line.Counted.{Counted}
use Rattle.basic.specs.declared.found.Lack.{Lack}
use Rattle.basic.specs.declared.line.Taken.{Taken}
use Rattle.layout.specs.Refusals.{number_of}
use Rattle.layout.specs.declared.refusals.Refusal.{Refusal}

-- "both low byte first"
abbrev pub word_at : List ℕ → ℕ → ℕ
word_at f p = get_or f p 0 + 256 * get_or f (p + 1) 0

-- the place of the first 64 hexadecimal among the bytes that count
unfoldable pub first_foreign : List Placed → std.Option ℕ
first_foreign [] = None
first_foreign (d ∷ l) = pick (eqb d.1 100) (Some d.0) (first_foreign l)

abbrev pub offence_of : Refusal → definition.Offence
offence_of r = (r.place, number_of r.reason)

abbrev pub offence_in : std.Option Refusal → Option definition.Offence
offence_in None = none
offence_in (Some r) = some (offence_of r)

-- the definition's option
abbrev pub maybe : std.Option ℕ → Option ℕ
maybe None = none
maybe (Some n) = some n

-- what is counted of the lines before
pub record IsAfter (ls : Lines) (s : Counted) : Type 0 where
  pub last : maybe s.last ≡ last_number ls
  pub lines : s.lines ≡ count ls
  pub stmts : s.stmts ≡ total ls

-- the bytes that count of the line whose link stands at p, and its statements
abbrev pub bytes_at : List ℕ → ℕ → List Placed
bytes_at f p = counted uncovered (p + 4) (drop (p + 4) f)

abbrev pub stmts_at : List ℕ → ℕ → definition.Body
stmts_at f p = body_of (length (bytes_at f p)) ∅ (join_go (bytes_at f p))

-- where that line's zero stands, from its first byte on
abbrev pub zero_at : List ℕ → ℕ → ℕ
zero_at f p = index_of 0 (drop (p + 4) f)

-- z is that place in the file
abbrev pub EndsLine : List ℕ → ℕ → ℕ → Type 0
EndsLine f p z = z ≡ p + 4 + zero_at f p

-- whether the file ends before that zero
abbrev pub IsCut : List ℕ → ℕ → std.Option Refusal → Type 0
IsCut f p o = offence_in o ≡ soonest (pick (ltb (zero_at f p) (length (drop (p + 4) f))) [] ((length f, 33) ∷ []))

-- with the first 64, if there is one
abbrev pub with_foreign : std.Option ℕ → Option definition.Offence → Option definition.Offence
with_foreign None o = o
with_foreign (Some p) o = sooner (p, 34) o

-- the offences of a line, but for its number's
abbrev pub inner_offences : List ℕ → ℕ → definition.Body → List definition.Offence
inner_offences f p b = foreign (bytes_at f p) ++ (lacking b ++ pick (ltb (zero_at f p) (length (drop (p + 4) f))) [] ((length f, 33) ∷ []))

abbrev pub IsInnerLeast : List ℕ → ℕ → Result Body Lack → std.Option Refusal → Type 0
IsInnerLeast f p d o = (b : definition.Body) → d ≡ summary b → offence_in o ≡ soonest (inner_offences f p b)

-- the least offence of a line with the number n, whatever its statements are
abbrev pub IsLeast : List ℕ → ℕ → ℕ → Result Body Lack → std.Option Refusal → Type 0
IsLeast f p n d o = (b : definition.Body) → d ≡ summary b → offence_in o ≡ soonest (offences (length f) (p + 2) n (drop (p + 4) f) (bytes_at f p) b)

-- a line with the number n and good statements, behind any lines that are counted so
abbrev pub WithTold : Counted → ℕ → Stmts → Result Taken Refusal → Type 0
WithTold s n st (Err r) = (ls : Lines) → IsAfter ls s → (with_line ls n st ≡ refused (number_of r.reason)) × (r.place ≡ count ls)
WithTold s n st (Ok t) = (ls : Lines) → IsAfter ls s → (with_line ls n st ≡ taken (line ls n st)) × IsAfter (line ls n st) t.counted

-- the next link stands at p
abbrev pub Kept : ℕ → Result Taken Refusal → Type 0
Kept p (Err r) = Unit {0}
Kept p (Ok t) = t.next ≡ p

-- reading from this line's link on is refused so, or goes on behind it
abbrev pub LineTold : List ℕ → ℕ → Counted → Result Taken Refusal → Type 0
LineTold f p s (Err r) = (ls : Lines) → IsAfter ls s → (k : ℕ) → lines_from (suc k) (length f) ls p (drop p f) ≡ refusal (number_of r.reason) r.place
LineTold f p s (Ok t) =
    (ls : Lines) → IsAfter ls s → (ms : Lines) × IsAfter ms t.counted × ((k : ℕ) → lines_from (suc k) (length f) ls p (drop p f) ≡ lines_from k (length f) ms t.next (drop t.next f))
