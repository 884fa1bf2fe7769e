-- What judging answers, as the definition and as the code tell it. Assumes nothing.
use Rattle.std.specs.Prelude.{ℕ, Result, Ok, Err}
use Rattle.listings.specs.Listing.{total, count}
use Rattle.listings.specs.Read.{Answer, listing, refusal}
use Rattle.basic.specs.declared.judge.Counts.{Counts}
use Rattle.layout.specs.Refusals.{number_of}
use Rattle.layout.specs.declared.refusals.Refusal.{Refusal}

-- how many lines and statements the listing has, or the papers' number and place
pub data Judged : Type 0 where
  accepted : (lines stmts : ℕ) → Judged
  refused : (number place : ℕ) → Judged

unfoldable pub judged_of : Answer → Judged
judged_of (listing L) = accepted (count L.lines) (total L.lines)
judged_of (refusal n p) = refused n p

abbrev pub told_of : Result Counts Refusal → Judged
told_of (Ok c) = accepted c.lines c.stmts
told_of (Err r) = refused (number_of r.reason) r.place
