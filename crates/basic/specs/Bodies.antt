-- What is asked of a line's statements once they are found. Assumes nothing.
use Rattle.std.specs.Prelude.{ℕ, ◌≡◌, ◌≤◌, not, Result, Ok, Err}
use Rattle.listings.specs.Listing.{size}
use Rattle.program_files.specs.Program as definition
use Rattle.program_files.specs.Program.{shallow, short}
use Rattle.basic.specs.declared.bodies.Body.{Body}
use Rattle.basic.specs.declared.bodies.Whole.{Whole}
use Rattle.basic.specs.declared.found.Lack.{Lack}

unfoldable pub summary : definition.Body → Result Body Lack
summary (definition.body s) = Ok (record { stmts = size s; deep = not (shallow 0 s); long = not (short s) })
summary (definition.bad p) = Err (record { place = p })

-- no more statements than n
abbrev pub AtMost : ℕ → Result Body Lack → Type 0
AtMost n (Ok b) = b.stmts ≤ n
AtMost n (Err e) = Unit {0}

abbrev pub body_in : Result Whole Lack → Result Body Lack
body_in (Ok w) = Ok w.body
body_in (Err e) = Err e

-- the line's zero stands at z
abbrev pub EndsAt : ℕ → Result Whole Lack → Type 0
EndsAt z (Ok w) = w.zero ≡ z
EndsAt z (Err e) = Unit {0}
