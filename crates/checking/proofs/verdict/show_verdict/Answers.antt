-- `show_verdict`: by each verdict. Assumes nothing.
use borrow.Author.Rules.{rules}
use native.Mathlib.Omega.{arith}
use Rattle.listings.specs.Bytes.{bytes}
use Rattle.checking.specs.Checking.{right-shown, wrong_shown}
use Rattle.checking.proofs.verdict.show_verdict.Goals as goal

pub returns-in-Ok : goal.returns-in-Ok
unfolding bytes
returns-in-Ok g c = right-shown _ _ _ _ _ (search rules) c.in-Ok.is c.print_bytes.ensures

pub returns-in-Err : goal.returns-in-Err
returns-in-Err g c = wrong_shown _ _ _ _ _ (search rules) _ _ _ c.in-Err.is c.number.ensures c.place.ensures (omega arith) (omega arith) c.print_refusal.ensures
