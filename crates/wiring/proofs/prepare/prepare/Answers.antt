-- `prepare`: the passes, one after the other; each finds what the ones before have written. Assumes nothing.
use Rattle.std.proofs.Common.{ℕ, ◌≤◌, List, [], length, take, ap, sym, ◌∙◌, append-nil, length-take-le, take_at}
use Rattle.listings.specs.Listing.{Lines}
use Rattle.listings.specs.Records.{line_numbers}
use Rattle.listing_laws.specs.ReadingRecords.{numbers-count}
use Rattle.passes.specs.Held.{LinesHeld}
use Rattle.passes.specs.LineEntries.{EntriesComputed}
use mathlib.Core.Bool.{not}
use Rattle.passes.specs.Preparing.{holds-counted, none_lost, all_prepared}
use Rattle.wiring.specs.Found.{all_found}
use Rattle.wiring.proofs.prepare.prepare.Goals as goal

-- the rows are of these lines, whatever stands behind them
held : (ls : Lines) (lines : List ℕ) (c : ℕ) → c ≤ length lines → LinesHeld ls lines c → LinesHeld ls (take c lines) (length (take c lines))
held ls lines c h k =
    let n = length-take-le c lines h in
    record { in_form = k.in_form; counted = n ∙ k.counted; rest = []; rows = ap (take c) k.rows ∙ take_at (line_numbers ls) k.rest c (numbers-count ls ∙ sym k.counted) ∙ sym (append-nil (line_numbers ls)) }

whole : (lines stmts : List ℕ) (c n : ℕ) (t u : List ℕ) → c ≤ length lines → EntriesComputed (take c lines) stmts (length (take c lines)) n t u → EntriesComputed lines stmts c n t u
whole lines stmts c n t u h e ls k s z = e ls (held ls lines c h k) s z

pub returns-in_err-connect_lines : goal.returns-in_err-connect_lines
returns-in_err-connect_lines c = absurd (none_lost c.requires c.compute_line_after.auto.entries (whole _ _ _ _ _ _ c.requires.holds.lines_fit c.compute_line_after.ensures) c.connect_lines.ensures (ap (λ x. not (all_found x)) c.in_err-connect_lines.was))

pub link_fors-requires-clause-all_counted : goal.link_fors-requires-clause-all_counted
link_fors-requires-clause-all_counted c = holds-counted c.requires.holds

pub returns : goal.returns
returns c =
    all_prepared c.requires c.compute_line_after.auto.entries (whole _ _ _ _ _ _ c.requires.holds.lines_fit c.compute_line_after.ensures) (rw c.in_ok-connect_lines.was at c.connect_lines.ensures) c.connect_lines.auto.falls (c.link_fors.auto.links ∙ c.link_jumps.auto.links)
    c.link_jumps.ensures c.link_fors.ensures
