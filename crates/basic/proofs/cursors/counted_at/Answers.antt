-- `counted_at`: from `at` on, where nothing covers, the same bytes count. Assumes nothing.
use Rattle.std.proofs.Common.{◌≡◌, ◌∙◌, sym, ap, refl, ◌+◌, ◌∷◌, [], Bool, true, arith, drop, get_or, ne_eqb}
use Rattle.listings.specs.Bytes.{pick}
use Rattle.program_files.specs.Program as definition
use Rattle.program_files.specs.Program.{uncovered, counts, behind, counted}
use Rattle.basic.specs.Covers.{cover_of}
use Rattle.basic.specs.Covered.{leads_on}
use Rattle.basic.specs.Cursors.{counted_past, counted_end, counted_here}
use Rattle.basic.proofs.cursors.counted_at.Goals as goal
use Rattle.basic.proofs.cursors.counted_at.Goals.{in-Uncovered, in_default, else-loop-at-test, then-loop-at-test+then-b-eq0}

pub loop-at-init : goal.loop-at-init
unfolding cover_of
loop-at-init c = elim c.match-c.branch [
  | in-Uncovered w ↦ rw (w.at-is, w.in-Uncovered.is) refl
  | in_default w ↦ rw w.at-is w.behind_covered-at.ensures
]

pub returns-then-b-ne32 : goal.returns-then-b-ne32
unfolding counts
returns-then-b-ne32 c =
    let f = c.args.file.now in
    let at = c.loop-at.at in
    let b = get_or f at 0 in
    let counts-so : counts uncovered b ≡ true = rw (ne_eqb b 32 c.if-b-ne32.true) refl in
    c.loop-at.invariant ∙ counted_here uncovered f at b c.loop-at-test.true refl c.if-b-eq0.false counts-so
    ∙ ap (λ (z : definition.Cover). (at, b) ∷ counted z (at + 1) (drop (at + 1) f)) (sym c.behind.ensures)
    ∙ ap (λ (x : Bool). (at, b) ∷ pick x [] (counted (cover_of c.behind.result) (at + 1) (drop (at + 1) f))) (sym (ne_eqb b 0 c.if-b-eq0.false))

pub loop-at-preserved : goal.loop-at-preserved
unfolding counts behind
loop-at-preserved c = c.loop-at.invariant ∙ leads_on c.args.file.now c.loop-at.at c.loop-at-test.true uncovered uncovered 32 c.if-b-ne32.false (λ z. absurd (omega arith)) refl refl

pub returns : goal.returns
returns c = c.loop-at.invariant ∙ elim c.loop-at-test.branch [
  | else-loop-at-test w ↦ counted_past uncovered c.args.file.now c.loop-at.at w.loop-at-test.false
  | then-loop-at-test+then-b-eq0 w ↦ counted_end uncovered c.args.file.now c.loop-at.at 0 w.loop-at-test.true w.if-b-eq0.true refl
]
