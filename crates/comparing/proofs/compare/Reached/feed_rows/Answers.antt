-- `feed_rows`: whole rows, or a byte. Assumes nothing.
use mathlib.Core.Path.{sym, subst, ◌∙◌}
use native.Mathlib.Omega.{arith}
use Rattle.comparing.specs.Comparing.{same}
use Rattle.comparing.specs.JudgeStates.{reading_of}
use Rattle.comparing.specs.ComparingStates.{standing_as}
use Rattle.comparing.specs.Feeding.{RowsDue, fed-one, fed-rows}
use Rattle.comparing.proofs.compare.Reached.feed_rows.Goals as goal
use Rattle.comparing.proofs.compare.Reached.feed_rows.Goals.{then-is_start, else-is_start}

pub returns-then-m-eq0 : goal.returns-then-m-eq0
returns-then-m-eq0 g c = fed-one c.args.due.now (same c.args.self.at (reading_of c.args.self.judge)) c.args.piece.now c.requires _ c.feed_same.ensures

pub returns : goal.returns
unfolding reading_of standing_as
returns g c =
    let a = c.args in
    let i = c.if-is_start in
    elim i.branch [
      | then-is_start w ↦
          fed-rows a.due.now a.self.at (reading_of a.self.judge) a.piece.now i.m (sym c.is_start.ensures ∙ w.if-is_start.true) (omega arith) (subst (RowsDue a.due.now a.self.at a.piece.now) (sym w.m-is) w.rows_due-m.ensures)
      | else-is_start w ↦ absurd (omega (arith, w.m-is))
    ]
