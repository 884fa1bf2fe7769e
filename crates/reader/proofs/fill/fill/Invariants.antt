-- The tables hold the records of the rows read so far, from row to row. Assumes nothing.
use lib.ListN.{length}
use Rattle.listings.specs.Rows.{split}
use Rattle.reader.specs.FillSteps.{Fills}
use Rattle.listings.specs.Cut.{meant}
use Rattle.reader.specs.Filling.{Accepts}
use Rattle.reader.specs.FillLoop.{rows_in}
use Rattle.reader.specs.Lent.{Same}
use Rattle.reader.specs.States.{state_of}
use Rattle.reader.proofs.fill.fill.Given as goal

abbrev pub invariant-loop-row : goal.invariant-loop-row
invariant-loop-row l = (g : Accepts (meant l.text) (length l.initial.t.lines.now) (length l.initial.t.stmts.now) (length l.initial.t.args.now)) × Fills g.tree (length l.initial.t.lines.now) (length l.initial.t.stmts.now) (length l.initial.t.args.now) (rows_in (split 10 l.left)) (state_of l.p.state) l.p.walk l.t.lines.now l.t.stmts.now l.t.args.now × Same l.initial.t l.t

abbrev pub decreases-loop-row : goal.decreases-loop-row
decreases-loop-row l = length l.left
