-- The tables hold the records of the rows read so far, from row to row. Assumes nothing.
use native.Mathlib.Omega.{arith}
use mathlib.Core.Path.{subst}
use mathlib.Core.List.{◌∷◌}
use lib.ListN.{length}
use Rattle.std.specs.Prelude.{Ok}
use Rattle.listings.specs.Rows.{split, content_of, row_of}
use Rattle.listing_laws.specs.CutLaws.{cut_content}
use Rattle.reader.specs.States.{state_of}
use Rattle.reader.specs.AcceptedRows.{WellFormed}
use Rattle.reader.specs.Fill.{Says}
use Rattle.reader.specs.RowOperands.{row_operands, row_cut, row_says, row_ready}
use Rattle.reader.specs.FillSteps.{Fills, fills_formed, fills_ready, fills_ok, fills_taken}
use Rattle.reader.specs.Lent.{same_start, same_both}
use Rattle.reader.specs.FillLoop.{rows_in, zeroed_start, text_ends, text_goes_on}
use Rattle.tokens.specs.Scan.{row_shorter}
use Rattle.reader.proofs.fill.fill.Goals.{In-Some, After-accepted_row-taken}
use Rattle.reader.proofs.fill.fill.Goals as goal

-- the contents of this row, and what it says, lead to the listing
ahead : (c : In-Some)
    → Fills c.loop-row.invariant.0.tree (length c.args.t.now.lines.now) (length c.args.t.now.stmts.now) (length c.args.t.now.args.now) (cut_content (content_of (row_of c.in-Some.row.now)) ∷ rows_in (split 10 c.in-Some.rest.now)) (state_of c.loop-row.p.state) c.loop-row.p.walk
    c.loop-row.t.lines.now c.loop-row.t.stmts.now c.loop-row.t.args.now
ahead c = text_goes_on c.loop-row.left.now c.in-Some.row.now c.in-Some.rest.now c.in-Some.ensures.0 c.loop-row.invariant.1

says : (c : After-accepted_row-taken) → Says (cut_content (content_of (row_of c.in-Some.row.now))) (Ok c.accepted_row-taken.result) (row_operands c.in-Some.row.now (Ok c.accepted_row-taken.result))
says c = row_says c.in-Some.row.now (Ok c.accepted_row-taken.result) c.accepted_row-taken.ensures

pub loop-row-init : goal.loop-row-init
loop-row-init c = (c.requires.accepts, zeroed_start c.args.text.now c.args.t.now.lines.now c.args.t.now.stmts.now c.args.t.now.args.now c.requires (state_of c.start-p.result.state) c.start-p.result.walk c.start-p.ensures.0 c.start-p.ensures.1, same_start c.args.t.now)

pub returns : goal.returns
returns c = record {
  same = c.loop-row.invariant.2;
  filled = text_ends c.loop-row.left.now c.loop-row.invariant.0 c.loop-row.invariant.1 c.in_default.ensures;
}

pub accepted_row-taken-requires : goal.accepted_row-taken-requires
accepted_row-taken-requires c = subst WellFormed (row_cut _) (fills_formed c.loop-row.invariant.0.room (ahead (goal.at.accepted_row-taken-requires c).In-Some))

pub unwrap-requires : goal.unwrap-requires
unwrap-requires c = fills_ok c.loop-row.invariant.0.room (ahead (goal.at.unwrap-requires c).In-Some) (says (goal.at.unwrap-requires c).After-accepted_row-taken) c.step_row.result (state_of c.step_row.new.self) c.step_row.ensures

pub write_text_row-p-requires : goal.write_text_row-p-requires
write_text_row-p-requires c =
    (row_ready c.in-Some.row.now (Ok c.accepted_row-taken.result) c.accepted_row-taken.ensures, fills_ready c.loop-row.invariant.0.room (ahead (goal.at.write_text_row-p-requires c).In-Some) (says (goal.at.write_text_row-p-requires c).After-accepted_row-taken))

pub loop-row-smaller : goal.loop-row-smaller
loop-row-smaller c = omega (arith, row_shorter _ _ _ c.in-Some.ensures.1)

pub loop-row-preserved : goal.loop-row-preserved
loop-row-preserved c =
    (c.loop-row.invariant.0, fills_taken c.loop-row.invariant.0.room (ahead (goal.at.loop-row-preserved c).In-Some) (says (goal.at.loop-row-preserved c).After-accepted_row-taken) c.step_row.result (state_of c.step_row.new.self) c.step_row.ensures c.unwrap.ensures c.write_text_row-p.ensures.recorded, same_both c.loop-row.invariant.2 c.write_text_row-p.ensures.same)
