-- What is due leads to the listing, row by row. Assumes nothing.
use Rattle.std.specs.Prelude.{Ok}
use Rattle.std.proofs.Common.{List, ◌∷◌, ap, subst, length, arith}
use Rattle.listings.specs.Rows.{Content}
use Rattle.reader.specs.States.{state_of}
use Rattle.basic.specs.Rows.{First, contents_from}
use Rattle.reader.specs.Fill.{operands_of, Says}
use Rattle.reader.specs.FillSteps.{Fills, fills_ready, fills_ok, fills_taken}
use Rattle.reader.specs.Filling.{filled_end}
use Rattle.reader.specs.Lent.{same_start, same_both}
use Rattle.reader.specs.FileLoop.{operands_by, Few, file_counted, file_alone, file_few, file_says_by, file_start}
use Rattle.reader.proofs.file_rows.fill_program.Goals.{After-from-row}
use Rattle.reader.proofs.file_rows.fill_program.Goals as goal

-- the row that is due
due : (c : After-from-row) → First c.args.file.now c.loop-r.part c.row_at.new.part c.loop-r.due c.in-Some.r
due c = c.in-Some.ensures

-- its contents, and what it says, lead to the listing
ahead : (c : After-from-row)
    → Fills c.loop-r.invariant.0.tree (length c.args.t.now.lines.now) (length c.args.t.now.stmts.now) (length c.args.t.now.args.now) ((due c).content ∷ contents_from c.args.file.now c.in-Some.r.next) (state_of c.loop-r.p.state) c.loop-r.p.walk c.loop-r.t.lines.now c.loop-r.t.stmts.now c.loop-r.t.args.now
ahead c =
    let v = c.loop-r in
    subst (λ (ds : List Content). Fills v.invariant.0.tree (length c.args.t.now.lines.now) (length c.args.t.now.stmts.now) (length c.args.t.now.args.now) ds (state_of v.p.state) v.p.walk v.t.lines.now v.t.stmts.now v.t.args.now) (due c).behind v.invariant.1

few : (c : After-from-row) → Few c.in-Some.r.row (operands_of (due c).content)
few c =
    file_few _ _ (due c).content c.in-Some.r.row c.from-row.result c.from-row.ensures (due c).says _ _
    (fills_ready c.loop-r.invariant.0.room (ahead c) (file_alone _ _ (due c).content c.in-Some.r.row c.from-row.result c.from-row.ensures (due c).says)).args

says : (c : After-from-row) → Says (due c).content (Ok c.from-row.result) (operands_by c.row_at.new.part c.in-Some.r.row)
says c = file_says_by _ _ (due c).content c.in-Some.r.row c.from-row.result c.from-row.ensures (due c).says (omega arith) (few c)

pub loop-r-init : goal.loop-r-init
loop-r-init c =
    (c.requires.accepts, file_start c.args.file.now c.args.t.now.lines.now c.args.t.now.stmts.now c.args.t.now.args.now c.requires c.first_row-due.result (c.first_row-due.ensures c.args.file.now) (state_of c.start-p.result.state) c.start-p.result.walk c.start-p.ensures.0 c.start-p.ensures.1, same_start c.args.t.now)

pub returns : goal.returns
returns c =
    let v = c.loop-r in
    let g = v.invariant.0 in
    record {
      same = v.invariant.2;
      filled = filled_end g (subst (λ (ds : List Content). Fills g.tree (length c.args.t.now.lines.now) (length c.args.t.now.stmts.now) (length c.args.t.now.args.now) ds (state_of v.p.state) v.p.walk v.t.lines.now v.t.stmts.now v.t.args.now) c.in_default.ensures v.invariant.1);
    }

pub unwrap-requires : goal.unwrap-requires
unwrap-requires c = fills_ok c.loop-r.invariant.0.room (ahead (goal.at.unwrap-requires c).After-from-row) (says (goal.at.unwrap-requires c).After-from-row) c.step_row.result (state_of c.step_row.new.self) c.step_row.ensures

pub write_file_row-p-requires : goal.write_file_row-p-requires
write_file_row-p-requires c =
    let o = due (goal.at.write_file_row-p-requires c).After-from-row in
    record {
      known = c.from-row.ensures;
      counted = file_counted _ _ o.content (omega arith) c.in-Some.r.row o.says (few (goal.at.write_file_row-p-requires c).After-from-row);
      ready = fills_ready c.loop-r.invariant.0.room (ahead (goal.at.write_file_row-p-requires c).After-from-row) (says (goal.at.write_file_row-p-requires c).After-from-row);
    }

pub loop-r-smaller : goal.loop-r-smaller
loop-r-smaller c = omega (arith, ap (length {A = Content}) (due (goal.at.loop-r-smaller c).After-from-row).behind)

pub loop-r-preserved : goal.loop-r-preserved
loop-r-preserved c =
    (c.loop-r.invariant.0, fills_taken c.loop-r.invariant.0.room (ahead (goal.at.loop-r-preserved c).After-from-row) (says (goal.at.loop-r-preserved c).After-from-row) c.step_row.result (state_of c.step_row.new.self) c.step_row.ensures c.unwrap.ensures c.write_file_row-p.ensures.recorded, same_both c.loop-r.invariant.2 c.write_file_row-p.ensures.same)
