-- The tables hold the records of the rows so far, and what is due leads to the listing. Assumes nothing.
use Rattle.std.proofs.Common.{length}
use Rattle.program_files.specs.Program.{read_program}
use Rattle.basic.specs.Rows.{contents_from}
use Rattle.reader.specs.Filling.{Accepts}
use Rattle.reader.specs.FillSteps.{Fills}
use Rattle.reader.specs.Lent.{Same}
use Rattle.reader.specs.States.{state_of}
use Rattle.reader.proofs.file_rows.fill_program.Given as goal

abbrev pub invariant-loop-r : goal.invariant-loop-r
invariant-loop-r l =
    (g : Accepts (read_program l.file) (length l.initial.t.lines.now) (length l.initial.t.stmts.now) (length l.initial.t.args.now))
    × Fills g.tree (length l.initial.t.lines.now) (length l.initial.t.stmts.now) (length l.initial.t.args.now) (contents_from l.file l.due) (state_of l.p.state) l.p.walk l.t.lines.now l.t.stmts.now l.t.args.now
    × Same l.initial.t l.t

abbrev pub decreases-loop-r : goal.decreases-loop-r
decreases-loop-r l = length (contents_from l.file l.due)
