-- What was found of the statement leaves the end of the line's bytes.
use Rattle.std.proofs.Common.{suc, length}
use Rattle.basic.specs.RowLaws.{does_ordered, jumps_ordered, holds_ordered, lacks-first, does_first, jumps-first, holds-first}
use Rattle.basic.proofs.rows.action_row.Goals as goal

pub due-requires-clause-later : goal.due-requires-clause-later
due-requires-clause-later c =
    does_ordered c.args.file.now c.args.b c.args.at c.in-Ok.action.next c.pass_over.result c.in-Does.word c.in-Does.count (suc c.args.s.at.at) (length c.args.file.now)
    (rw c.in-Does.is at c.in-Ok.ensures.told) c.pass_over.ensures c.requires.later

pub due-requires-in-Jumps-clause-later : goal.due-requires-in-Jumps-clause-later
due-requires-in-Jumps-clause-later c =
    jumps_ordered c.args.file.now c.args.b c.args.at c.in-Ok.action.next c.in-Jumps.number (suc c.args.s.at.at) (length c.args.file.now) (rw c.in-Jumps.is at c.in-Ok.ensures.told) c.requires.later

pub due-requires-in-Holds-clause-later : goal.due-requires-in-Holds-clause-later
due-requires-in-Holds-clause-later c =
    holds_ordered c.args.file.now c.args.b c.args.at c.in-Ok.action.next (suc c.args.s.at.at) (length c.args.file.now) (rw c.in-Holds.is at c.in-Ok.ensures.told) c.requires.later

pub returns-in_default : goal.returns-in_default
returns-in_default c =
    lacks-first c.args.file.now c.args.b c.args.at c.args.s c.requires.line c.in_default.field-0.place c.end_row_at.result c.in_default.ensures.told (c.end_row_at.ensures _ _)

pub returns-in-Does : goal.returns-in-Does
returns-in-Does c =
    does_first c.args.file.now c.args.b c.args.at c.args.s c.requires.line c.in-Ok.action.next c.pass_over.result c.in-Does.word c.in-Does.count c.due.result
    (rw c.in-Does.is at c.in-Ok.ensures.told) c.pass_over.ensures c.due.ensures c.in-Ok.ensures.put

pub returns-in-Jumps : goal.returns-in-Jumps
returns-in-Jumps c =
    jumps-first c.args.file.now c.args.b c.args.at c.args.s c.requires.line c.in-Ok.action.next c.in-Jumps.number c.due-in-Jumps.result
    (rw c.in-Jumps.is at c.in-Ok.ensures.told) c.due-in-Jumps.ensures

pub returns-in-Holds : goal.returns-in-Holds
returns-in-Holds c =
    holds-first c.args.file.now c.args.b c.args.at c.args.s c.requires.line c.in-Ok.action.next c.due-in-Holds.result (rw c.in-Holds.is at c.in-Ok.ensures.told) c.due-in-Holds.ensures
