-- `branch_at`: a number, or behind THEN the rest of the line. Assumes nothing.
use Rattle.std.proofs.Common.{sym, ◌∙◌, ap}
use Rattle.program_files.specs.Program.{map_found}
use Rattle.basic.specs.Cursors.{tokens_at}
use Rattle.basic.specs.Actions.{coded}
use Rattle.basic.specs.ActionLaws.{branch_number_lem, branch_goto, branch_end, branch-holds}
use Rattle.basic.proofs.actions.branch_at.Goals as goal
use Rattle.basic.proofs.actions.branch_at.Goals.{then-b-ne-THEN-via-then-b-ne-THEN, then-b-ne-THEN-via-else-b-ne-THEN+then-t-eq0}

pub returns-then-is_digit : goal.returns-then-is_digit
returns-then-is_digit c = c.jump_at.ensures ∙ sym (branch_number_lem c.args.b (tokens_at c.args.file.now c.args.c) _ _ _ c.token_at-t.ensures (sym c.if-is_digit.ensures))

pub returns-then-b-ne-THEN : goal.returns-then-b-ne-THEN
unfolding map_found
returns-then-b-ne-THEN c =
    let l = tokens_at c.args.file.now c.args.c in
    let d = sym c.if-is_digit.ensures in
    elim c.then-b-ne-THEN.branch [
      | then-b-ne-THEN-via-then-b-ne-THEN w ↦ sym (ap (map_found coded) (branch_goto c.args.b l _ _ _ c.token_at-t.ensures d w.if-b-ne-THEN.true))
      | then-b-ne-THEN-via-else-b-ne-THEN+then-t-eq0 w ↦ sym (ap (map_found coded) (branch_end c.args.b l _ _ _ c.token_at-t.ensures d w.if-b-ne-THEN.false w.if-t-eq0.true))
    ]

pub returns : goal.returns
unfolding map_found coded
returns c = sym (ap (map_found coded) (branch-holds c.args.b (tokens_at c.args.file.now c.args.c) _ _ _ c.token_at-t.ensures (sym c.if-is_digit.ensures) c.if-b-ne-THEN.false c.if-t-eq0.false))
