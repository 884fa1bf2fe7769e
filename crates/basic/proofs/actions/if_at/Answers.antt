-- `if_at`: the branch behind THEN or GOTO. Assumes nothing.
use Rattle.std.proofs.Common.{sym, ◌∙◌, ap}
use Rattle.program_files.specs.Program.{map_found}
use Rattle.basic.specs.Cursors.{tokens_at}
use Rattle.basic.specs.Found.{handed_on}
use Rattle.basic.specs.Actions.{coded}
use Rattle.basic.specs.ActionLaws.{if-lacks, if_found_lem}
use Rattle.basic.proofs.actions.if_at.Goals as goal

pub returns-in_err-then : goal.returns-in_err-then
unfolding map_found
returns-in_err-then c =
    handed_on _ c.from_residual.result _ c.from_residual.ensures.1
    ∙ sym (ap (map_found coded) (if-lacks (tokens_at c.args.file.now c.args.c) c.in_err-then.field-0.0.place (sym c.in_err-then.ensures)))

pub returns : goal.returns
returns c = c.branch_at.ensures ∙ sym (ap (map_found coded) (if_found_lem (tokens_at c.args.file.now c.args.c) c.in_ok-then.then.value _ (sym c.in_ok-then.ensures)))
