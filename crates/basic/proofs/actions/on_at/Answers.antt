-- `on_at`: the numbers behind GOTO or GOSUB. Assumes nothing.
use Rattle.std.proofs.Common.{sym, ◌∙◌, ap}
use Rattle.program_files.specs.Program.{map_found}
use Rattle.basic.specs.Cursors.{tokens_at}
use Rattle.basic.specs.Found.{handed_on}
use Rattle.basic.specs.Actions.{coded}
use Rattle.basic.specs.ActionLaws.{on_lacks, on_goto, on_gosub, on_args, put_as, list_put}
use Rattle.basic.specs.declared.actions.Action.TheVariants.{Does}
use Rattle.basic.proofs.actions.on_at.Goals as goal
use Rattle.basic.proofs.actions.on_at.Goals.{then-jump, else-jump}

pub returns-in_err-jump-clause-told : goal.returns-in_err-jump-clause-told
unfolding map_found
returns-in_err-jump-clause-told c =
    handed_on _ c.from_residual.result _ c.from_residual.ensures.1
    ∙ sym (ap (map_found coded) (on_lacks _ (tokens_at c.args.file.now c.args.c) c.in_err-jump.field-0.0.place (sym c.in_err-jump.ensures)))

pub returns-clause-told : goal.returns-clause-told
returns-clause-told c =
    let T = tokens_at c.args.file.now in
    let found = c.list_at.ensures T ∙ ap (map_found (λ k. Does c.if-jump.word k)) c.read_items.ensures.told in
    let jump = c.in_ok-jump.jump in
    elim c.if-jump.branch [
      | then-jump w ↦ found ∙ rw w.word-is (sym (on_goto (T c.args.c) jump.value _ (sym c.in_ok-jump.ensures) w.if-jump.true))
      | else-jump w ↦ found ∙ rw w.word-is (sym (on_gosub (T c.args.c) jump.value _ (sym c.in_ok-jump.ensures) w.if-jump.false))
    ]

pub returns-clause-put : goal.returns-clause-put
returns-clause-put c =
    put_as _ _ c.list_at.result _ _ (sym (on_args (tokens_at c.args.file.now c.args.c) c.in_ok-jump.jump.value _ (sym c.in_ok-jump.ensures)))
    (list_put _ c.if-jump.word c.read_items.result c.list_at.result _ _ c.list_at.ensures c.read_items.ensures.put)
