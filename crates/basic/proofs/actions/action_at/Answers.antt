-- `action_at`: each first byte in turn. Assumes nothing.
use Rattle.std.proofs.Common.{sym, ◌∙◌, ap, inl, inr, arith}
use Rattle.program_files.specs.Program.{map_found}
use Rattle.basic.specs.Cursors.{tokens_at}
use Rattle.basic.specs.Actions.{coded, args_in}
use Rattle.basic.specs.Found.{found_by}
use Rattle.basic.specs.declared.actions.Action.TheVariants.{Does}
use Rattle.basic.specs.ActionLaws.{action_end, action_stop, action_return, action_clr, action_for, action_next, action_goto, action_gosub, action-run, action-if, action_on, action_plain, args_for, args_goto, args_gosub, args_none, args-if, put_as, none_put}
use Rattle.basic.proofs.actions.action_at.Goals as goal

pub returns-in-128-clause-told : goal.returns-in-128-clause-told
returns-in-128-clause-told c =
    let T = tokens_at c.args.file.now in
    ap (found_by T) c.does_at.ensures
    ∙ elim c.in-128.is [ inl e ↦ sym (action_end _ c.args.b (T c.args.c) e) | inr e ↦ sym (action_stop _ c.args.b (T c.args.c) e) ]

pub returns-in-142-clause-told : goal.returns-in-142-clause-told
returns-in-142-clause-told c = ap (found_by (tokens_at c.args.file.now)) c.does_at-in-142.ensures ∙ sym (action_return _ c.args.b (tokens_at c.args.file.now c.args.c) c.in-142.is)

pub returns-in-156-clause-told : goal.returns-in-156-clause-told
returns-in-156-clause-told c = ap (found_by (tokens_at c.args.file.now)) c.does_at-in-156.ensures ∙ sym (action_clr _ c.args.b (tokens_at c.args.file.now c.args.c) c.in-156.is)

pub returns-in-129-clause-told : goal.returns-in-129-clause-told
returns-in-129-clause-told c = c.one_at.ensures.told (tokens_at c.args.file.now) ∙ ap (map_found (λ v. Does 13 1)) c.key_at.ensures ∙ sym (action_for _ c.args.b (tokens_at c.args.file.now c.args.c) c.in-129.is)

pub returns-in-137-clause-told : goal.returns-in-137-clause-told
returns-in-137-clause-told c = c.one_at-in-137.ensures.told (tokens_at c.args.file.now) ∙ ap (map_found (λ v. Does 7 1)) c.line_number.ensures ∙ sym (action_goto _ c.args.b (tokens_at c.args.file.now c.args.c) c.in-137.is)

pub returns-in-141-clause-told : goal.returns-in-141-clause-told
returns-in-141-clause-told c = c.one_at-in-141.ensures.told (tokens_at c.args.file.now) ∙ ap (map_found (λ v. Does 8 1)) c.line_number-in-141.ensures ∙ sym (action_gosub _ c.args.b (tokens_at c.args.file.now c.args.c) c.in-141.is)

pub returns-in-130-clause-told : goal.returns-in-130-clause-told
returns-in-130-clause-told c = c.next_at.ensures.told ∙ sym (ap (map_found coded) (action_next _ c.args.b (tokens_at c.args.file.now c.args.c) c.in-130.is))

pub returns-in-138-clause-told : goal.returns-in-138-clause-told
returns-in-138-clause-told c = c.run_at.ensures.told ∙ sym (ap (map_found coded) (action-run _ c.args.b (tokens_at c.args.file.now c.args.c) c.in-138.is))

pub returns-in-139-clause-told : goal.returns-in-139-clause-told
returns-in-139-clause-told c = c.if_at.ensures ∙ sym (ap (map_found coded) (action-if _ c.args.b (tokens_at c.args.file.now c.args.c) c.in-139.is))

pub returns-in-145-clause-told : goal.returns-in-145-clause-told
returns-in-145-clause-told c = c.on_at.ensures.told ∙ sym (ap (map_found coded) (action_on _ c.args.b (tokens_at c.args.file.now c.args.c) c.in-145.is))

pub returns-in_default-clause-told : goal.returns-in_default-clause-told
returns-in_default-clause-told c =
    ap (found_by (tokens_at c.args.file.now)) c.does_at-in_default.ensures
    ∙ sym (action_plain _ c.args.b (tokens_at c.args.file.now c.args.c) (grind arith) (grind arith) (grind arith) (grind arith) (grind arith) (grind arith) (grind arith) (grind arith) (grind arith) (grind arith) (grind arith))

-- ---- what is put

pub returns-in-128-clause-put : goal.returns-in-128-clause-put
returns-in-128-clause-put c = none_put _ c.does_at.result c.args.part.now (args_none _ c.args.b (tokens_at c.args.file.now c.args.c) (grind arith) (grind arith) (grind arith) (grind arith) (grind arith) (grind arith))

pub returns-in-142-clause-put : goal.returns-in-142-clause-put
returns-in-142-clause-put c = none_put _ c.does_at-in-142.result c.args.part.now (args_none _ c.args.b (tokens_at c.args.file.now c.args.c) (grind arith) (grind arith) (grind arith) (grind arith) (grind arith) (grind arith))

pub returns-in-156-clause-put : goal.returns-in-156-clause-put
returns-in-156-clause-put c = none_put _ c.does_at-in-156.result c.args.part.now (args_none _ c.args.b (tokens_at c.args.file.now c.args.c) (grind arith) (grind arith) (grind arith) (grind arith) (grind arith) (grind arith))

pub returns-in-129-clause-put : goal.returns-in-129-clause-put
returns-in-129-clause-put c =
    let T = tokens_at c.args.file.now in
    put_as _ _ c.one_at.result _ _ (sym (args_for _ c.args.b (T c.args.c) c.in-129.is T c.key_at.result c.key_at.ensures)) c.one_at.ensures.put

pub returns-in-137-clause-put : goal.returns-in-137-clause-put
returns-in-137-clause-put c =
    let T = tokens_at c.args.file.now in
    put_as _ _ c.one_at-in-137.result _ _ (sym (args_goto _ c.args.b (T c.args.c) c.in-137.is T c.line_number.result c.line_number.ensures)) c.one_at-in-137.ensures.put

pub returns-in-141-clause-put : goal.returns-in-141-clause-put
returns-in-141-clause-put c =
    let T = tokens_at c.args.file.now in
    put_as _ _ c.one_at-in-141.result _ _ (sym (args_gosub _ c.args.b (T c.args.c) c.in-141.is T c.line_number-in-141.result c.line_number-in-141.ensures)) c.one_at-in-141.ensures.put

pub returns-in-130-clause-put : goal.returns-in-130-clause-put
returns-in-130-clause-put c = put_as _ _ c.next_at.result _ _ (sym (ap args_in (action_next _ c.args.b (tokens_at c.args.file.now c.args.c) c.in-130.is))) c.next_at.ensures.put

pub returns-in-138-clause-put : goal.returns-in-138-clause-put
returns-in-138-clause-put c = put_as _ _ c.run_at.result _ _ (sym (ap args_in (action-run _ c.args.b (tokens_at c.args.file.now c.args.c) c.in-138.is))) c.run_at.ensures.put

pub returns-in-145-clause-put : goal.returns-in-145-clause-put
returns-in-145-clause-put c = put_as _ _ c.on_at.result _ _ (sym (ap args_in (action_on _ c.args.b (tokens_at c.args.file.now c.args.c) c.in-145.is))) c.on_at.ensures.put

pub returns-in-139-clause-put : goal.returns-in-139-clause-put
returns-in-139-clause-put c = none_put _ c.if_at.result c.args.part.now (args-if _ c.args.b (tokens_at c.args.file.now c.args.c) c.in-139.is)

pub returns-in_default-clause-put : goal.returns-in_default-clause-put
returns-in_default-clause-put c =
    none_put _ c.does_at-in_default.result c.args.part.now (args_none _ c.args.b (tokens_at c.args.file.now c.args.c) (grind arith) (grind arith) (grind arith) (grind arith) (grind arith) (grind arith))
