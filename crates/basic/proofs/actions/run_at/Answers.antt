-- `run_at`: a number or nothing. Assumes nothing.
use Rattle.std.proofs.Common.{sym, ◌∙◌, ap}
use Rattle.program_files.specs.Program.{map_found}
use Rattle.basic.specs.Cursors.{tokens_at}
use Rattle.basic.specs.Found.{found_by}
use Rattle.basic.specs.declared.actions.Action.TheVariants.{Does}
use Rattle.basic.specs.ActionLaws.{run_number, run-bare, run_args, run_no_args, put_as, none_put}
use Rattle.basic.proofs.actions.run_at.Goals as goal

pub returns-then-is_digit-clause-told : goal.returns-then-is_digit-clause-told
returns-then-is_digit-clause-told c =
    c.one_at.ensures.told (tokens_at c.args.file.now) ∙ ap (map_found (λ v. Does 10 1)) c.line_number.ensures ∙ sym (run_number (tokens_at c.args.file.now c.args.c) _ _ _ c.token_at-t.ensures (sym c.if-is_digit.ensures))

pub returns-then-is_digit-clause-put : goal.returns-then-is_digit-clause-put
returns-then-is_digit-clause-put c =
    put_as _ _ c.one_at.result _ _ (sym (run_args (tokens_at c.args.file.now c.args.c) _ _ _ c.token_at-t.ensures (sym c.if-is_digit.ensures) (tokens_at c.args.file.now) c.line_number.result c.line_number.ensures))
    c.one_at.ensures.put

pub returns-clause-told : goal.returns-clause-told
returns-clause-told c = ap (found_by (tokens_at c.args.file.now)) c.does_at.ensures ∙ sym (run-bare (tokens_at c.args.file.now c.args.c) _ _ _ c.token_at-t.ensures (sym c.if-is_digit.ensures))

pub returns-clause-put : goal.returns-clause-put
returns-clause-put c = none_put _ c.does_at.result c.args.part.now (run_no_args (tokens_at c.args.file.now c.args.c) _ _ _ c.token_at-t.ensures (sym c.if-is_digit.ensures))
