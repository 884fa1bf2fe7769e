-- `next_at`: names, or the one slot. Assumes nothing.
use Rattle.std.proofs.Common.{sym, ◌∙◌, ap}
use Rattle.std.specs.Prelude.{List, ℕ}
use Rattle.program_files.specs.Program.{map_found}
use Rattle.basic.specs.Cursors.{tokens_at}
use Rattle.basic.specs.Found.{found_by}
use Rattle.basic.specs.Items.{put_front}
use Rattle.basic.specs.declared.actions.Action.TheVariants.{Does}
use Rattle.basic.specs.ActionLaws.{next_names, next_star, slots_names, slots_star, put_as, list_put}
use Rattle.basic.proofs.actions.next_at.Goals as goal

pub returns-then-is_capital-clause-told : goal.returns-then-is_capital-clause-told
returns-then-is_capital-clause-told c =
    c.list_at.ensures (tokens_at c.args.file.now) ∙ ap (map_found (λ k. Does 14 k)) c.read_items.ensures.told ∙ sym (next_names (tokens_at c.args.file.now c.args.c) _ _ _ c.token_at-t.ensures (sym c.if-is_capital.ensures))

pub returns-then-is_capital-clause-put : goal.returns-then-is_capital-clause-put
returns-then-is_capital-clause-put c =
    put_as _ _ c.list_at.result _ _ (sym (slots_names (tokens_at c.args.file.now c.args.c) _ _ _ c.token_at-t.ensures (sym c.if-is_capital.ensures)))
    (list_put _ 14 c.read_items.result c.list_at.result _ _ c.list_at.ensures c.read_items.ensures.put)

pub returns-clause-told : goal.returns-clause-told
returns-clause-told c = ap (found_by (tokens_at c.args.file.now)) c.does_at.ensures ∙ sym (next_star (tokens_at c.args.file.now c.args.c) _ _ _ c.token_at-t.ensures (sym c.if-is_capital.ensures) _)

pub returns-clause-put : goal.returns-clause-put
returns-clause-put c =
    rw c.does_at.ensures
    (c.put_first.ensures ∙ ap (λ (vs : List ℕ). put_front vs c.args.part.now) (sym (slots_star (tokens_at c.args.file.now c.args.c) _ _ _ c.token_at-t.ensures (sym c.if-is_capital.ensures) _)))
