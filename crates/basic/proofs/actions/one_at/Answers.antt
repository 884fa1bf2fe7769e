-- `one_at`: one value, which is put, or none. Assumes nothing.
use Rattle.std.proofs.Common.{refl, sym, ◌∙◌, ap}
use Rattle.std.specs.Prelude.{ℕ, Result}
use Rattle.program_files.specs.Program.{map_found}
use Rattle.basic.specs.Found.{found_by, handed_on}
use Rattle.basic.specs.Items.{put_front}
use Rattle.basic.specs.Actions.{one_in}
use Rattle.basic.specs.declared.actions.Action.TheVariants.{Does}
use Rattle.basic.specs.declared.found.Found.{Found}
use Rattle.basic.specs.declared.found.Lack.{Lack}
use Rattle.basic.proofs.actions.one_at.Goals as goal

pub returns-in_err-one-clause-told : goal.returns-in_err-one-clause-told
unfolding map_found
returns-in_err-one-clause-told c T =
    handed_on T c.from_residual.result _ c.from_residual.ensures.1
    ∙ sym (ap (λ (f : Result (Found ℕ) Lack). map_found (λ v. Does c.args.word 1) (found_by T f)) c.in_err-one.was)

pub returns-clause-told : goal.returns-clause-told
unfolding map_found
returns-clause-told c T = rw (c.with.ensures, c.in_ok-one.was) refl

pub returns-clause-put : goal.returns-clause-put
returns-clause-put c = c.put_first.ensures ∙ ap (λ (f : Result (Found ℕ) Lack). put_front (one_in f) c.args.part.now) (sym c.in_ok-one.was)
