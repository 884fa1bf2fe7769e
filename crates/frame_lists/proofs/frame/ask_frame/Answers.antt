-- `ask_frame`: the name first. Assumes nothing.
use Rattle.std.proofs.Common.{◌≡◌, rules, arith, Err}
use Rattle.layout.specs.declared.refusals.Reason.TheVariants as reason
use Rattle.layout.specs.Refusals.{refusal_at}
use Rattle.frame_slices.specs.FrameSlice.{answered-refused}
use Rattle.frame_lists.specs.FrameChecks.{at_3, at_name, name_taken, name_refused, answer_as}
use Rattle.frame_lists.proofs.frame.ask_frame.Goals as goal

pub returns-in_err-key : goal.returns-in_err-key
returns-in_err-key c =
    let q = name_refused c.args.name.now c.key_of.result c.key_of.ensures (λ k h. grind arith) in
    let e : c.from_residual.result ≡ Err (refusal_at reason.BadWord 0) = search rules in
    rw e (answered-refused _ _ _ (at_3 _ _ _ _ _ _ _ _ _ _ _ _ q.0))

pub returns : goal.returns
returns c =
    let q = name_taken c.args.name.now _ (grind arith) in
    answer_as _ _ _ _ _ (at_name _ _ _ _ _ _ _ _ _ _ _ _ _ q.0 q.1) c.frame_of.ensures
