-- `opener`: the field of frame i, an entry of the flat list. Assumes nothing.
use Rattle.std.proofs.Common.{ap, ◌∙◌}
use Rattle.wiring.specs.Places.{one_less}
use Rattle.wiring.specs.FrameRows.{opener_at}
use Rattle.wiring.proofs.leads.Leads.opener.Goals as goal

pub returns : goal.returns
returns c = one_less _ _ c.checked_sub.ensures ∙ c.from.ensures ∙ ap (λ f. f.opener) c.frame.ensures ∙ opener_at c.args.self.now.frames.now c.args.i
