-- `next_else`: the field of frame i, an entry of the flat list. Assumes nothing.
use Rattle.std.proofs.Common.{ap, ◌∙◌}
use Rattle.wiring.specs.Places.{one_less}
use Rattle.wiring.specs.FrameRows.{next_else_at}
use Rattle.wiring.proofs.leads.Leads.next_else.Goals as goal

pub returns : goal.returns
returns c = one_less _ _ c.checked_sub.ensures ∙ c.from.ensures ∙ ap (λ f. f.next_else) c.frame.ensures ∙ next_else_at c.args.self.now.frames.now c.args.i
