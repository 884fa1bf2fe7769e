-- `continuation`: by the opening word. Assumes nothing.
use mathlib.Core.Path.{sym, ◌∙◌}
use Rattle.passes.specs.ReturnTargets.{continuation_call, continuation-none}
use Rattle.wiring.specs.Places.{one_less}
use Rattle.wiring.proofs.return_targets.continuation.Goals as goal

pub returns-then-is_call : goal.returns-then-is_call
returns-then-is_call c =
    let a = c.args in
    one_less _ _ c.checked_sub.ensures ∙ c.fall.ensures ∙ continuation_call a.g.now.nodes.records.stmts.now a.g.now.nodes.falls.now a.i (rw c.word.ensures at (sym c.is_call.ensures ∙ c.if-is_call.true))

pub returns-else-is_call : goal.returns-else-is_call
returns-else-is_call c =
    let a = c.args in
    continuation-none a.g.now.nodes.records.stmts.now a.g.now.nodes.falls.now a.i (rw c.word.ensures at (sym c.is_call.ensures ∙ c.if-is_call.false))
