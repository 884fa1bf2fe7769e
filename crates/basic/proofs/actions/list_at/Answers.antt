use Rattle.std.proofs.Common.{rules}
use Rattle.basic.specs.Found.{mapped}
use Rattle.basic.specs.declared.actions.Action.TheVariants.{Does}
use Rattle.basic.proofs.actions.list_at.Goals as goal

pub returns : goal.returns
returns c T = mapped T (λ k. Does c.args.word k) c.args.n c.map.result (search rules)
