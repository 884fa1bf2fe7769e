-- `refuse`: there is room for each refusal. Assumes nothing.
use Rattle.std.proofs.Common.{rules}
use Rattle.flowask.specs.Limits.{refused-whole}
use Rattle.flowask.proofs.refuse.Goals as goal

pub returns : goal.returns
returns c = (refused-whole c.args.refusal c.args.out.now _ _ c.told-out (search rules) c.print_refusal-r.ensures).bytes
