-- `put_number`: the space, then the digits. Assumes nothing.
use Rattle.std.proofs.Common.{[], ◌∷◌}
use Rattle.listings.specs.Bytes.{decimal}
use Rattle.formatting.specs.Printing.{puts_both}
use Rattle.formatting.proofs.parts.put_number.Goals as goal

pub returns : goal.returns
returns c = puts_both _ _ _ _ _ _ (32 ∷ []) (decimal c.args.x) c.put_byte-next.ensures c.put_decimal.ensures
