-- `put_holder`: a number, or none. Assumes nothing.
use Rattle.std.proofs.Common.{sym, ap, ◌∙◌}
use Rattle.listings.specs.Bytes.{bytes}
use Rattle.tables.specs.OneMore.{one_more}
use Rattle.printing.specs.PrintedTables.{no_holder, one_holder}
use Rattle.printing.proofs.print_nodes.put_holder.Goals as goal

pub returns-in-Some : goal.returns-in-Some
unfolding bytes
returns-in-Some c = one_holder c.in-Some.outer _ (ap one_more (sym c.in-Some.is) ∙ c.holder.ensures) c.put_bytes.ensures c.put_number.ensures

pub returns-in_default : goal.returns-in_default
unfolding bytes
returns-in_default c = no_holder _ (ap one_more (sym c.in_default.is) ∙ c.holder.ensures) c.put_bytes.ensures
