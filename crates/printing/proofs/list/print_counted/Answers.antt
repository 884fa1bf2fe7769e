-- `print_counted`: what is put on the page is in the part. Assumes nothing.
use Rattle.std.proofs.Common.{rules}
use Rattle.graph.specs.Print.{printed}
use Rattle.formatting.specs.Pages.{Wrote}
use Rattle.printing.proofs.list.print_counted.Goals as goal

pub returns : goal.returns
returns c = λ L g. let w : Wrote c.new-page.result c.print_graph.new.page (printed L) = c.print_graph.ensures L g in search rules
