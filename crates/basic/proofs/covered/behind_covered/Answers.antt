-- `behind_covered`: cover by cover. Assumes nothing.
use Rattle.std.proofs.Common.{refl, ◌∙◌}
use Rattle.basic.specs.Covers.{cover_of}
use Rattle.basic.specs.Covered.{remark_leads}
use Rattle.basic.proofs.covered.behind_covered.Goals as goal

pub returns-in-Uncovered : goal.returns-in-Uncovered
unfolding cover_of
returns-in-Uncovered c = rw c.in-Uncovered.is refl

pub returns-in-Quoted : goal.returns-in-Quoted
unfolding cover_of
returns-in-Quoted c = rw c.in-Quoted.is c.behind_quote.ensures.closed.0

pub returns-in-Remark : goal.returns-in-Remark
unfolding cover_of
returns-in-Remark c = rw c.in-Remark.is (remark_leads c.args.file.now c.args.from c.zero_from.result c.zero_from.ensures.zero)

pub returns-in-Items : goal.returns-in-Items
unfolding cover_of
returns-in-Items c = rw c.in-Items.is c.items_end.ensures

pub returns-in-QuotedItem : goal.returns-in-QuotedItem
unfolding cover_of
returns-in-QuotedItem c = rw c.in-QuotedItem.is (c.behind_quote-in-QuotedItem.ensures.closed.1 ∙ c.items_end-in-QuotedItem.ensures)
