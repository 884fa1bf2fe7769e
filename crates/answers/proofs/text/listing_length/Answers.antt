-- `listing_length`: of the listing that `split_questions` gives. Assumes nothing.
use Rattle.std.proofs.Common.{sym, ap, length}
use Rattle.answers.specs.TextLaws.{split_listing}
use Rattle.answers.proofs.text.listing_length.Goals as goal

pub returns : goal.returns
returns c = ap length (sym (split_listing c.args.text.now _ _ c.split_questions.ensures))
