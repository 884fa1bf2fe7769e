-- `feed_more`: by each state. Assumes nothing.
use mathlib.Core.Path.{sym, ap, subst}
use mathlib.Core.List.{[]}
use Rattle.comparing.specs.ComparingStates.{standing_as}
use Rattle.comparing.specs.Feeding.{FedTo, fed-ended, fed_as}
use Rattle.comparing.proofs.compare.Comparing.feed_more.Goals as goal

pub returns-in-Same : goal.returns-in-Same
unfolding standing_as
returns-in-Same g c = fed_as (ap (standing_as g.R.Refused.as_pair) (sym c.in-Same.is)) c.feed_rows.ensures

pub returns-in-Differs : goal.returns-in-Differs
unfolding standing_as
returns-in-Differs g c = fed_as (ap (standing_as g.R.Refused.as_pair) (sym c.in-Differs.is)) (c.differ_on.ensures c.args.due.now)

pub returns-in-Ended : goal.returns-in-Ended
unfolding standing_as
returns-in-Ended g c = subst (λ s. FedTo c.args.due.now s c.args.piece.now s []) (ap (standing_as g.R.Refused.as_pair) (sym c.in-Ended.is)) (fed-ended c.args.due.now _ _ c.args.piece.now c.requires)
