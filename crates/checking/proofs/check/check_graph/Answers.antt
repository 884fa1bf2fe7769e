-- `check_graph`: listed, then compared with what was listed. Assumes nothing.
use borrow.Author.Rules.{rules}
use Rattle.checking.specs.Checking.{graph_is_checked}
use Rattle.checking.proofs.check.check_graph.Goals as goal

pub returns : goal.returns
returns c = graph_is_checked c.args.text.now c.args.graph.now _ _ _ _ _ _ _ _ _ _ _ _ _ _ _ _ (search rules) c.list_graph-listed.ensures _ c.check_page.ensures
