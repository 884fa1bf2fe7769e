-- `count_graph`: own edges, return targets, the RETURNs' edges. Assumes nothing.
use borrow.Author.Rules.{rules}
use lib.ListN.{length}
use mathlib.Core.Path.{◌≡◌, refl}
use Rattle.passes.specs.PreparedLaws.{prepared_roles}
use Rattle.wiring.specs.CountGraph.{count_skips, count_targets, count_found, count_fits, graph_counted}
use Rattle.wiring.proofs.wire.count_graph.Goals as goal

pub store_skip_lists-own-requires : goal.store_skip_lists-own-requires
store_skip_lists-own-requires c =
    let size : length c.args.buffer.now ≡ 4096 = search rules in
    count_skips c.requires _ size

pub find_returns-requires : goal.find_returns-requires
find_returns-requires c = count_found c.requires (c.store_skip_lists-own.ensures c.requires.listing c.requires.prepared (prepared_roles c.requires.prepared)) _ refl

pub overflow_add-result : goal.overflow_add-result
overflow_add-result c =
    let f = count_fits c.requires c.store_skip_lists-own.ensures c.list_return_targets-targets.ensures c.find_returns.ensures c.count_returns-back.ensures in
    search (rules, f)

pub returns : goal.returns
returns c = λ L h p. graph_counted c.requires c.store_skip_lists-own.ensures c.list_return_targets-targets.ensures c.find_returns.ensures c.count_returns-back.ensures L h p

pub list_return_targets-targets-requires-clause-falls_fit : goal.list_return_targets-targets-requires-clause-falls_fit
list_return_targets-targets-requires-clause-falls_fit c = (count_targets c.requires).1
