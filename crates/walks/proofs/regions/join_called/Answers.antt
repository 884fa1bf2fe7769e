-- `join_called`: an entry with no span has no calls; any other has its region walked. Assumes nothing.
use Rattle.passes.specs.Walk.{stored_list}
use Rattle.passes.specs.RegionLaws.{uncalled_joined, entry_calls}
use Rattle.walks.proofs.regions.join_called.Goals as goal

pub returns-in_default : goal.returns-in_default
returns-in_default c =
    let w = c.args.w.now in
    uncalled_joined w.nodes.records.stmts.now w.nodes.falls.now w.nodes.links.now w.nodes.records.n c.args.e c.args.calls.now.list.now c.args.calls.now.spans.now _ c.requires.0.calls_ready.listed c.requires.0.spanned
    c.in_default.ensures.uncalled _

pub join_region-requires : goal.join_region-requires
join_region-requires c =
    let w = c.args.w.now in
    (rw c.in-Some.ensures.called.2 (entry_calls w.nodes.records.stmts.now w.nodes.falls.now w.nodes.links.now w.nodes.records.n c.args.e c.args.calls.now.list.now c.args.calls.now.spans.now c.requires.0.calls_ready c.requires.0.spanned _ c.in-Some.ensures.called.1), c.requires.1, c.requires.0.in_sets)

pub returns : goal.returns
returns c =
    let w = c.args.w.now in
    let step = stored_list w.lists.now w.edges.now in
    c.join_region.ensures step (c.region.ensures step c.requires.0.stored)
