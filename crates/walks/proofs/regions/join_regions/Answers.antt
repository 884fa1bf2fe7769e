-- `join_regions`: the calls are listed, their spans found, all regions joined. Assumes nothing.
use Rattle.passes.specs.Walk.{stored_list}
use Rattle.passes.specs.RegionLaws.{regions_all}
use Rattle.walks.specs.FromListed.{stored_in}
use Rattle.walks.proofs.regions.join_regions.Goals as goal

pub join_entries-requires : goal.join_entries-requires
join_entries-requires c = record {
  calls_ready = c.among-calls.ensures.ready;
  spanned = c.among-calls.ensures.spanned;
  stored = stored_in c.args.w.now;
  in_sets = c.requires.1;
}

pub returns : goal.returns
returns c =
    let w = c.args.w.now in
    regions_all w.nodes.records.stmts.now w.nodes.falls.now w.nodes.links.now (stored_list w.lists.now w.edges.now) w.nodes.records.n c.requires.0 c.args.sets.now _ c.join_entries.ensures
