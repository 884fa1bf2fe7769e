-- `join_by_rows`: an entry with no span has no calls; any other has its region listed by its row. Assumes
-- nothing.
use Rattle.passes.specs.RegionLaws.{uncalled_joined, entry_calls}
use Rattle.walks.proofs.by_rows.join_by_rows.Goals as goal

pub returns-in_default : goal.returns-in_default
returns-in_default c =
    let g = c.args.g.now in
    λ step o.
    uncalled_joined g.records.stmts.now g.falls.now g.links.now g.records.n c.args.e c.args.calls.now.list.now c.args.calls.now.spans.now _ c.requires.0.calls_ready.listed c.requires.0.spanned
    c.in_default.ensures.uncalled step

pub join_region-requires : goal.join_region-requires
join_region-requires c =
    let g = c.args.g.now in
    (rw c.in-Some.ensures.called.2 (entry_calls g.records.stmts.now g.falls.now g.links.now g.records.n c.args.e c.args.calls.now.list.now c.args.calls.now.spans.now c.requires.0.calls_ready c.requires.0.spanned _ c.in-Some.ensures.called.1), c.requires.1, c.requires.0.in_rows)
