-- `join_region`: the continuations of the calls of the entry, joined into the RETURNs of its list. Assumes nothing.
use Rattle.passes.specs.RegionLaws.{listed-joined}
use Rattle.walks.proofs.regions.join_region.Goals as goal

pub returns : goal.returns
returns c =
    let g = c.args.g.now in
    let a = c.args in
    listed-joined g.records.stmts.now g.falls.now g.links.now g.records.n a.e a.list.now c.no_words-backs.result _ a.calls.now a.sets.now _ c.no_words-backs.ensures
    c.requires.0 c.add_backs.ensures c.join_returns.ensures
