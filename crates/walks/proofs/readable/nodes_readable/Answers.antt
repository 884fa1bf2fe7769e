-- `nodes_readable`: each of them in turn. Assumes nothing.
use Rattle.std.proofs.Common.{◌∙◌, refl, rules, arith}
use Rattle.std.proofs.lemmas.Iterator.{YieldsList-from_range}
use Rattle.std.proofs.lemmas.Iterator.Search.{all_from_yields_List}
use Rattle.tables.specs.Readable.{every_number}
use Rattle.passes.specs.WalkTables.{node_readable}
use Rattle.walks.proofs.readable.nodes_readable.Goals as goal

pub returns : goal.returns
returns c =
    let g = c.args.g.now in
    let r = g.records in
    let f = node_readable r.stmts.now g.falls.now g.links.now r.n in
    all_from_yields_List f _ _ c.all.result c.all.ensures.ran (YieldsList-from_range 0 r.n r.n refl (omega arith)) (λ x b q k. search rules) ∙ every_number f r.n
