-- `span_call`: the part of the row that the targets take. Assumes nothing.
use Rattle.passes.specs.RegionLaws.{targets_row, part_ids, target-entries}
use Rattle.walks.proofs.spans.span_call.Goals as goal

pub span_row-requires : goal.span_row-requires
span_row-requires c =
    let g = c.args.g.now in
    let a = c.args in
    (part_ids g.records.stmts.now g.links.now a.c _ (targets_row _ _ _ _ c.targets.ensures) c.requires.0, c.requires.1)

pub returns : goal.returns
returns c =
    let g = c.args.g.now in
    let a = c.args in
    target-entries g.records.stmts.now g.links.now a.c a.k _ _ _ (targets_row _ _ _ _ c.targets.ensures) c.span_row.ensures
