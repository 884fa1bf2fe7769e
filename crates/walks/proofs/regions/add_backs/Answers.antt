-- `add_backs`: the first k calls are done. Assumes nothing.
use native.Mathlib.Omega.{arith}
use Rattle.passes.specs.Regions.{back_from}
use Rattle.passes.specs.RegionLaws.{all_get_d, set-start, set_more}
use Rattle.walks.proofs.regions.add_backs.Goals as goal

pub loop-c-init : goal.loop-c-init
loop-c-init c =
    let g = c.args.g.now in
    let a = c.args in
    (set-start (back_from g.records.stmts.now g.falls.now g.links.now a.e) a.calls.now _)

pub add_back-requires : goal.add_back-requires
add_back-requires c =
    let l = c.loop-c in
    (all_get_d c.requires.0 l.c-index _ (omega arith) c.from.ensures, c.requires.1)

pub loop-c-preserved : goal.loop-c-preserved
loop-c-preserved c =
    let g = c.args.g.now in
    let a = c.args in
    let l = c.loop-c in
    set_more (back_from g.records.stmts.now g.falls.now g.links.now a.e) a.calls.now l.c-index _ (omega arith) c.from.ensures _ _ _ l.invariant c.add_back.ensures
