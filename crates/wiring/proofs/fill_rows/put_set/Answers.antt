-- `put_set`: the row holds the first nodes of the list. Assumes nothing.
use borrow.Author.Rules.{rules}
use mathlib.Core.Path.{◌≡◌, sym}
use lib.ListN.{length, replicate}
use native.Mathlib.Omega.{arith}
use Rattle.passes.specs.ClosureLaws.{row_none, row_more}
use Rattle.passes.specs.WalkLaws.{id_at}
use Rattle.wiring.proofs.fill_rows.put_set.Goals as goal

pub loop-id-init : goal.loop-id-init
loop-id-init c = let z : c.fill.new.self ≡ replicate (length c.args.row.now) 0 = search rules in row_none _ _ z c.requires.0

pub loop-id-preserved : goal.loop-id-preserved
loop-id-preserved c =
    let l = c.loop-id in
    let h = id_at 4096 c.args.list.now l.id-index c.requires.1 c.loop-id-test.true in
    let m = row_more l.row c.args.list.now l.id-index c.from.result c.loop-id-test.true c.from.ensures (omega (arith, h, c.from.ensures)) l.invariant in
    rw (sym c.insert.ensures) at m
