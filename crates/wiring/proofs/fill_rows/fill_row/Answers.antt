-- `fill_row`: one row, lent on as the part that it is. Assumes nothing.
use borrow.Author.Rules.{rules}
use Prim.Native.Nat.{◌≤◌, ◌-◌, ◌*◌}
use mathlib.Core.Path.{◌≡◌, sym, ◌∙◌, ap}
use native.Mathlib.Omega.{arith}
use lib.ListN.{length, take}
use Rattle.passes.specs.ReturnSetLaws.{row_part, row_length}
use Rattle.passes.specs.FillRows.{passes}
use Rattle.passes.specs.FillRowLaws.{row_left, row_filled, skip_fits, skip_made}
use Rattle.graph_laws.specs.EdgeBounds.{Ids}
use Rattle.wiring.specs.Passes.{are_nexts}
use Rattle.wiring.specs.FromLeads.{SkipMadeFrom}
use Rattle.wiring.proofs.fill_rows.fill_row.Goals as goal
use Rattle.wiring.proofs.fill_rows.fill_row.Goals.{After-skip_list-kept}

-- what skipping paths follow, whichever listing the tables hold
tables-made : (c : After-skip_list-kept) → SkipMadeFrom c.args.g.now c.args.args.now c.args.i c.args.part.now c.skip_list-kept.new.buffer c.skip_list-kept.result
tables-made c = skip_made c.list_of-count.ensures c.skip_list-kept.ensures

-- the list that was made fits the part, and has nodes only
fitting : (c : After-skip_list-kept) → (c.skip_list-kept.result ≤ length c.skip_list-kept.new.buffer) × Ids 4096 (take c.skip_list-kept.result c.skip_list-kept.new.buffer)
unfolding passes
fitting c =
    let size : length c.args.part.now ≡ 4096 = search rules in
    skip_fits _ _ _ _ _ _ _ _ _
    c.args.part.now _ _ (rw size (c.requires.ready.skips (rw c.word.ensures at (sym c.has.ensures ∙ c.if-not-has.false)))) (tables-made c)

pub returns-then-not-has : goal.returns-then-not-has
unfolding passes
returns-then-not-has c =
    row_left _ _ _ _ _ _ _ _ _ (are_nexts c.args.pass)
    (rw c.word.ensures at (sym c.has.ensures ∙ c.if-not-has.true))

pub list_of-count-requires-clause-ready : goal.list_of-count-requires-clause-ready
unfolding passes
list_of-count-requires-clause-ready c = (c.requires.ready.skips (rw c.word.ensures at (sym c.has.ensures ∙ c.if-not-has.false))).ready

pub skip_list-kept-requires : goal.skip_list-kept-requires
unfolding passes
skip_list-kept-requires c =
    let s = c.requires.ready.skips (rw c.word.ensures at (sym c.has.ensures ∙ c.if-not-has.false)) in
    let r = s.ready in
    let size : length c.args.part.now ≡ 4096 = search rules in
    omega (arith, size, (c.list_of-count.ensures r.listing r.keys₀ r.nodes r.prepared r.kept r.size r.node).within)

pub shared_ref_as_front-put_set : goal.shared_ref_as_front-put_set
shared_ref_as_front-put_set c =
    let size : length c.skip_list-kept.new.buffer ≡ 4096 = search rules in
    omega (arith, size, (fitting (goal.at.shared_ref_as_front-put_set c).After-skip_list-kept).0)

pub put_set-requires : goal.put_set-requires
put_set-requires c =
    let w = c.words_of.ensures (omega (arith, c.requires.in_bounds, c.args.g.now.nodes.records.few)) in
    (rw w.0 (ap length (row_part c.args.args.now c.args.i _ (omega (arith, w)))) ∙ row_length c.args.args.now c.args.i c.requires.ready.fits, (fitting (goal.at.put_set-requires c).After-skip_list-kept).1)

pub returns : goal.returns
unfolding passes
returns c =
    let w = c.words_of.ensures (omega (arith, c.requires.in_bounds, c.args.g.now.nodes.records.few)) in
    let k : c.words_of.result.end - c.args.i * 64 ≡ 64 = omega (arith, w) in
    rw w.0 (row_filled _ _ _ _ _ _ _ _ _ (are_nexts c.args.pass)
    c.args.part.now _ _ _ _ (rw c.word.ensures at (sym c.has.ensures ∙ c.if-not-has.false)) k c.requires.ready.fits (tables-made (goal.at.returns c).After-skip_list-kept) c.put_set.ensures)
