-- `put_entries`: what the rows before this one say is there. Assumes nothing.
use Rattle.std.proofs.Common.{ℕ, ◌≡◌, arith, ap, length, take}
use Rattle.graph.specs.Lists.{each, below}
use Rattle.formatting.specs.Pages.{below-start, below_on, wrote_is}
use Rattle.printing.specs.PrintedTables.{entry_text, row_count, row_alone}
use Rattle.printing.proofs.print.put_entries.Goals as goal
use Rattle.printing.proofs.print.put_entries.Goals.{After-as_chunks}

count : (c : After-as_chunks) → length (take c.args.rows c.as_chunks.result.0.now) ≡ c.args.rows
count c = row_count c.args.entries.now c.args.rows c.as_chunks.result.0.now c.requires c.as_chunks.ensures.front c.as_chunks.ensures.front_len

pub loop-row-init : goal.loop-row-init
loop-row-init c = let a = c.args in below-start (entry_text a.entries.now) a.page.now

pub loop-row-preserved : goal.loop-row-preserved
loop-row-preserved c =
    let a = c.args in
    let i = c.loop-row.row-index in
    let e = row_alone a.entries.now a.rows c.as_chunks.result.0.now c.requires c.as_chunks.ensures.front c.as_chunks.ensures.front_len i (omega (arith, count (goal.at.loop-row-preserved c).After-as_chunks, c.loop-row-test.true)) in
    below_on (entry_text a.entries.now) a.page.now i c.loop-row.invariant (wrote_is e c.put_entry.ensures)

pub returns : goal.returns
returns c =
    let a = c.args in
    let e : c.loop-row.row-index ≡ a.rows = omega (arith, count (goal.at.returns c).After-as_chunks, c.loop-row-test.false, c.loop-row.auto.row-index-end) in
    wrote_is (ap (λ (n : ℕ). each (entry_text a.entries.now) (below n)) e) c.loop-row.invariant
