-- `items_end`: the DATA goes on at `at`. Assumes nothing.
use Rattle.std.proofs.Common.{◌∙◌, arith, inl, inr}
use Rattle.program_files.specs.Program.{uncovered, items}
use Rattle.basic.specs.Covered.{items_colon, items_on, items_quote, leads_end, leads_past}
use Rattle.basic.proofs.covered.items_end.Goals as goal

pub returns-in-0 : goal.returns-in-0
returns-in-0 c =
    let f = c.args.file.now in
    c.loop-at.invariant ∙ elim c.in-0.is [
      | inl z ↦ leads_end f c.loop-at.at c.loop-at-test.true items uncovered z
      | inr z ↦ items_colon f c.loop-at.at c.loop-at-test.true z
    ]

pub loop-at-preserved-in-34 : goal.loop-at-preserved-in-34
loop-at-preserved-in-34 c = c.loop-at.invariant ∙ items_quote c.args.file.now c.loop-at.at c.loop-at-test.true c.in-34.is ∙ c.behind_quote-at.ensures.closed.1

pub loop-at-preserved : goal.loop-at-preserved
loop-at-preserved c = c.loop-at.invariant ∙ items_on c.args.file.now c.loop-at.at c.loop-at-test.true (grind arith) (grind arith) (grind arith)

pub returns : goal.returns
returns c = c.loop-at.invariant ∙ leads_past c.args.file.now items uncovered c.loop-at.at c.loop-at-test.false
