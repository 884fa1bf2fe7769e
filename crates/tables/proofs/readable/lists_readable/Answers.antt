-- `lists_readable`: by the lists of the nodes, if these are few and have rows. Assumes nothing.
use Rattle.std.proofs.Common.{◌∙◌, sym, refl, rules, arith}
use Rattle.std.proofs.lemmas.Bool.{leb-true, leb-false}
use Rattle.std.proofs.lemmas.Iterator.{YieldsList-from_range}
use Rattle.std.proofs.lemmas.Iterator.Search.{all_from_yields_List}
use Rattle.tables.specs.Readable.{list_readable, many_nodes, rows_short, lists_all, every_number}
use Rattle.tables.proofs.readable.lists_readable.Goals as goal
use Rattle.tables.proofs.readable.lists_readable.Goals.{then-n-le-MAX_STMTS, else-n-le-MAX_STMTS}

pub returns-then-n-lists : goal.returns-then-n-lists
returns-then-n-lists c =
    let a = c.args in
    let e = all_from_yields_List (list_readable a.lists.now a.edges.now a.n) _ _ c.all.result c.all.ensures.ran (YieldsList-from_range 0 a.n a.n refl (omega arith)) (λ x b q k. search rules) in
    elim c.if-n-le-MAX_STMTS.branch [
      | then-n-le-MAX_STMTS w ↦ lists_all a.lists.now a.edges.now a.n w.if-n-le-MAX_STMTS.true (leb-true _ _ (sym w.value-is ∙ c.if-n-lists.true)) c.all.result (e ∙ every_number _ a.n)
      | else-n-le-MAX_STMTS w ↦ absurd (omega (arith, leb-true a.n 4096 (sym w.value-is ∙ c.if-n-lists.true)))
    ]

pub returns-else-n-lists : goal.returns-else-n-lists
returns-else-n-lists c =
    let a = c.args in
    elim c.if-n-le-MAX_STMTS.branch [
      | then-n-le-MAX_STMTS w ↦ c.if-n-lists.false ∙ rows_short a.lists.now a.edges.now a.n w.if-n-le-MAX_STMTS.true (leb-false _ _ (sym w.value-is ∙ c.if-n-lists.false))
      | else-n-le-MAX_STMTS w ↦ c.if-n-lists.false ∙ many_nodes a.lists.now a.edges.now a.n w.if-n-le-MAX_STMTS.false
    ]
