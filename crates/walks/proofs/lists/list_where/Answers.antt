-- `list_where`: a node that passes is put behind those before it. Assumes nothing.
use Rattle.std.proofs.Common.{◌≡◌, refl, sym, ◌∙◌, arith}
use Rattle.passes.specs.ListedWhere.{where_start, where_yes, where_no}
use Rattle.walks.proofs.lists.list_where.Goals as goal
use Rattle.walks.proofs.lists.list_where.Goals.{then-passes, else-passes}

pub loop-i-init : goal.loop-i-init
loop-i-init g c = (omega arith, λ p told. where_start p c.args.list.now)

pub loop-i-preserved : goal.loop-i-preserved
loop-i-preserved g c =
    let l = c.loop-i in
    let t = c.passes in
    elim c.if-passes.branch [
      | then-passes w ↦ (
        omega (arith, l.invariant.0, w.m-is),
        λ p told. rw (w.list-is, w.m-is) (where_yes p c.args.list.now l.list l.m l.i _ (l.invariant.1 p told) (omega (arith, l.invariant.0)) refl (sym (told l.i t.result c.loop-i-test.true t.ensures) ∙ w.if-passes.true)),
      )
      | else-passes w ↦ (
        omega (arith, l.invariant.0, w.m-is),
        λ p told. rw (w.list-is, w.m-is) (where_no p c.args.list.now l.list l.m l.i (l.invariant.1 p told) (sym (told l.i t.result c.loop-i-test.true t.ensures) ∙ w.if-passes.false)),
      )
    ]

pub returns-clause-put : goal.returns-clause-put
returns-clause-put g c p told =
    let e : c.loop-i.i ≡ c.args.records.now.n = omega (arith, c.loop-i-test.false) in
    rw (← e) (c.loop-i.invariant.1 p told)
