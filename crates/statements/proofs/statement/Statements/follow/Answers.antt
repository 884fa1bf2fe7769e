-- `follow`: on from the node found, by the numbers that are left. Assumes nothing.
use Rattle.std.proofs.lemmas.Result.{err_from_is_err_and}
use Rattle.std.proofs.Common.{ap, suc, refl, sym, ◌∙◌, arith, get_or}
use Rattle.tables.specs.OneMore.{one_more}
use Rattle.statements.specs.StatementLaws.{refused_none, passed_found, child_le, from_none, from_outside, from_next, from_end}
use Rattle.statements.proofs.statement.Statements.follow.Goals as goal

pub returns-in_err-node : goal.returns-in_err-node
returns-in_err-node c =
    let a = c.args in
    let s = a.self.now in
    let l = c.loop-index in
    let p = err_from_is_err_and c.from_residual.result c.from_residual.ensures.1 in
    let n = refused_none c.find.result c.at.result c.in_err-node.field-0.0 c.ok_or.result c.ok_or.ensures.value c.in_err-node.was in
    rw (p.1, p.2, n.1, c.at.ensures) (sym (l.invariant.1 ∙ from_none s.lines s.stmts.now s.n a.line (one_more l.at) a.path.now l.index-index 0 c.loop-index-test.true (ap one_more (sym n.0) ∙ c.find.ensures) refl))

pub record_outside-requires : goal.record_outside-requires
record_outside-requires c =
    let found = passed_found c.find.result c.at.result c.in_ok-node.node c.ok_or.result _ c.ok_or.ensures.value c.in_ok-node.was c.find.ensures in
    let a = c.args in
    let s = a.self.now in
    let l = c.loop-index in
    omega (arith, found, child_le s.stmts.now s.n a.line (one_more l.at) (get_or a.path.now l.index-index 0))

pub returns-then-record_outside : goal.returns-then-record_outside
returns-then-record_outside c =
    let found = passed_found c.find.result c.at.result c.in_ok-node.node c.ok_or.result _ c.ok_or.ensures.value c.in_ok-node.was c.find.ensures in
    let a = c.args in
    let s = a.self.now in
    let l = c.loop-index in
    rw c.at-then-record_outside.ensures (sym (l.invariant.1 ∙ from_outside s.lines s.stmts.now s.n a.line (one_more l.at) a.path.now l.index-index (suc c.in_ok-node.node) c.loop-index-test.true found c.in_ok-node.node refl (sym c.record_outside.ensures ∙ c.if-record_outside.true)))

pub loop-index-preserved : goal.loop-index-preserved
loop-index-preserved c =
    let found = passed_found c.find.result c.at.result c.in_ok-node.node c.ok_or.result _ c.ok_or.ensures.value c.in_ok-node.was c.find.ensures in
    let a = c.args in
    let s = a.self.now in
    let l = c.loop-index in (
      omega (arith, found, child_le s.stmts.now s.n a.line (one_more l.at) (get_or a.path.now l.index-index 0)),
      l.invariant.1 ∙ from_next s.lines s.stmts.now s.n a.line (one_more l.at) a.path.now l.index-index (suc c.in_ok-node.node) c.loop-index-test.true found c.in_ok-node.node refl (sym c.record_outside.ensures ∙ c.if-record_outside.false),
    )

pub returns : goal.returns
returns c =
    let a = c.args in
    let s = a.self.now in
    let l = c.loop-index in
    c.state.ensures ∙ sym (l.invariant.1 ∙ from_end s.lines s.stmts.now s.n a.line (one_more l.at) a.path.now l.index-index (omega arith))
