-- `climb`: from the holder reached, by the holders that are left, as from the first. Assumes nothing.
use Rattle.std.proofs.Common.{suc, ◌-◌, ◌≡◌, sym, ap, ◌∙◌}
use Rattle.tables.specs.OneMore.{one_more}
use Rattle.statements.specs.StatementAt.{climb}
use Rattle.statements.specs.StatementLaws.{is_refused, not_refused, climb_end, climb-none, climb-outside, climb-deep, climb_leaf, climb_on}
use Rattle.statements.proofs.statement.Statements.climb.Goals as goal
use Rattle.statements.proofs.statement.Statements.climb.Goals.{then-self-node-via-then-self-node, then-self-node-via-else-self-node+then-record_outside, then-left-eq0-via-then-left-eq0, then-left-eq0-via-else-left-eq0+then-not-is_branching}

pub returns-then-self-node : goal.returns-then-self-node
returns-then-self-node c =
    let a = c.args in
    let s = a.self.now in
    let l = c.loop-at in
    let z = ap one_more c.in-Some.is in
    let e : climb s.lines s.stmts.now s.n 16 (one_more a.holder) ≡ climb s.lines s.stmts.now s.n l.left (suc c.in-Some.node) = l.invariant ∙ ap (climb s.lines s.stmts.now s.n l.left) z in
    rw c.at.ensures (is_refused _ 24 (e ∙ elim c.then-self-node.branch [
      | then-self-node-via-then-self-node w ↦ climb-none s.lines s.stmts.now s.n l.left c.in-Some.node w.if-self-node.true
      | then-self-node-via-else-self-node+then-record_outside w ↦ climb-outside s.lines s.stmts.now s.n l.left c.in-Some.node w.if-self-node.false (sym w.record_outside.ensures ∙ w.if-record_outside.true)
    ]))

pub returns-then-left-eq0 : goal.returns-then-left-eq0
returns-then-left-eq0 c =
    let a = c.args in
    let s = a.self.now in
    let l = c.loop-at in
    let z = ap one_more c.in-Some.is in
    let e : climb s.lines s.stmts.now s.n 16 (one_more a.holder) ≡ climb s.lines s.stmts.now s.n l.left (suc c.in-Some.node) = l.invariant ∙ ap (climb s.lines s.stmts.now s.n l.left) z in
    let o = sym c.record_outside.ensures ∙ c.if-record_outside.false in
    rw c.at-then-left-eq0.ensures (is_refused _ 25 (e ∙ elim c.then-left-eq0.branch [
      | then-left-eq0-via-then-left-eq0 w ↦ climb-deep s.lines s.stmts.now s.n c.in-Some.node c.if-self-node.false o l.left w.if-left-eq0.true
      | then-left-eq0-via-else-left-eq0+then-not-is_branching w ↦ climb_leaf s.lines s.stmts.now s.n c.in-Some.node c.if-self-node.false o l.left (rw w.word.ensures at (sym w.is_branching.ensures ∙ w.if-not-is_branching.true))
    ]))

pub loop-at-preserved : goal.loop-at-preserved
loop-at-preserved c =
    let a = c.args in
    let s = a.self.now in
    let l = c.loop-at in
    let z = ap one_more c.in-Some.is in
    l.invariant ∙ ap (climb s.lines s.stmts.now s.n l.left) z
    ∙ climb_on s.lines s.stmts.now s.n c.in-Some.node c.if-self-node.false (sym c.record_outside.ensures ∙ c.if-record_outside.false) l.left c.if-left-eq0.false (rw c.word.ensures at (sym c.is_branching.ensures ∙ c.if-not-is_branching.false))
    ∙ ap (climb s.lines s.stmts.now s.n (l.left - 1)) (sym c.holder-at.ensures)

pub returns : goal.returns
returns c =
    let a = c.args in
    let s = a.self.now in
    let l = c.loop-at in
    let z = ap one_more c.in_default.is in
    not_refused _ (l.invariant ∙ ap (climb s.lines s.stmts.now s.n l.left) z ∙ climb_end s.lines s.stmts.now s.n l.left)
