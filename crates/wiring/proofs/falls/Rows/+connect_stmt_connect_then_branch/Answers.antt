-- `connect_stmt` and `connect_then_branch`, which call each other. Assumes nothing.
use Prim.Native.Nat.{◌-◌, ◌+◌, ◌≤◌}
use mathlib.Core.Bool.{not}
use mathlib.Core.Path.{◌≡◌, ap}
use native.Mathlib.Omega.{arith}
use borrow.Author.Rules.{rules}
use Rattle.std.specs.Prelude.{Err}
use Rattle.wiring.specs.Found.{all_found}
use Rattle.passes.specs.Connecting.{not_both, branch-start, branch_in, branch-step, branch_end, stmt_leaf, stmt_false, stmt_first, stmt_both}
use Rattle.wiring.proofs.falls.Rows.+connect_stmt_connect_then_branch.Goals as goal

pub connect_stmt-returns-then-self-row-eq-NO_BRANCH : goal.connect_stmt-returns-then-self-row-eq-NO_BRANCH
connect_stmt-returns-then-self-row-eq-NO_BRANCH t c =
    let a = c.args in
    stmt_leaf _ _ _ a.depth a.i a.end a.next a.falls.now _ c.if-self-row-eq-NO_BRANCH.true c.put_falls.ensures

pub connect_stmt-returns-in_err-inner : goal.connect_stmt-returns-in_err-inner
connect_stmt-returns-in_err-inner t c =
    let a = c.args in
    let e : c.from_residual.result ≡ Err c.in_err-inner.field-0.0 = search rules in
    let z : a.depth ≡ 0 = search rules in
    rw e (stmt_false _ _ _ a.depth a.i a.end a.next a.falls.now c.if-self-row-eq-NO_BRANCH.false _ c.second-m.ensures _ (λ h. absurd (omega (arith, z, h.0))))

pub connect_stmt-returns-in_err-connect_then_branch : goal.connect_stmt-returns-in_err-connect_then_branch
connect_stmt-returns-in_err-connect_then_branch t c =
    let a = c.args in
    let q : (1 ≤ a.depth) × (c.in_ok-inner.inner ≡ a.depth - 1) = search rules in
    let e : c.from_residual-in_err-connect_then_branch.result ≡ Err c.in_err-connect_then_branch.field-0.0 = search rules in
    rw e (stmt_first _ _ _ a.depth a.i a.end a.next a.falls.now c.if-self-row-eq-NO_BRANCH.false _ c.second-m.ensures _ _ _ q.0
    (rw q.1 at c.connect_then_branch.ensures) (ap (λ x. not (all_found x)) c.in_err-connect_then_branch.was))

pub connect_stmt-returns : goal.connect_stmt-returns
connect_stmt-returns t c =
    let a = c.args in
    let q : (1 ≤ a.depth) × (c.in_ok-inner.inner ≡ a.depth - 1) = search rules in
    stmt_both _ _ _ a.depth a.i a.end a.next a.falls.now c.if-self-row-eq-NO_BRANCH.false _ c.second-m.ensures _ _ _ _ _ q.0
    c.connect_row.ensures (rw q.1 at c.connect_then_branch.ensures) (rw q.1 at c.connect_then_branch-2.ensures)

pub connect_then_branch-loop-i-init : goal.connect_then_branch-loop-i-init
connect_then_branch-loop-i-init t c = (omega arith, omega arith, λ es et d dd s sp ok q. branch-start _ _ _ _ _ _ _ _ es et d dd s sp ok q)

pub connect_then_branch-returns-then-not-contains : goal.connect_then_branch-returns-then-not-contains
connect_then_branch-returns-then-not-contains t c =
    let a = c.args in
    let l = c.loop-i in
    λ es et d dd s sp ok q.
    let r = branch_in _ _ _ _ _ _ _ _ es et d dd s sp ok q _ l.i c.loop-i-test.true
    (l.invariant.2 es et d dd s sp ok q) in
    let out : (l.i + 1 ≤ c.end-e.result) × (c.end-e.result ≤ a.end) → ⊥ = search rules in
    absurd (out (omega (arith, c.end-e.ensures, r.0), omega (arith, c.end-e.ensures, r.1)))

pub connect_then_branch-returns-in_err-connect_stmt : goal.connect_then_branch-returns-in_err-connect_stmt
connect_then_branch-returns-in_err-connect_stmt t c =
    let a = c.args in
    let l = c.loop-i in
    λ es et d dd s sp ok q.
    let r = branch-step _ _ _ _ _ _ _ _ es et d dd s sp ok q _ l.i c.loop-i-test.true
    (l.invariant.2 es et d dd s sp ok q) _ _ _ _ c.end-e.ensures c.target_of-target.ensures c.connect_stmt.ensures in
    not_both _ r.0 (ap (λ x. not (all_found x)) c.in_err-connect_stmt.was)

pub connect_then_branch-loop-i-preserved : goal.connect_then_branch-loop-i-preserved
connect_then_branch-loop-i-preserved t c =
    let a = c.args in
    let l = c.loop-i in
    let io : (l.i + 1 ≤ c.end-e.result) × (c.end-e.result ≤ c.args.end) = search rules in (
      omega (arith, io, l.invariant.0),
      io.1,
      λ es et d dd s sp ok q.
          (branch-step _ _ _ _ _ _ _ _ es et d dd s sp ok q _ l.i c.loop-i-test.true
          (l.invariant.2 es et d dd s sp ok q) _ _ _ _ c.end-e.ensures c.target_of-target.ensures c.connect_stmt.ensures).1,
    )

pub connect_then_branch-returns : goal.connect_then_branch-returns
connect_then_branch-returns t c =
    let a = c.args in
    λ es et d dd s sp ok q.
    branch_end _ _ _ _ _ _ _ _ es et d dd s sp ok q _ _ c.loop-i-test.false
    (c.loop-i.invariant.2 es et d dd s sp ok q)
