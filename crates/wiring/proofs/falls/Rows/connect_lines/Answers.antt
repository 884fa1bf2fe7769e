-- `connect_lines`: the lines from l on are connected, `next` is the entry of the first of them and `end` its first
-- node. Assumes nothing.
use mathlib.Core.Bool.{not}
use mathlib.Core.Path.{ap}
use native.Mathlib.Omega.{arith}
use borrow.Author.Rules.{rules}
use Rattle.passes.specs.Connecting.{not_both, ahead-start, ahead_down, ahead_end, lines_connected}
use Rattle.graph.specs.Nodes as definition
use Rattle.wiring.specs.Found.{all_found}
use Rattle.wiring.proofs.falls.Rows.connect_lines.Goals as goal

pub loop-l-init : goal.loop-l-init
loop-l-init c = (search rules, λ ls ok et sh. ahead-start _ _ _ _ _ ls ok et sh)

pub returns-in_err-connect_then_branch : goal.returns-in_err-connect_then_branch
returns-in_err-connect_then_branch c =
    let a = c.args in
    let l = c.loop-l in
    λ ls ok et sh z.
    let r = ahead_down a.self.now.entries.rows.now a.self.now.entries.count a.self.now.records.stmts.now a.falls.now (definition.entries ls) _ et l.falls _ l.l l.end l.next _ _
    c.loop-l-test.true c.start_of-from.ensures (l.invariant.1 ls ok et sh) c.connect_then_branch.ensures in
    not_both _ r.0 (ap (λ x. not (all_found x)) c.in_err-connect_then_branch.was)

pub loop-l-preserved : goal.loop-l-preserved
loop-l-preserved c =
    let a = c.args in
    let l = c.loop-l in (
      omega (arith, l.invariant.0, c.start_of-from.ensures.within),
      λ ls ok et sh.
          rw c.node-next.ensures
          (ahead_down a.self.now.entries.rows.now a.self.now.entries.count a.self.now.records.stmts.now a.falls.now (definition.entries ls) _ et l.falls _ l.l l.end l.next _ _
          c.loop-l-test.true c.start_of-from.ensures (l.invariant.1 ls ok et sh) c.connect_then_branch.ensures).1,
    )

pub returns : goal.returns
returns c = lines_connected _ _ _ _ _ _ _ c.requires (λ ls ok et sh. ahead_end _ _ _ _ _ _ _ _ _ (omega arith) (c.loop-l.invariant.1 ls ok et sh))
