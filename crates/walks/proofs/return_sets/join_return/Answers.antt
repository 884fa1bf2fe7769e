-- `join_return`: one node's set, lent on as the part that it is. Assumes nothing.
use borrow.Author.Rules.{rules}
use Prim.Native.Nat.{◌-◌, ◌*◌}
use mathlib.Core.Path.{◌≡◌, sym, ◌∙◌}
use native.Mathlib.Omega.{arith}
use Rattle.passes.specs.ReturnSetLaws.{return_joined}
use Rattle.walks.proofs.return_sets.join_return.Goals as goal

pub returns-then-word-eq-RETURN : goal.returns-then-word-eq-RETURN
returns-then-word-eq-RETURN c =
    let r = c.args.records.now in
    let w = c.words_of in
    let k : w.result.end - c.args.i * 64 ≡ 64 = omega (arith, w.ensures) in
    rw w.ensures.0 (return_joined r.stmts.now r.n c.args.backs.now c.args.i _ c.args.sets.now c.join.new.set
    (c.if-i-records.true, sym c.word.ensures ∙ c.if-word-eq-RETURN.true) c.requires k (search rules) (rw w.ensures.0 at c.join.ensures))
