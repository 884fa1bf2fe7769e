-- `row_region`: the node alone, or with its row. Assumes nothing.
use mathlib.Core.Path.{refl, sym, ap, ◌∙◌}
use native.Mathlib.Omega.{arith}
use Rattle.passes.specs.Sets.{joined}
use Rattle.passes.specs.ReturnSets.{set_of}
use Rattle.passes.specs.ClosureLaws.{return_reached, row_reached}
use Rattle.walks.proofs.closure.row_region.Goals as goal

pub returns-then-word-eq-RETURN : goal.returns-then-word-eq-RETURN
returns-then-word-eq-RETURN c =
    let r = c.args.rows.now.records in
    let a = c.args in
    return_reached a.from (omega (arith, r.few, c.requires)) c.no_words-set.result c.no_words-set.ensures r.stmts.now a.rows.now.words.now r.n c.requires _ c.insert.ensures (sym c.word.ensures ∙ c.if-word-eq-RETURN.true)

pub returns : goal.returns
unfolding set_of
returns c =
    let r = c.args.rows.now.records in
    let a = c.args in
    row_reached a.from (omega (arith, r.few, c.requires)) c.no_words-set.result c.no_words-set.ensures r.stmts.now a.rows.now.words.now r.n c.requires _ _ _ c.insert.ensures refl (omega (arith, a.rows.now.rows, c.requires)) (c.join.ensures ∙ ap (joined c.insert.new.set) c.of.ensures.is_set) (λ e. c.if-word-eq-RETURN.false (c.word.ensures ∙ e))
