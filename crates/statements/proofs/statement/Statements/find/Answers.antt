-- `find`: the first of the nodes that passes. Assumes nothing.
use Rattle.std.proofs.Common.{◌≡◌, refl, rules, arith}
use Rattle.std.proofs.lemmas.Iterator.{YieldsList-from_range}
use Rattle.std.proofs.lemmas.Iterator.Search.{find_from_yields_List}
use Rattle.tables.specs.OneMore.{one_more}
use Rattle.statements.specs.StatementAt.{stands_at, child_at}
use Rattle.statements.specs.StatementLaws.{first_is}
use Rattle.statements.proofs.statement.Statements.find.Goals as goal

pub returns : goal.returns
unfolding child_at
returns c =
    let a = c.args in
    let s = a.self.now in
    let m : c.map_or-number.result ≡ one_more a.holder = search rules in
    let t = stands_at s.stmts.now a.line (one_more a.holder) a.index in
    first_is t s.n c.find.result (find_from_yields_List t _ _ c.find.result c.find.ensures.ran (YieldsList-from_range 0 s.n s.n refl (omega arith)) (λ x b q k. search rules))
