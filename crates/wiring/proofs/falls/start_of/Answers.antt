-- `start_of`: the last statement before `end` that is of another line, or none. Assumes nothing.
use Rattle.std.proofs.Common.{◌≡◌, rules}
use Rattle.std.proofs.lemmas.Iterator.Search.{find_from_yields_List}
use Rattle.tables.specs.OneMore.{one_more}
use Rattle.wiring.specs.LineStarts.{foreign, yields_down, begins_first}
use Rattle.wiring.proofs.falls.start_of.Goals as goal

pub returns : goal.returns
returns c =
    let a = c.args in
    let rows = a.r.now.stmts.now in
    let m : c.map_or.result ≡ one_more c.find.result = search rules in
    rw m (begins_first rows a.l a.end c.find.result (find_from_yields_List (foreign rows a.l) _ _ c.find.result c.find.ensures.ran (yields_down a.end (search rules)) (λ x b q k. search rules)))
