-- `put_path`, which calls itself for the IF that holds the statement; `left` falls. Assumes nothing.
use native.Mathlib.Omega.{arith}
use Rattle.std.proofs.Common.{rules, ◌≡◌, ◌∙◌}
use Rattle.tables.specs.Columns.{index_of}
use Rattle.printing.specs.PrintedTables.{path_top, path_first, path_next}
use Rattle.printing.proofs.print_nodes.+put_path.Goals.{in_default-via-in-Some+else-left-gt0, in_default-via-in_default}
use Rattle.printing.proofs.print_nodes.+put_path.Goals as goal

pub returns-in_default : goal.returns-in_default
returns-in_default t c =
    let a = c.args in
    let e : c.from-index.result ≡ index_of a.records.now.stmts.now a.i = c.from-index.ensures ∙ c.index.ensures in
    elim c.in_default.branch [
      | in_default-via-in-Some+else-left-gt0 w ↦ path_top a.records.now.stmts.now a.page.now a.i _ e a.left (omega (arith, w.if-left-gt0.false)) c.put_decimal.ensures
      | in_default-via-in_default w ↦ path_first a.records.now.stmts.now a.page.now a.i _ e a.left (search rules) c.put_decimal.ensures
    ]

pub returns-in-Some : goal.returns-in-Some
returns-in-Some t c =
    let a = c.args in
    let e : c.from-index.result ≡ index_of a.records.now.stmts.now a.i = c.from-index.ensures ∙ c.index.ensures in
    path_next a.records.now.stmts.now a.page.now a.i _ e a.left c.in-Some.outer c.in-Some.ensures (omega arith) c.put_path.ensures c.put_number.ensures
