-- `nodes_of`: the tables hold the nodes, then each of them is tested. Assumes nothing.
use mathlib.Core.Path.{sym, ◌∙◌}
use Rattle.std.proofs.Common.{◌≡◌, refl, rules, arith}
use Rattle.std.specs.Prelude.{Bool, false, true}
use Rattle.std.specs.Bool.{then_some}
use Rattle.passes.specs.Tested.{Tested, NodesAre}
use Rattle.passes.specs.WalkTables.{sets-read, calls_refused, calls_by}
use Rattle.walks.proofs.readable.nodes_of.Goals as goal

pub returns-then-not-sets_fit : goal.returns-then-not-sets_fit
returns-then-not-sets_fit c =
    let a = c.args in
    sym (calls_refused a.stmts.now a.falls.now a.links.now a.n a.sets.now (sym c.sets_fit.ensures ∙ c.if-not-sets_fit.true))

pub overflow_mul-n : goal.overflow_mul-n
overflow_mul-n c =
    let a = c.args in
    omega (arith, (sets-read a.stmts.now a.n a.sets.now (sym c.sets_fit.ensures ∙ c.if-not-sets_fit.false)).few)

pub overflow_mul-n-else-falls-n : goal.overflow_mul-n-else-falls-n
overflow_mul-n-else-falls-n c =
    let a = c.args in
    omega (arith, (sets-read a.stmts.now a.n a.sets.now (sym c.sets_fit.ensures ∙ c.if-not-sets_fit.false)).few)

pub returns-then-falls-n : goal.returns-then-falls-n
returns-then-falls-n c =
    let a = c.args in
    sym (calls_by a.stmts.now a.falls.now a.links.now a.n a.sets.now (sym c.sets_fit.ensures ∙ c.if-not-sets_fit.false) false (search rules))

pub invariant_of-records : goal.invariant_of-records
invariant_of-records c =
    let a = c.args in
    let s = sets-read a.stmts.now a.n a.sets.now (sym c.sets_fit.ensures ∙ c.if-not-sets_fit.false) in
    record { few = s.few; rows = s.in_stmts }

-- what passed, or none
then_tested : {A : Type 0} {t : Bool} (P : A → Type 0) (x : A) (b : Bool) → b ≡ t → P x → Tested t P (then_some b x)
then_tested P x true e p = (sym e, p)
then_tested P x false e p = sym e

pub returns : goal.returns
returns c =
    let a = c.args in
    rw c.then_some.ensures
    (then_tested (NodesAre a.stmts.now a.falls.now a.links.now a.n) _ c.nodes_readable.result
    (calls_by a.stmts.now a.falls.now a.links.now a.n a.sets.now (sym c.sets_fit.ensures ∙ c.if-not-sets_fit.false) c.nodes_readable.result (grind arith))
    (record { stmts_are = refl; falls_are = refl; links_are = refl; count_is = refl }))
