-- `source_of`: the two counts, what walks read, then where RETURNs lead. Assumes nothing.
use mathlib.Core.Path.{refl, sym, ◌∙◌}
use Rattle.std.proofs.Common.{◌≡◌, arith}
use Rattle.std.specs.Prelude.{false, true}
use Rattle.passes.specs.WalkTables.{walks_readable, calls_sets}
use Rattle.passes.specs.RegionLaws.{walks_by, walks-refused}
use Rattle.storing.specs.StoredGraph.{returns_readable, graph_read, many_rows, many_targets, walks-outside, graph_by}
use Rattle.storing.proofs.readable.source_of.Goals as goal
use Rattle.storing.proofs.readable.source_of.Goals.{then-rows-gt-MAX_LINES-via-then-rows-gt-MAX_LINES, then-rows-gt-MAX_LINES-via-else-rows-gt-MAX_LINES+then-targets-gt-MAX_STMTS, then-rows-gt-MAX_LINES-via-else-rows-gt-MAX_LINES+else-targets-gt-MAX_STMTS+then-not-lists_readable}

pub returns-then-rows-gt-MAX_LINES : goal.returns-then-rows-gt-MAX_LINES
returns-then-rows-gt-MAX_LINES c =
    let a = c.args in
    elim c.then-rows-gt-MAX_LINES.branch [
      | then-rows-gt-MAX_LINES-via-then-rows-gt-MAX_LINES w ↦ (sym (many_rows a.handlers a.stmts.now a.args.now a.falls.now a.links.now a.n a.rows a.lists.now a.scratch.now a.returns.now a.targets w.if-rows-gt-MAX_LINES.true), c.at-outside.ensures)
      | then-rows-gt-MAX_LINES-via-else-rows-gt-MAX_LINES+then-targets-gt-MAX_STMTS w ↦
          (sym (many_targets a.handlers a.stmts.now a.args.now a.falls.now a.links.now a.n a.rows a.lists.now a.scratch.now a.returns.now a.targets (omega (arith, w.if-rows-gt-MAX_LINES.false)) w.if-targets-gt-MAX_STMTS.true), c.at-outside.ensures)
      | then-rows-gt-MAX_LINES-via-else-rows-gt-MAX_LINES+else-targets-gt-MAX_STMTS+then-not-lists_readable w ↦ (
        sym (walks-outside a.handlers a.stmts.now a.args.now a.falls.now a.links.now a.n a.rows a.lists.now a.scratch.now a.returns.now a.targets (omega (arith, w.if-rows-gt-MAX_LINES.false)) (omega (arith, w.if-targets-gt-MAX_STMTS.false))
            (sym (walks-refused a.stmts.now a.falls.now a.links.now a.lists.now a.scratch.now a.n a.args.now (sym w.lists_readable.ensures ∙ w.if-not-lists_readable.true)))),
        c.at-outside.ensures,
      )
    ]

pub returns-in_default : goal.returns-in_default
returns-in_default c =
    let a = c.args in (
      sym (walks-outside a.handlers a.stmts.now a.args.now a.falls.now a.links.now a.n a.rows a.lists.now a.scratch.now a.returns.now a.targets (omega (arith, c.if-rows-gt-MAX_LINES.false)) (omega (arith, c.if-targets-gt-MAX_STMTS.false))
          (sym (walks_by a.stmts.now a.falls.now a.links.now a.lists.now a.scratch.now a.n a.args.now (sym c.lists_readable.ensures ∙ c.if-not-lists_readable.false) false (sym c.in_default.ensures)))),
      c.at-outside.ensures,
    )

pub invariant_of-sets : goal.invariant_of-sets
invariant_of-sets c =
    let a = c.args in
    let t = c.in-Some.ensures in
    record { rows = omega (arith, t.1.count_is, calls_sets a.stmts.now a.falls.now a.links.now a.n a.args.now t.0) }

pub returns-then-not-returns_readable : goal.returns-then-not-returns_readable
returns-then-not-returns_readable c =
    let a = c.args in
    let t = c.in-Some.ensures in
    let h : true ≡ walks_readable a.stmts.now a.falls.now a.links.now a.lists.now a.scratch.now a.n a.args.now = walks_by a.stmts.now a.falls.now a.links.now a.lists.now a.scratch.now a.n a.args.now (sym c.lists_readable.ensures ∙ c.if-not-lists_readable.false) true (sym t.0) in
    let e : false ≡ returns_readable a.handlers a.stmts.now a.args.now a.n a.returns.now a.targets = sym c.if-not-returns_readable.true ∙ (rw (t.1.stmts_are, t.1.count_is) at c.returns_readable.ensures) in
    (sym (graph_by a.handlers a.stmts.now a.args.now a.falls.now a.links.now a.n a.rows a.lists.now a.scratch.now a.returns.now a.targets (omega (arith, c.if-rows-gt-MAX_LINES.false)) (omega (arith, c.if-targets-gt-MAX_STMTS.false)) (sym h) false e), c.at-outside.ensures)

pub invariant_of-result : goal.invariant_of-result
invariant_of-result c =
    let a = c.args in
    let t = c.in-Some.ensures in
    let h : true ≡ walks_readable a.stmts.now a.falls.now a.links.now a.lists.now a.scratch.now a.n a.args.now = walks_by a.stmts.now a.falls.now a.links.now a.lists.now a.scratch.now a.n a.args.now (sym c.lists_readable.ensures ∙ c.if-not-lists_readable.false) true (sym t.0) in
    let e : true ≡ returns_readable a.handlers a.stmts.now a.args.now a.n a.returns.now a.targets = sym c.if-not-returns_readable.false ∙ (rw (t.1.stmts_are, t.1.count_is) at c.returns_readable.ensures) in
    let g = sym (graph_by a.handlers a.stmts.now a.args.now a.falls.now a.links.now a.n a.rows a.lists.now a.scratch.now a.returns.now a.targets (omega (arith, c.if-rows-gt-MAX_LINES.false)) (omega (arith, c.if-targets-gt-MAX_STMTS.false)) (sym h) true e) in
    let w = graph_read a.handlers a.stmts.now a.args.now a.falls.now a.links.now a.n a.rows a.lists.now a.scratch.now a.returns.now a.targets g in
    record { few_rows = w.0; few_targets = w.1.few_targets; in_returns = λ e. (w.1.through e).0 }

pub returns : goal.returns
returns c =
    let a = c.args in
    let t = c.in-Some.ensures in
    let h : true ≡ walks_readable a.stmts.now a.falls.now a.links.now a.lists.now a.scratch.now a.n a.args.now = walks_by a.stmts.now a.falls.now a.links.now a.lists.now a.scratch.now a.n a.args.now (sym c.lists_readable.ensures ∙ c.if-not-lists_readable.false) true (sym t.0) in
    let e : true ≡ returns_readable a.handlers a.stmts.now a.args.now a.n a.returns.now a.targets = sym c.if-not-returns_readable.false ∙ (rw (t.1.stmts_are, t.1.count_is) at c.returns_readable.ensures) in (
      sym (graph_by a.handlers a.stmts.now a.args.now a.falls.now a.links.now a.n a.rows a.lists.now a.scratch.now a.returns.now a.targets (omega (arith, c.if-rows-gt-MAX_LINES.false)) (omega (arith, c.if-targets-gt-MAX_STMTS.false)) (sym h) true e),
      record { handlers_are = refl; stmts_are = t.1.stmts_are; falls_are = t.1.falls_are; links_are = t.1.links_are; count_is = t.1.count_is; rows_are = refl; scratch_is = refl; returns_are = refl; targets_are = refl },
    )
