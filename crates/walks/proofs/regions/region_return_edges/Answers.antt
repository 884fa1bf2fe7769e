-- `region_return_edges`: tables that can be read, or not. Assumes nothing.
use mathlib.Core.Path.{refl, sym, ◌∙◌}
use Rattle.std.specs.Prelude.{false, true}
use Rattle.passes.specs.Connecting.{no}
use Rattle.passes.specs.WalkTables.{calls_read, calls_sets}
use Rattle.passes.specs.RegionLaws.{walks_by, walks-refused}
use Rattle.walks.proofs.regions.region_return_edges.Goals as goal

pub invariant_of-listed : goal.invariant_of-listed
invariant_of-listed c = record { readable = rw (c.in-Some.ensures.1.count_is) (sym c.lists_readable.ensures ∙ c.if-not-lists_readable.false) }

pub join_regions-requires : goal.join_regions-requires
join_regions-requires c =
    let a = c.args in
    let t = c.in-Some.ensures in
    rw (t.1.stmts_are, t.1.falls_are, t.1.links_are, t.1.count_is) (calls_read a.stmts.now a.falls.now a.links.now a.n a.sets.now t.0, calls_sets a.stmts.now a.falls.now a.links.now a.n a.sets.now t.0)

pub returns-then-not-lists_readable : goal.returns-then-not-lists_readable
returns-then-not-lists_readable c =
    let a = c.args in
    record {
      answer = walks-refused a.stmts.now a.falls.now a.links.now a.lists.now a.edges.now a.n a.sets.now (sym c.lists_readable.ensures ∙ c.if-not-lists_readable.true);
      refused = λ e. refl;
      found = λ e. no (sym e);
    }

pub returns-in_default : goal.returns-in_default
returns-in_default c =
    let a = c.args in
    record {
      answer = walks_by a.stmts.now a.falls.now a.links.now a.lists.now a.edges.now a.n a.sets.now (sym c.lists_readable.ensures ∙ c.if-not-lists_readable.false) false (sym c.in_default.ensures);
      refused = λ e. refl;
      found = λ e. no (sym e);
    }

pub returns : goal.returns
returns c =
    let a = c.args in
    let t = c.in-Some.ensures in
    record {
      answer = walks_by a.stmts.now a.falls.now a.links.now a.lists.now a.edges.now a.n a.sets.now (sym c.lists_readable.ensures ∙ c.if-not-lists_readable.false) true (sym t.0);
      refused = λ e. no e;
      found = λ e. rw (t.1.stmts_are, t.1.falls_are, t.1.links_are, t.1.count_is) at c.join_regions.ensures;
    }
