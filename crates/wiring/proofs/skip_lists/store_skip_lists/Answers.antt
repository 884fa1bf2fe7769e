-- `store_skip_lists`: the first i nodes are done. Assumes nothing.
use mathlib.Core.Path.{◌≡◌, refl}
use native.Mathlib.Omega.{arith}
use borrow.Author.Rules.{rules}
use Rattle.graph.specs.Graph.{wire}
use Rattle.passes.specs.SkipLists.{skips_none, skips_fit, skips_more, skips_done}
use Rattle.wiring.proofs.skip_lists.store_skip_lists.Goals as goal

pub loop-i-init : goal.loop-i-init
loop-i-init c = (refl, refl, omega arith, λ L p r. skips_none (wire L) c.args.lists.now c.args.scratch.now)

pub store_skip_list-e-requires-clause-ready : goal.store_skip_list-e-requires-clause-ready
store_skip_list-e-requires-clause-ready c =
    record {
      listing = c.requires.listing;
      nodes = c.args.g.now.nodes.records.n;
      prepared = c.requires.prepared;
      roles = c.requires.roles;
      node = c.loop-i-test.true;
      rows = omega (arith, c.requires.rows, c.loop-i.auto.lists);
      scratch_size = omega (arith, c.requires.scratch_size, c.loop-i.invariant.0);
      buffer_size = omega (arith, c.requires.buffer_size, c.loop-i.invariant.1);
      few = c.loop-i.invariant.2;
      fits = skips_fit c.requires.roles (c.loop-i.invariant.3 c.requires.listing c.requires.prepared c.requires.roles) (omega arith);
    }

pub loop-i-preserved : goal.loop-i-preserved
loop-i-preserved c =
    let q = c.requires in
    let l = c.loop-i in
    let h = c.loop-i-test.true in
    let m = c.store_skip_list-e.ensures in (
      search rules,
      search rules,
      omega (arith, l.invariant.2, (m q.listing c.args.g.now.nodes.records.n q.prepared q.roles h).few),
      λ L p r. skips_more r (l.invariant.3 L p r) q.rows h (m L c.args.g.now.nodes.records.n p r h),
    )

pub returns : goal.returns
returns c =
    let e : c.loop-i.i ≡ c.args.g.now.nodes.records.n = omega arith in
    λ L p r. skips_done e c.loop-i.auto.lists c.loop-i.invariant.0 (c.loop-i.invariant.3 L p r)
