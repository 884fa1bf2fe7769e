-- `put_targets`: the continuations of the first i nodes are listed. Assumes nothing.
use Rattle.std.proofs.Common.{rules, ℕ, suc, ◌≡◌, refl, ap, ◌∙◌, arith}
use Rattle.graph_laws.specs.Adding.{decode}
use Rattle.tables.specs.Columns.{continuation_entry}
use Rattle.passes.specs.ReturnTargets.{continuation_decoded, continuation-le, one_more, target_none, targets_none, targets_more, targets_listed}
use Rattle.tables.specs.OneMore as table
use Rattle.wiring.proofs.return_targets.put_targets.Goals as goal
use Rattle.wiring.proofs.return_targets.put_targets.Goals.{in-Some, in_default}

pub loop-i-init : goal.loop-i-init
loop-i-init c = (
  omega (arith, c.requires.fresh),
  record {
    same_reference = refl;
    size = refl;
    is = rw c.requires.fresh (targets_none 4096 (continuation_entry c.args.g.now.nodes.records.stmts.now c.args.g.now.nodes.falls.now) _ _ (rw c.requires.fresh at c.requires.marking));
  },
)

pub put_target-requires : goal.put_target-requires
put_target-requires c = (
  omega (arith, rw c.in-Some.is at c.continuation.ensures, continuation-le c.args.g.now.nodes.records.stmts.now c.args.g.now.nodes.falls.now c.loop-i.i 4096 (c.requires.falls_fit c.loop-i.i (omega arith))),
  omega (arith, c.loop-i.invariant.0, c.loop-i.invariant.1.size, c.requires.n_bound, c.loop-i-test.true),
  c.loop-i.invariant.1.is.marking,
)

pub loop-i-preserved : goal.loop-i-preserved
loop-i-preserved c =
    let g = c.args.g.now.nodes in
    let l = c.loop-i.invariant.1 in
    let d = ap (λ (x : ℕ). decode x) c.continuation.ensures ∙ continuation_decoded g.records.stmts.now g.falls.now c.loop-i.i in
    elim c.match-continuation.branch [
      | in-Some w ↦
          let p = w.put_target.ensures in
          rw (w.list-is, w.marks-is) (
            omega (arith, c.loop-i.invariant.0, one_more (suc w.in-Some.a) p.is),
            record {
              same_reference = p.same_reference ∙ l.same_reference;
              size = p.size ∙ l.size;
              is = rw c.requires.fresh (targets_more 4096 (continuation_entry g.records.stmts.now g.falls.now) _ c.loop-i.i _ _ _ _ (decode (suc w.in-Some.a)) _ _ (rw c.requires.fresh at l.is) (rw w.in-Some.is at d) p.is);
            },
          )
      | in_default w ↦
          let t = table.one_more c.continuation.result in
          let z : t ≡ 0 = search rules in
          rw (w.list-is, w.marks-is) (
            omega (arith, c.loop-i.invariant.0),
            record {
              same_reference = l.same_reference;
              size = l.size;
              is = rw c.requires.fresh (targets_more 4096 (continuation_entry g.records.stmts.now g.falls.now) _ c.loop-i.i _ _ _ _ (decode t) _ _ (rw c.requires.fresh at l.is) d (target_none 4096 _ _ _ t l.is.marking z));
            },
          )
    ]

pub returns : goal.returns
returns c =
    let e : c.loop-i.i ≡ c.args.g.now.nodes.records.n = omega arith in
    let l = c.loop-i.invariant.1 in
    record {
      same_reference = l.same_reference;
      size = l.size;
      is = targets_listed 4096 c.args.g.now.nodes.records.stmts.now c.args.g.now.nodes.falls.now c.args.g.now.nodes.records.n _ c.loop-i.marks _ _ (omega (arith, c.loop-i.invariant.0)) (rw (e, c.requires.fresh) at l.is);
    }
