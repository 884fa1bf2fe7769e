-- `put_target`: a node that has its mark, one that has none. Assumes nothing.
use Rattle.std.proofs.Common.{suc, ◌-◌, ◌≡◌, refl, arith}
use Rattle.passes.specs.ReturnTargets.{target_old, target_new}
use Rattle.storing.specs.NodeLists.{pushed_size}
use Rattle.wiring.proofs.return_targets.put_target.Goals as goal

pub returns-then-marks-x : goal.returns-then-marks-x
returns-then-marks-x c =
    let x : c.from-x.result ≡ suc c.args.a - 1 = omega (arith, c.from-x.ensures) in
    record { same_reference = refl; size = refl; is = target_old 4096 _ _ _ (suc c.args.a) c.requires.2 (omega arith) (omega (arith, c.requires.0)) _ x c.if-marks-x.true }

pub returns : goal.returns
returns c =
    let p = c.push.ensures.pushed c.requires.1 in
    let x : c.from-x.result ≡ suc c.args.a - 1 = omega (arith, c.from-x.ensures) in
    let e : suc c.args.a - 1 ≡ c.args.a = omega arith in
    record {
      same_reference = p.same_reference;
      size = pushed_size p;
      is = rw (p.part, p.count) (rw e at (target_new 4096 _ _ _ (suc c.args.a) c.requires.2 (omega arith) (omega (arith, c.requires.0)) _ x c.requires.1 c.if-marks-x.false));
    }
