-- `add_edge`: no node, a full part, a node that is there already, or one more. Assumes nothing.
use Rattle.std.proofs.Common.{sym, ap, refl, ◌∙◌, arith, take}
use Rattle.graph.specs.Lists.{has}
use Rattle.storing.specs.AddWithin.{within_zero, within_full, within_old, within_new}
use Rattle.storing.proofs.growing.NodeList.add_edge.Goals as goal
use Rattle.storing.proofs.growing.NodeList.add_edge.Goals.{then-self-via-then-self, then-self-via-else-self+then-has}

pub returns-in_default : goal.returns-in_default
returns-in_default c = record { same_reference = refl; added = within_zero _ _ _ (omega (arith, c.in_default.ensures)) }

pub returns-then-self : goal.returns-then-self
returns-then-self c =
    let p = c.args.self.now in
    elim c.then-self.branch [
      | then-self-via-then-self w ↦ record { same_reference = refl; added = within_full p.part.now p.n c.args.t w.if-self.true }
      | then-self-via-else-self+then-has w ↦
          record {
            same_reference = refl;
            added = within_old p.part.now p.n c.args.t (λ z. omega (arith, c.in-Some.ensures)) (omega (arith, w.if-self.false))
                (ap (λ x. has x (take p.n p.part.now)) (sym c.in-Some.ensures.1) ∙ sym w.has.ensures ∙ w.if-has.true);
          }
    ]

pub returns : goal.returns
returns c =
    let p = c.args.self.now in
    let q = c.push.ensures.pushed (omega arith) in
    record {
      same_reference = q.same_reference;
      added = rw (q.part, q.count) (within_new p.part.now p.n c.args.t (λ z. omega (arith, c.in-Some.ensures)) (omega arith) _ c.in-Some.ensures.1
          (ap (λ x. has x (take p.n p.part.now)) (sym c.in-Some.ensures.1) ∙ sym c.has.ensures ∙ c.if-has.false));
    }
