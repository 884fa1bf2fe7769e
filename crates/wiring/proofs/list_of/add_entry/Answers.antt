-- `add_entry`: the last entry again, or one that is new. Assumes nothing.
use Rattle.std.proofs.Common.{refl}
use Rattle.passes.specs.EntryOrder.{entry_same, entry_fits, entry_more}
use Rattle.storing.specs.NodeLists.{pushed_size}
use Rattle.wiring.proofs.list_of.add_entry.Goals as goal

pub returns-then-e-last : goal.returns-then-e-last
returns-then-e-last c = record { same_reference = refl; size = refl; is = entry_same _ _ c.args.e c.args.last c.requires c.if-e-last.true }

pub returns : goal.returns
returns c =
    let p = c.push.ensures.pushed (entry_fits _ _ c.args.e c.args.last c.requires c.if-e-last.false) in
    record {
      same_reference = p.same_reference;
      size = pushed_size p;
      is = rw (p.part, p.count) (entry_more _ _ c.args.e c.args.last c.requires c.if-e-last.false _ refl);
    }
