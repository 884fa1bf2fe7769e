-- `add_doif`: where the ELSEs fall, or the closer. Assumes nothing.
use Rattle.std.proofs.Common.{refl}
use Rattle.passes.specs.ChainLaws.{doif_closer}
use Rattle.wiring.specs.OnLists.{fall_made}
use Rattle.tables.specs.OneMore.{one_more}
use Rattle.wiring.specs.FromLeads.{frames_of}
use Rattle.wiring.proofs.closing.add_doif.Goals as goal

pub returns-in-None : goal.returns-in-None
returns-in-None c =
    let g = c.args.g.now in
    let k = one_more c.closer.result in
    let m = fall_made g.nodes.falls.now k c.requires.0 (rw c.closer.ensures c.requires.1.closer) (rw c.fall_of.ensures at c.add_edge.ensures) in
    record {
      same_reference = m.same_reference;
      size = m.size;
      is = (doif_closer g.nodes.falls.now (frames_of g) c.args.i _ _ _ _ (one_more c.next_else.result) c.next_else.ensures k (rw c.in-None.is refl) c.closer.ensures m.is.0, m.is.1);
    }
