-- `add_elses`: the ELSEs that are done, and the rest of the chain. Assumes nothing.
use Rattle.std.proofs.Common.{suc, ◌≡◌, ◌+◌, ◌-◌, ◌*◌, ◌∙◌, refl, arith, sub-one, get_or}
use Rattle.graph_laws.specs.Adding.{decode, Added}
use Rattle.passes.specs.ChainLaws.{walk_start, walk_visit, walk_next, walk_end}
use Rattle.passes.specs.FitLaws.{fits_room, fits_next}
use Rattle.storing.specs.NodeLists.{grew_one}
use Rattle.tables.specs.OneMore.{one_more}
use Rattle.wiring.specs.FromLeads.{frames_of}
use Rattle.wiring.proofs.closing.add_elses.Goals as goal

pub loop-next-init : goal.loop-next-init
loop-next-init c = record { same_reference = refl; size = refl; is = walk_start _ _ _ _ _ c.requires.0 c.requires.1 }

pub loop-next-preserved : goal.loop-next-preserved
loop-next-preserved c =
    let fs = c.args.g.now.nodes.falls.now in
    let fr = frames_of c.args.g.now in
    let p = c.loop-next.list in
    let q = c.add_edge.new.self in
    let j = c.in-Some.j in
    let w = rw c.in-Some.is at c.loop-next.invariant.is in
    let v = walk_visit fs fr (one_more c.args.first) c.args.list.now.part.now c.args.list.now.n p.part.now p.n (suc j) (omega arith) w in
    let h = rw sub-one at v.leads in
    let g = grew_one (fits_room p.part.now p.n _ w.fits h) (rw c.fall.ensures at c.add_edge.ensures) in
    let f = fits_next p.part.now q.part.now p.n q.n _ w.fits h g.size g.grows in
    let a : Added p.part.now p.n q.part.now q.n (decode (get_or fs ((suc j - 1) * 3) 0)) = rw sub-one g.grows.added in
    let d : one_more c.next_else-next.result ≡ get_or fr ((suc j - 1) * 3 + 2) 0 = rw sub-one c.next_else-next.ensures in
    record {
      same_reference = g.same_reference ∙ c.loop-next.invariant.same_reference;
      size = g.size ∙ c.loop-next.invariant.size;
      is = walk_next fs fr (one_more c.args.first) c.args.list.now.part.now c.args.list.now.n p.part.now p.n (suc j) (one_more c.next_else-next.result) q.n _ (omega arith) a f g.size d w;
    }

pub loop-next-smaller : goal.loop-next-smaller
loop-next-smaller c =
    let fs = c.args.g.now.nodes.falls.now in
    let fr = frames_of c.args.g.now in
    let p = c.loop-next.list in
    let j = c.in-Some.j in
    let v = walk_visit fs fr (one_more c.args.first) c.args.list.now.part.now c.args.list.now.n p.part.now p.n (suc j) (omega arith) (rw c.in-Some.is at c.loop-next.invariant.is) in
    let d : one_more c.next_else-next.result ≡ get_or fr ((suc j - 1) * 3 + 2) 0 = rw sub-one c.next_else-next.ensures in
    rw (d, c.in-Some.is) v.less

pub returns : goal.returns
returns c =
    let p = c.loop-next.list in
    let v = c.loop-next.invariant in
    let w = rw c.in_default.is at v.is in
    record {
      same_reference = v.same_reference;
      size = v.size;
      is = (walk_end c.args.g.now.nodes.falls.now (frames_of c.args.g.now) (one_more c.args.first) c.args.list.now.part.now c.args.list.now.n p.part.now p.n 0 refl w, v.is.fits);
    }
