-- `copy_list`: too long, or stored with zeros behind. Assumes nothing.
use Rattle.std.proofs.Common.{◌∙◌, length, length-append, drop, refl, ap, arith, rules}
use Rattle.layout.specs.Fronts.{front_fits}
use Rattle.layout.specs.Zeroed.{filled_behind_lem}
use Rattle.frame_slices.specs.FrameSlice.{answered_long, answered-list}
use Rattle.frame_slices.proofs.slices.copy_list.Goals as goal

pub returns-then-out-len : goal.returns-then-out-len
returns-then-out-len c = answered_long c.args.list.now c.args.out.now _ (length c.args.list.now) c.at.ensures refl (omega arith)

pub returns : goal.returns
returns c =
    let l = c.args.list.now in
    let out = c.args.out.now in
    let e = c.put_front.ensures ∙ front_fits l out (omega arith) in
    answered-list l out _ _ (length l) refl (omega arith) e
    (filled_behind_lem 0 c.put_front.new.part (length l) c.fill.new.self (omega (arith, length-append l (drop (length l) out), ap length e)) (search rules))
