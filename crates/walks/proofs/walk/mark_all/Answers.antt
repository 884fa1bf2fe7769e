-- `mark_all`: the first k nodes of the list are marked. Assumes nothing.
use Prim.Native.Nat.{◌<◌}
use native.Mathlib.Omega.{arith}
use lib.ListN.{length}
use Rattle.passes.specs.WalkLaws.{id_at, old_at, new_at, room_for}
use Rattle.walks.proofs.walk.mark_all.Goals.{then-not-marks-x, else-not-marks-x}
use Rattle.walks.proofs.walk.mark_all.Goals as goal

pub bounds-marks-x : goal.bounds-marks-x
bounds-marks-x c = omega (arith, id_at 4096 c.args.list.now c.loop-w.w-index c.requires.ids (omega arith))

pub bounds-marks-x-then-not-marks-x : goal.bounds-marks-x-then-not-marks-x
bounds-marks-x-then-not-marks-x c = omega (arith, id_at 4096 c.args.list.now c.loop-w.w-index c.requires.ids (omega arith))

pub bounds-work-n : goal.bounds-work-n
bounds-work-n c =
    let l = c.loop-w in
    let below : c.from-x.result < length l.marks = omega (arith, id_at 4096 c.args.list.now l.w-index c.requires.ids (omega arith), l.invariant.marks-size, c.requires.marks-size) in
    let room : l.n < 4096 = room_for 4096 c.args.count c.args.marks.now l.marks l.n c.from-x.result c.requires.room l.invariant.count below c.if-not-marks-x.true in
    omega (arith, room, l.invariant.work_size, c.requires.work_size)

pub loop-w-preserved : goal.loop-w-preserved
loop-w-preserved c =
    let l = c.loop-w in
    let a = c.args in
    let below : c.from-x.result < length l.marks = omega (arith, id_at 4096 a.list.now l.w-index c.requires.ids (omega arith), l.invariant.marks-size, c.requires.marks-size) in
    elim c.if-not-marks-x.branch [
      | then-not-marks-x w ↦ let off = w.if-not-marks-x.true in
          let room : l.n < 4096 = room_for 4096 a.count a.marks.now l.marks l.n c.from-x.result c.requires.room l.invariant.count below off in
          rw (w.marks-is, w.work-is, w.n-is)
          (new_at a.list.now l.w-index (omega arith) a.marks.now a.work.now a.count l.marks l.work l.n _ l.invariant c.from-x.ensures below
          (omega (arith, room, l.invariant.work_size, c.requires.work_size)) off)
      | else-not-marks-x w ↦
          rw (w.marks-is, w.work-is, w.n-is)
          (old_at a.list.now l.w-index (omega arith) a.marks.now a.work.now a.count l.marks l.work l.n _ l.invariant c.from-x.ensures w.if-not-marks-x.false)
    ]
