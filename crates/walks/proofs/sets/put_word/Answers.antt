-- `put_word`: the members in the j lowest bits are put, and w is left of the word. Assumes nothing.
use Rattle.std.proofs.Common.{refl, ◌∙◌, arith, length-set}
use Rattle.std.specs.Int.{w64, trailing_zeros}
use Rattle.std.proofs.lemmas.Nat.Bits.{bit_at-trailing_zeros}
use Rattle.passes.specs.SetLaws.{word_inside, word_room, word_next, word_put, word_end, word_none, word_whole}
use Rattle.walks.proofs.sets.put_word.Goals as goal

pub loop-w-init : goal.loop-w-init
loop-w-init c = (omega arith, word_whole _, refl, word_none _ _ _ _)

pub bounds-part-k : goal.bounds-part-k
bounds-part-k c =
    let l = c.loop-w in
    let t = trailing_zeros w64 l.w in
    let b = bit_at-trailing_zeros w64 l.w (omega (arith, c.loop-w-test.true)) l.auto.w-fits.fits in
    let h = word_inside c.args.base c.args.word l.j l.w l.invariant.1 t b.1 b.2 64 (omega arith) in
    omega (arith, word_room c.args.base c.args.word l.j l.w l.invariant.1 t b.1 b.2 64 h, l.invariant.3.count, l.invariant.2, c.requires.1)

pub loop-w-preserved : goal.loop-w-preserved
loop-w-preserved c =
    let l = c.loop-w in
    let t = trailing_zeros w64 l.w in
    let b = bit_at-trailing_zeros w64 l.w (omega (arith, c.loop-w-test.true)) l.auto.w-fits.fits in
    let h = word_inside c.args.base c.args.word l.j l.w l.invariant.1 t b.1 b.2 64 (omega arith) in (
      omega (arith, h),
      word_next c.args.base c.args.word l.j l.w l.invariant.1 t b.1 b.2,
      length-set l.part l.k _ ∙ l.invariant.2,
      word_put c.args.base c.args.word l.j l.w l.invariant.1 t b.1 b.2 c.args.part.now l.part c.args.n l.k _ l.invariant.3 (bounds-part-k c) refl,
    )

pub returns : goal.returns
returns c = word_end c.args.base c.args.word c.loop-w.j c.loop-w.w c.loop-w.invariant.1 c.args.part.now c.loop-w.part c.args.n c.loop-w.k 64 c.loop-w.invariant.0 (omega arith) c.loop-w.invariant.3
