-- `candidate`: the slot of the text's letters and length. Assumes nothing.
use native.Mathlib.Omega.{arith}
use Prim.Native.Nat.{◌+◌, ◌*◌, ◌%◌}
use mathlib.Core.Path.{sym, ◌∙◌}
use lib.ListN.{length}
use Rattle.listing_laws.specs.WordSlots.{slots, no_letters, by_letters, slot_word_lem}
use Rattle.tokens.proofs.words.candidate.Goals as goal

pub returns-in_default-2 : goal.returns-in_default-2
returns-in_default-2 c = let p = c.in_default.ensures.item in (sym (no_letters c.args.w.now (omega (arith, p.3))), omega arith)

pub returns : goal.returns
unfolding slots
returns c =
    let w = c.args.w.now in
    let a = c.from-first in
    let b = c.from-last in
    let e = c.from.ensures in
    let p = c.in-Some-Some.ensures.item in
    let q = c.in-Some-Some.ensures'.item in (
      e ∙ by_letters w a.result b.result (λ z. omega (arith, z, p.3.0)) (a.ensures ∙ p.3.1 0) (b.ensures ∙ q.3.1 0),
      omega (arith, e, slot_word_lem ((a.result + 23 * b.result + 5 * (length w % 8)) % 64)),
    )
