-- `foreign_at`: the first 64 from `at` on is the first from c on. Assumes nothing.
use Rattle.std.proofs.Common.{◌≡◌, [], ap, sym, ◌∙◌, arith}
use Rattle.basic.specs.Cursors.{next_end, next_more, raw_at}
use Rattle.basic.specs.Lines.{first_foreign}
use Rattle.basic.specs.OffenceLaws.{foreign_at, foreign_end, foreign_on}
use Rattle.basic.proofs.lines.foreign_at.Goals as goal

pub returns-in-0 : goal.returns-in-0
returns-in-0 c =
    let t = c.counted_at-t.result in
    let e = next_end (raw_at c.args.file.now) c.loop-at.at t c.counted_at-t.ensures c.in-0.is in
    sym (ap first_foreign e ∙ foreign_end t.place 0 []) ∙ c.loop-at.invariant

pub returns-in-100 : goal.returns-in-100
returns-in-100 c =
    let f = c.args.file.now in
    let t = c.counted_at-t.result in
    let e = next_more (raw_at f) c.loop-at.at t c.counted_at-t.ensures (λ z. omega arith) in
    sym (ap first_foreign e ∙ foreign_at t.place t.byte (raw_at f t.next) c.in-100.is) ∙ c.loop-at.invariant

pub loop-at-preserved : goal.loop-at-preserved
loop-at-preserved c =
    let f = c.args.file.now in
    let t = c.counted_at-t.result in
    let more : t.byte ≡ 0 → ⊥ = grind arith in
    let e = next_more (raw_at f) c.loop-at.at t c.counted_at-t.ensures more in
    sym (ap first_foreign e ∙ foreign_on t.place t.byte (raw_at f t.next) (grind arith)) ∙ c.loop-at.invariant
