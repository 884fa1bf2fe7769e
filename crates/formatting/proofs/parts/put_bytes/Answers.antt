-- `put_bytes`: none, all, or as many as fit. Assumes nothing.
use Rattle.std.proofs.Common.{◌+◌, ◌-◌, arith, refl, ◌∙◌, rules, length, take, drop}
use Rattle.layout.specs.Fronts.{front_whole}
use Rattle.formatting.specs.Printing.{puts_outside, puts_copied, puts_front}
use Rattle.formatting.proofs.parts.put_bytes.Goals as goal

pub returns-then-all-at : goal.returns-then-all-at
returns-then-all-at c = puts_outside c.args.part.now c.args.at c.args.word.now c.if-all-at.true

pub returns-then-word-room : goal.returns-then-word-room
returns-then-word-room c =
    let w = c.args.word.now in
    puts_copied c.args.part.now c.args.word.now c.put_front.new.part c.args.at _ (omega arith) (omega arith) (c.put_front.ensures ∙ front_whole w (take ((c.args.at + length w) - c.args.at) (drop c.args.at c.args.part.now)) (search rules))

pub returns : goal.returns
returns c =
    let room = length c.args.part.now - c.args.at in
    puts_front c.args.part.now c.args.word.now c.put_front-2.new.part c.args.at _ refl c.if-all-at.false (omega arith) (c.put_front-2.ensures ∙ front_whole (take room c.args.word.now) (take room (drop c.args.at c.args.part.now)) (search rules))
