-- `put_numbered`: the three pieces. Assumes nothing.
use Rattle.std.proofs.Common.{ap, ◌++◌, ◌∷◌, ℕ}
use Rattle.listings.specs.Bytes.{decimal}
use Rattle.formatting.specs.Pages.{wrote_both, wrote_is}
use Rattle.program_text.specs.RowTexts.{numbered_text}
use Rattle.program_text.proofs.rows.put_numbered.Goals as goal

pub returns : goal.returns
returns c =
    let w = c.args.word.now in
    let t = 32 ∷ decimal c.from.result in
    wrote_is (ap (λ (n : ℕ). numbered_text w n c.args.end.now) c.from.ensures)
    (wrote_both {k = w ++ t} {l = c.args.end.now} (wrote_both {k = w} {l = t} c.put_bytes.ensures c.put_number.ensures) c.put_bytes-2.ensures)
