-- `put_opening`: the two pieces. Assumes nothing.
use Rattle.std.proofs.Common.{ap, [], ◌∷◌, ℕ, get_or}
use Rattle.listings.specs.WordTable.{words}
use Rattle.formatting.specs.Pages.{wrote_both, wrote_is}
use Rattle.program_text.proofs.statements.put_opening.Goals as goal

pub returns : goal.returns
returns c =
    wrote_is (ap (λ (k : ℕ). 40 ∷ get_or words k []) c.from.ensures) (wrote_both {k = 40 ∷ []} {l = get_or words c.from.result []} c.put_byte.ensures c.put_word.ensures)
