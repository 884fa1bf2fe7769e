-- `put_key`: a byte, and those of the other digits. Assumes nothing.
use Rattle.std.proofs.Common.{sym, ap, ◌∙◌, ◌∷◌, [], ℕ, ◌-◌, ◌/◌, arith}
use Rattle.formatting.specs.Pages.{wrote_none, wrote_both, wrote_is}
use Rattle.program_text.specs.KeyText.{key_bytes, key_none, key_zero, key_more}
use Rattle.program_text.proofs.statements.+put_key.Goals as goal
use Rattle.program_text.proofs.statements.+put_key.Goals.{then-most-eq0-via-then-most-eq0, then-most-eq0-via-else-most-eq0+then-key-eq0}

pub returns-then-most-eq0 : goal.returns-then-most-eq0
returns-then-most-eq0 t c = elim c.then-most-eq0.branch [
  | then-most-eq0-via-then-most-eq0 w ↦ wrote_is (sym (key_none c.args.most c.args.key w.if-most-eq0.true)) (wrote_none _)
  | then-most-eq0-via-else-most-eq0+then-key-eq0 w ↦ wrote_is (sym (key_zero c.args.most c.args.key w.if-key-eq0.true)) (wrote_none _)
]

pub returns : goal.returns
returns t c =
    wrote_is (ap (λ (b : ℕ). b ∷ key_bytes (c.args.most - 1) (c.args.key / 64)) c.key_byte.ensures ∙ sym (key_more c.args.most c.args.key (omega arith) (omega arith)))
    (wrote_both {k = c.key_byte.result ∷ []} c.put_byte.ensures c.put_key.ensures)
