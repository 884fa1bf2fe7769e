-- `put_decimal` calls itself with a tenth.
use Rattle.formatting.proofs.parts.+put_decimal.Given as goal

abbrev pub decreases-put_decimal : goal.decreases-put_decimal
decreases-put_decimal l = l.x
