-- `put_key` calls itself for one byte fewer.
use Rattle.program_text.proofs.statements.+put_key.Given as goal

abbrev pub decreases-put_key : goal.decreases-put_key
decreases-put_key l = l.most
