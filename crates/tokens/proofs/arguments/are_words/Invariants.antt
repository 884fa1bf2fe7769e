-- `are_words`: no byte so far breaks a word, so those still to come decide. Assumes nothing.
use mathlib.Core.Path.{◌≡◌}
use lib.ListN.{drop}
use Rattle.listings.specs.Rows.{are_words, split}
use Rattle.tokens.specs.Arguments.{words_from}
use Rattle.tokens.proofs.arguments.are_words.Given as goal

abbrev pub invariant-loop-b : goal.invariant-loop-b
invariant-loop-b l = words_from l.fresh (drop l.b-index l.s) ≡ are_words (split 32 l.s)
