-- `key_of`: a is the key of what the cut leaves of the bytes behind those that are left. Assumes nothing.
use mathlib.Core.Path.{◌≡◌}
use mathlib.Core.List.{◌++◌}
use lib.ListN.{drop, length}
use Rattle.listings.specs.Records.{name_key}
use Rattle.tokens.specs.Names.{cut_from}
use Rattle.tokens.proofs.names.key_of.Given as goal

abbrev pub invariant-loop-i : goal.invariant-loop-i
invariant-loop-i l =
    (l.i-iterator.iter.count ≡ 0)
    × (l.i-iterator.iter.iter.rest.now ++ drop (length l.i-iterator.iter.iter.rest.now) l.w ≡ l.w)
    × (l.a ≡ name_key (cut_from l.w (length l.i-iterator.iter.iter.rest.now)))
