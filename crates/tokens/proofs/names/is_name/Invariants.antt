-- `is_name`: a capital and then letters up to i, so what is left of a name's end decides. Assumes nothing.
use Rattle.std.proofs.Common.{◌≡◌, ◌-◌, ◌≤◌, drop}
use Rattle.listings.specs.Rows.{is_name, name_end}
use Rattle.tokens.proofs.names.is_name.Given as goal

abbrev pub invariant-loop-i : goal.invariant-loop-i
invariant-loop-i l = (l.i ≤ 7) × (name_end (7 - l.i) (drop l.i (drop 1 l.w)) ≡ is_name l.w)
