-- `find_line`: below `low` the numbers are smaller, from `high` on larger. Assumes nothing.
use Prim.Native.Nat.{◌≤◌, ◌-◌}
use Rattle.tables.specs.EntryRows.{entry_column}
use Rattle.passes.specs.LineSearch.{Ascending, Narrowed}
use Rattle.wiring.proofs.entries.Entries.find_line.Given as goal

abbrev pub invariant-loop-low : goal.invariant-loop-low
invariant-loop-low l = (l.low ≤ l.high) × (l.high ≤ l.self.count) × (Ascending (entry_column 0 l.self.count l.self.rows.now) → Narrowed (entry_column 0 l.self.count l.self.rows.now) l.number l.low l.high)

abbrev pub decreases-loop-low : goal.decreases-loop-low
decreases-loop-low l = l.high - l.low
