-- `find_line`: below `low` the numbers are smaller, from `high` on larger. Assumes nothing.
use Prim.Native.Nat.{ℕ, ◌+◌, ◌-◌, ◌*◌, ◌/◌, ◌≤◌, ◌<◌}
use mathlib.Core.List.{List}
use mathlib.Core.Path.{◌≡◌}
use native.Mathlib.Omega.{arith}
use Rattle.std.proofs.Common.{add-one}
use lib.ListN.{length, get_or}
use borrow.Author.Rules.{rules}
use Rattle.tables.specs.EntryRows.{entry_column, column_length, column_at}
use Rattle.passes.specs.LineSearch.{narrow_start, line_here, narrow_low, narrow_high, line_none}
use Rattle.wiring.proofs.entries.Entries.find_line.Goals as goal

pub loop-low-init : goal.loop-low-init
loop-low-init c = (search rules, search rules, λ s. narrow_start _ _ c.args.self.now.count (column_length 0 c.args.self.now.count c.args.self.now.rows.now))

-- the row in the middle of those from `low` up to `high`, of k
abbrev middle : (low high : ℕ) → ℕ
middle low high = low + (high - low) / 2

at_middle : (rows : List ℕ) (k low high : ℕ) → low < high → high ≤ k
    → (low ≤ middle low high) × (middle low high < high) × (high ≤ length (entry_column 0 k rows)) × (get_or (entry_column 0 k rows) (middle low high) 0 ≡ get_or rows (middle low high * 2 + 0) 0)
at_middle rows k low high h w = (omega arith, omega arith, omega (arith, w, column_length 0 k rows), column_at 0 k rows (middle low high) (omega (arith, w)))

pub returns-then-at-number-clause-found : goal.returns-then-at-number-clause-found
returns-then-at-number-clause-found c =
    let l = c.loop-low in
    let m = at_middle c.args.self.now.rows.now c.args.self.now.count l.low l.high c.loop-low-test.true l.invariant.1 in
    rw add-one at (line_here _ c.args.number l.low l.high _ m.0 m.1 m.2 _ m.3 c.if-at-number.true)

pub loop-low-preserved-then-at-number-2 : goal.loop-low-preserved-then-at-number-2
loop-low-preserved-then-at-number-2 c =
    let l = c.loop-low in
    let m = at_middle c.args.self.now.rows.now c.args.self.now.count l.low l.high c.loop-low-test.true l.invariant.1 in (
      search rules,
      search rules,
      λ s. narrow_low _ c.args.number l.low l.high _ m.0 m.1 m.2 _ m.3 s c.if-at-number-2.true (l.invariant.2 s),
    )

pub loop-low-preserved : goal.loop-low-preserved
loop-low-preserved c =
    let l = c.loop-low in
    let m = at_middle c.args.self.now.rows.now c.args.self.now.count l.low l.high c.loop-low-test.true l.invariant.1 in (
      search rules,
      search rules,
      λ s. narrow_high _ c.args.number l.low l.high _ m.0 m.1 m.2 _ m.3 s c.if-at-number.false c.if-at-number-2.false (l.invariant.2 s),
    )

pub returns-clause-found : goal.returns-clause-found
returns-clause-found c = line_none _ _ c.loop-low.low c.loop-low.high c.loop-low-test.false c.loop-low.invariant.2
