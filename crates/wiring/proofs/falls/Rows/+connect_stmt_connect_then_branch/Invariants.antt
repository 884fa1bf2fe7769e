-- `connect_stmt` and `connect_then_branch`, which call each other: with each call of the first from the second or back
-- twice the depth left, and one for a branch, falls.
-- The loop over a branch: the statements before i are connected. Assumes nothing.
use Prim.Native.Nat.{ℕ, ◌≤◌, ◌+◌, ◌-◌, ◌*◌}
use mathlib.Core.Path.{◌≡◌}
use Rattle.passes.specs.Connecting.{Gone}
use Rattle.passes.specs.Falls.{Spans}
use Rattle.passes.specs.LineSearch.{EntryTable}
use Rattle.graph.specs.Nodes.{Entries}
use Rattle.listings.specs.ListingText.{StmtsOk}
use Rattle.listings.specs.Listing.{Stmts, size}
use Rattle.wiring.proofs.falls.Rows.+connect_stmt_connect_then_branch.Given as goal

abbrev pub decreases-connect_stmt : goal.decreases-connect_stmt
decreases-connect_stmt l = 2 * l.depth

abbrev pub decreases-connect_then_branch : goal.decreases-connect_then_branch
decreases-connect_then_branch l = 2 * l.depth + 1

abbrev pub invariant-connect_then_branch-loop-i : goal.invariant-connect_then_branch-loop-i
invariant-connect_then_branch-loop-i l =
    (l.from ≤ l.i) × (l.i ≤ l.end)
    × ((es : Entries) → EntryTable es l.self.entries.rows.now l.self.entries.count → (d : ℕ) → d + l.depth ≡ 17 → (s : Stmts) → Spans l.self.records.stmts.now l.from s → StmtsOk d s → l.end ≡ l.from + size s
    → Gone es l.from l.end l.next l.initial.falls l.falls l.i s)

abbrev pub decreases-connect_then_branch-loop-i : goal.decreases-connect_then_branch-loop-i
decreases-connect_then_branch-loop-i l = l.end - l.i
