-- The tables of entries, falls and links of small listings, computed. Assumes nothing.
use Rattle.std.specs.Prelude.{◌≡◌, refl, [], ◌∷◌, replicate, take}
use Rattle.listings.specs.Listing.{gosub, ongoto, BareWord, return, stop, jump, on, bare, if, ifelse, to, stmts, absent, ∅, ◌▸◌, branching, Lines, nolines, line}
use Rattle.graph.specs.Nodes.{entries, nodes}
use Rattle.passes.specs.LineEntries.{entry_pairs, entry_rows}
use Rattle.passes.specs.Falls.{leads, stmt_row, fall_row, fall_rows}
use Rattle.passes.specs.Jumps.{jump_targets, stmt_targets, link_row, linked}
use Rattle.graph.specs.Opened.{opened}

-- C2: 10 and 20 enter at node 0, 30 has no entry
unfoldable pub c2 : Lines
c2 = line (line (line nolines 10 ∅) 20 (∅ ▸ bare BareWord.plain)) 30 ∅

-- C12
unfoldable pub c12 : Lines
c12 = line (line (line nolines 10 (∅ ▸ jump gosub 100 ▸ bare BareWord.plain)) 20 (∅ ▸ bare stop)) 100 (branching ∅ if (to 20) ∅ absent ∅ ▸ bare return)

-- an IFELSE with an empty second branch, and in its first one an IF with an empty branch
unfoldable pub nested : Lines
nested = line nolines 10 (branching ∅ ifelse stmts (branching (∅ ▸ bare BareWord.plain) if stmts ∅ absent ∅) stmts ∅ ▸ bare BareWord.plain)

-- line 30 is not there, line 20 has no statements
unfoldable pub jumps : Lines
jumps = line (line (line nolines 10 (∅ ▸ on ongoto (40 ∷ 30 ∷ 20 ∷ []))) 20 ∅) 40 (∅ ▸ bare stop)

pub computed : (entry_rows c2 ≡ 10 ∷ 1 ∷ 20 ∷ 1 ∷ 30 ∷ 0 ∷ [])
    × (entry_rows c12 ≡ 10 ∷ 1 ∷ 20 ∷ 3 ∷ 100 ∷ 4 ∷ [])
    × (fall_rows (entries c12) (nodes c12) ≡ 2 ∷ 0 ∷ 0 ∷ 3 ∷ 0 ∷ 0 ∷ 4 ∷ 0 ∷ 0 ∷ 5 ∷ 3 ∷ 5 ∷ 0 ∷ 0 ∷ 0 ∷ [])
    × (fall_rows (entries nested) (nodes nested) ≡ 4 ∷ 2 ∷ 4 ∷ 3 ∷ 0 ∷ 0 ∷ 4 ∷ 4 ∷ 4 ∷ 0 ∷ 0 ∷ 0 ∷ [])
    × (take 4 (linked (entries jumps) (replicate 128 0) 0 (nodes jumps)) ≡ 2 ∷ 0 ∷ 2 ∷ 0 ∷ [])
unfolding opened entry_pairs entry_rows leads stmt_row fall_row fall_rows jump_targets stmt_targets link_row linked c2 c12 nested jumps
computed = (refl, refl, refl, refl, refl)
