-- The table of frames, computed for some statements: met, closer and next ELSE of each. Assumes nothing.
use Rattle.std.specs.Prelude.{ℕ, ◌≡◌, refl, List, [], ◌∷◌, map}
use Rattle.std.proofs.Math.Option.{none}
use Rattle.listings.specs.Listing.{BlockWord, repeat, loop, until, endloop, exit, exitif, doif, else, done, block}
use Rattle.graph.specs.Lists.{each, below}
use Rattle.graph.specs.Nodes.{simple}
use Rattle.graph.specs.Edges.{moves_of, node_moves}
use Rattle.graph_laws.specs.PerNode.{no_openers, for_openers_after, openers_after, after, meets, pops, fact_of, facts, is_closing, is_joining}
use Rattle.passes.specs.Frames.{either_met, frame_met, met_number, closes_frame, is_else_of, first_where, next_where, met_entry, do_met_of, else_entry, frame_row, frame_rows}

abbrev rows_of : List BlockWord → List ℕ
rows_of l = frame_rows (facts 0 (map (λ w. record { line = 0; number = 10; path = []; holder = none; stmt = simple (block w); fall = none }) l) no_openers)

record Cases : Type 0 where
  -- C5 and C6
  exit_of_repeat : rows_of (repeat ∷ exit ∷ until ∷ []) ≡ 0 ∷ 3 ∷ 0 ∷ 1 ∷ 0 ∷ 0 ∷ 1 ∷ 0 ∷ 0 ∷ []
  exitif_of_loop : rows_of (loop ∷ exitif ∷ endloop ∷ []) ≡ 0 ∷ 3 ∷ 0 ∷ 1 ∷ 0 ∷ 0 ∷ 1 ∷ 0 ∷ 0 ∷ []
  -- two ELSEs, the second DOIF left open
  elses : rows_of (doif ∷ else ∷ doif ∷ else ∷ done ∷ else ∷ []) ≡ 0 ∷ 0 ∷ 2 ∷ 1 ∷ 0 ∷ 6 ∷ 0 ∷ 5 ∷ 4 ∷ 3 ∷ 0 ∷ 0 ∷ 3 ∷ 0 ∷ 0 ∷ 1 ∷ 0 ∷ 0 ∷ []
  -- the two stacks do not see each other
  crossed : rows_of (doif ∷ repeat ∷ done ∷ until ∷ exit ∷ []) ≡ 0 ∷ 3 ∷ 0 ∷ 0 ∷ 4 ∷ 0 ∷ 1 ∷ 0 ∷ 0 ∷ 2 ∷ 0 ∷ 0 ∷ 0 ∷ 0 ∷ 0 ∷ []

cases : Cases
unfolding each below moves_of node_moves no_openers for_openers_after openers_after after meets pops fact_of facts is_closing is_joining either_met frame_met met_number closes_frame is_else_of first_where next_where met_entry do_met_of else_entry frame_row frame_rows
cases = record { exit_of_repeat = refl; exitif_of_loop = refl; elses = refl; crossed = refl }
