-- The traps of document 01 and corners of its rules that C1 to C12 leave open; the answers are the original's. Assumes nothing.
use Rattle.std.specs.Prelude.{List, [], ◌∷◌, T}
use Rattle.std.proofs.Math.Option.{none, some}
use Rattle.listings.specs.Bytes.{bytes}
use Rattle.graph.specs.CaseTable.{lists_are, list_is, continuation_is, Case, claims, all_right, one, opened}

cases : List Case
cases =
    -- "sorting all successor lists": targets in the order written
    claims (bytes "(module 0\n(line 10\n(ongoto 20 10)\n)\n(line 20\n(stop)\n)\n)\n") (list_is 0 (1 ∷ 0 ∷ []) ∷ [])
    -- "letting a lone UNTIL fall"
    ∷ claims (one "(until)\n(stop)\n") (lists_are ([] ∷ [] ∷ []) ∷ [])
    -- "walking into a callee": the RETURN of line 30 is no way back for the call of line 20
    ∷ claims (bytes "(module 0\n(line 10\n(gosub 20)\n(stop)\n)\n(line 20\n(gosub 30)\n(return)\n)\n(line 30\n(return)\n)\n)\n")
    (lists_are ((2 ∷ []) ∷ [] ∷ (4 ∷ []) ∷ (1 ∷ []) ∷ (3 ∷ []) ∷ []) ∷ continuation_is 0 (some 1) ∷ continuation_is 2 (some 3) ∷ [])
    -- "giving an `(else)` its own fall"
    ∷ claims (one "(doif)\n(else)\n(plain)\n(done)\n(stop)\n") (lists_are ((1 ∷ 2 ∷ []) ∷ (4 ∷ []) ∷ (3 ∷ []) ∷ (4 ∷ []) ∷ [] ∷ []) ∷ [])
    -- "treating `(next plain)` as `(next plain *)`"
    ∷ claims (one "(for I static)\n(next plain)\n(stop)\n") (lists_are ((1 ∷ []) ∷ (2 ∷ []) ∷ [] ∷ []) ∷ [])
    -- a NEXT pops one frame a slot
    ∷ claims (one "(for I static)\n(for J static)\n(next plain *)\n(next plain *)\n(stop)\n") (lists_are ((1 ∷ []) ∷ (2 ∷ []) ∷ (2 ∷ 3 ∷ []) ∷ (1 ∷ 4 ∷ []) ∷ [] ∷ []) ∷ [])
    -- EXIT goes past its closer; a frame is popped once
    ∷ claims (one "(repeat)\n(loop)\n(exit)\n(until)\n(endloop)\n(until)\n(stop)\n") (lists_are ((1 ∷ []) ∷ (2 ∷ []) ∷ (4 ∷ []) ∷ (2 ∷ 4 ∷ []) ∷ (1 ∷ []) ∷ [] ∷ [] ∷ []) ∷ [])
    -- a skipping path goes through RUN
    ∷ claims (bytes "(module 0\n(line 10\n(return)\n(gosub 20)\n(stop)\n)\n(line 20\n(run)\n)\n)\n") (list_is 0 (2 ∷ []) ∷ [])
    -- a call without an existing target has a continuation, which is in no RETURN's list without handlers
    ∷ claims (bytes "(module 0\n(line 10\n(gosub 99)\n(gosub 20)\n(stop)\n)\n(line 20\n(return)\n)\n)\n") (list_is 3 (2 ∷ []) ∷ continuation_is 0 (some 1) ∷ [])
    ∷ claims (bytes "(module 1\n(line 10\n(gosub 99)\n(gosub 20)\n(stop)\n)\n(line 20\n(return)\n)\n)\n") (list_is 3 (1 ∷ 2 ∷ []) ∷ [])
    ∷ []

traps : T (all_right cases)
unfolding opened cases
traps = tt
