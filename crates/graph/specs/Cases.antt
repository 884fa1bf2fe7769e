-- C1 to C12 of document 01 in one table, and one claim for all of them. Assumes nothing.
use Rattle.std.specs.Prelude.{ℕ, List, [], ◌∷◌, ◌++◌, T}
use Prim.Native.String.{String}
use Rattle.std.proofs.Math.Option.{none, some}
use Rattle.listings.specs.Bytes.{bytes}
use Rattle.graph.specs.CaseTable.{count_is, entry_is, lists_are, list_is, continuation_is, Case, claims, writes, all_right, one, opened}

-- C10, by its handler fact
c10 : String → List ℕ
c10 h = bytes "(module " ++ bytes h ++ bytes "\n(line 10\n(ifelse\n(stmts\n(gosub 50)\n)\n(stmts\n(gosub 50)\n(plain)\n)\n)\n(stop)\n)\n(line 50\n(return)\n)\n)\n"

cases : List Case
cases =
    -- C1
    claims (bytes "(module 0\n)\n") (count_is 0 ∷ [])
    ∷ writes (bytes "(module 0\n)\n") (bytes "(graph 0 0\n(returns)\n)\n")
    -- C2
    ∷ claims (bytes "(module 0\n(line 10\n)\n(line 20\n(plain)\n)\n(line 30\n)\n)\n") (entry_is 10 (some 0) ∷ entry_is 20 (some 0) ∷ entry_is 30 none ∷ [])
    -- C3
    ∷ claims (one "(for I static)\n(next plain J)\n(next plain *)\n") (lists_are ((1 ∷ []) ∷ (2 ∷ []) ∷ (1 ∷ []) ∷ []) ∷ [])
    -- C4
    ∷ claims (one "(exit)\n(plain)\n") (list_is 0 [] ∷ [])
    ∷ claims (one "(until)\n(plain)\n") (list_is 0 [] ∷ [])
    ∷ claims (one "(endloop)\n(plain)\n") (list_is 0 [] ∷ [])
    ∷ claims (one "(else)\n(plain)\n") (list_is 0 [] ∷ [])
    ∷ claims (one "(exitif)\n(plain)\n") (list_is 0 (1 ∷ []) ∷ [])
    ∷ claims (one "(done)\n(plain)\n") (list_is 0 (1 ∷ []) ∷ [])
    -- C5
    ∷ claims (one "(repeat)\n(exit)\n(until)\n(stop)\n") (lists_are ((1 ∷ []) ∷ (3 ∷ []) ∷ (1 ∷ 3 ∷ []) ∷ [] ∷ []) ∷ [])
    -- C6
    ∷ claims (one "(loop)\n(exitif)\n(endloop)\n(stop)\n") (lists_are ((1 ∷ []) ∷ (2 ∷ 3 ∷ []) ∷ (1 ∷ []) ∷ [] ∷ []) ∷ [])
    -- C7
    ∷ claims (one "(doif)\n(plain)\n(else)\n(plain)\n(done)\n(stop)\n") (lists_are ((1 ∷ 3 ∷ []) ∷ (2 ∷ []) ∷ (5 ∷ []) ∷ (4 ∷ []) ∷ (5 ∷ []) ∷ [] ∷ []) ∷ [])
    -- C8
    ∷ claims (one "(for I static)\n(for J static)\n(for I static)\n(next plain J)\n(stop)\n") (list_is 3 (4 ∷ []) ∷ [])
    -- "the second FOR I dropped both frames": one frame is left for two NEXTs, and it is the second FOR I's
    ∷ claims (one "(for I static)\n(for J static)\n(for I static)\n(next plain J)\n(next plain *)\n(next plain *)\n(stop)\n") (list_is 3 (4 ∷ []) ∷ list_is 4 (3 ∷ 5 ∷ []) ∷ list_is 5 (6 ∷ []) ∷ [])
    -- C9
    ∷ claims (one "(for I dispatched)\n(next plain I)\n(plain)\n(next orphan I)\n(stop)\n") (list_is 3 (4 ∷ 1 ∷ []) ∷ [])
    -- C10
    ∷ claims (c10 "0") (list_is 5 (3 ∷ 4 ∷ []) ∷ [])
    ∷ claims (c10 "1") (list_is 5 (4 ∷ 3 ∷ []) ∷ [])
    -- C11
    ∷ claims (one "(gosub 10)\n") (lists_are ((0 ∷ []) ∷ []) ∷ continuation_is 0 none ∷ [])
    -- C12
    ∷ writes
    (bytes "(module 0\n(line 10\n(gosub 100)\n(plain)\n)\n(line 20\n(stop)\n)\n(line 100\n(if\n(to 20)\n)\n(return)\n)\n)\n")
    (bytes "(graph 0 5\n(node 0 10 0 (0) (in) (succ 3) (pred))\n(node 1 10 0 (1) (in) (succ 2) (pred 4))\n(node 2 20 1 (0) (in) (succ) (pred 1 3))\n(node 3 100 2 (0) (in) (succ 2 4) (pred 0))\n(node 4 100 2 (1) (in) (succ 1) (pred 3))\n(entry 10 0)\n(entry 20 2)\n(entry 100 3)\n(returns 1)\n(back 0 1)\n)\n")
    ∷ []

c1_to_c12 : T (all_right cases)
unfolding opened c10 cases
c1_to_c12 = tt
