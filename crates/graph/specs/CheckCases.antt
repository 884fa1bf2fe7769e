-- Graphs checked against listings: the rules of document 02's L1 by the smallest examples, each with what the program prints. Assumes nothing.
use Prim.Native.String.{String}
use Rattle.std.specs.Prelude.{List, [], ◌∷◌, ◌++◌, Bool, true, false, ◌&&◌, ℕ, zero, suc, T}
use Rattle.listings.specs.Bytes.{bytes, same}
use Rattle.graph.specs.Check.{row_forms, begun, outside_step, digit_step, step, may_end, ends, fits_from, fits, fits_one, is_graph_row, row_number, compared, against, checked, shown, flowcheck}
use Rattle.graph.specs.CaseTable.{opened}
use Rattle.graph.specs.Build.{Capacity}

-- a graph given for a listing, and what is printed
pub record Given : Type 0 where
  pub listing : List ℕ
  pub graph : List ℕ
  pub prints : List ℕ

unfoldable all_print : List Given → Bool
all_print [] = true
all_print (c ∷ cs) = same (flowcheck c.listing c.graph) c.prints && all_print cs

unfoldable given : (l g p : String) → Given
given l g p = record { listing = bytes l; graph = bytes g; prints = bytes p ++ (10 ∷ []) }

-- for the listing without lines
unfoldable bare : (g p : String) → Given
bare g p = given "(module 0\n)\n" g p

-- for a listing with a call, a STOP and a RETURN
unfoldable stopped : (g p : String) → Given
stopped g p = given "(module 0\n(line 10\n(gosub 20)\n(stop)\n)\n(line 20\n(return)\n)\n)\n" g p

-- so many copies, one after the other
unfoldable times : ℕ → List ℕ → List ℕ
times zero l = []
times (suc k) l = l ++ times k l

cases : List Given
cases =
    bare "(graph 0 0\n(returns)\n)\n" "(right)"
    -- "Both come after all of the listing's refusals"
    ∷ given "(module 0\n)" "(graph 0 0\n(returns)\n)\n" "(refused 2 1)"
    ∷ given "(module 0\n)" "(refused 2 1)\n" "(refused 2 1)"
    -- "the place is the first such row", 31 or 32; "31 wins on the same row"
    ∷ bare "(graph 0 1\n(returns\n)\n" "(refused 32 0)"
    ∷ bare "(graph 1 00\n(returns)\n)\n" "(refused 31 0)"
    -- a row that any graph may print anywhere is in form
    ∷ bare ")\n" "(refused 32 0)"
    ∷ bare "(graph 0 0\n(graph 0 0\n)\n" "(refused 32 1)"
    ∷ bare "(graph 0 0\n(back 7 9)\n)\n" "(refused 32 1)"
    ∷ bare "(graph 0 0\n(entry 7 9)\n)\n" "(refused 32 1)"
    -- "whichever numbers of document 01 stand in it"
    ∷ bare "(graph 65535 65535\n(returns)\n)\n" "(refused 32 0)"
    ∷ bare "(graph 0 65536\n(returns)\n)\n" "(refused 31 0)"
    ∷ bare "(graph 0 00\n(returns)\n)\n" "(refused 31 0)"
    ∷ bare "(graph 0 x\n(returns)\n)\n" "(refused 31 0)"
    -- "however many, even none, in its lists (path, succ, pred, returns)"
    ∷ bare "(graph 0 0\n(returns 1 2 3 4 5 6 7 8 9 10 11 12 13 14 15)\n)\n" "(refused 32 1)"
    ∷ bare "(graph 0 0\n(node 0 10 0 () (in) (succ) (pred))\n)\n" "(refused 32 1)"
    ∷ bare "(graph 0 0\n(node 0 10 0 (1 2) (in 7) (succ 3 4 5) (pred 6))\n)\n" "(refused 32 1)"
    ∷ bare "(graph 0 0\n(node 0 10 0 ( ) (in) (succ) (pred))\n)\n" "(refused 31 1)"
    ∷ bare "(graph 0 0\n(node 0 10 0 ( 1) (in) (succ) (pred))\n)\n" "(refused 31 1)"
    ∷ bare "(graph 0 0\n(node 0 10 0 () (in) (succ ) (pred))\n)\n" "(refused 31 1)"
    ∷ bare "(graph 0 0\n(node 0 10 0 () (in) (succ 1  2) (pred))\n)\n" "(refused 31 1)"
    ∷ bare "(graph 0 0\n(returns 1 )\n)\n" "(refused 31 1)"
    -- elsewhere the count is fixed
    ∷ bare "(graph 0\n(returns)\n)\n" "(refused 31 0)"
    ∷ bare "(graph 0 0 0\n(returns)\n)\n" "(refused 31 0)"
    ∷ bare "(graph 0 0)\n(returns)\n)\n" "(refused 31 0)"
    ∷ bare "(graph 0 0\n(entry 10)\n)\n" "(refused 31 1)"
    ∷ bare "(graph 0 0\n(node 0 10 (0) (in) (succ) (pred))\n)\n" "(refused 31 1)"
    -- "its row count if one is missing at the end"
    ∷ bare "" "(refused 32 0)"
    ∷ bare "(graph 0 0\n" "(refused 32 1)"
    ∷ bare "(graph 0 0\n(returns)\n" "(refused 32 2)"
    -- missing or too many inside: nothing is aligned
    ∷ bare "(graph 0 0\n)\n" "(refused 32 1)"
    ∷ bare "(returns)\n)\n" "(refused 32 0)"
    ∷ bare "(graph 0 0\n(returns)\n(returns)\n)\n" "(refused 32 2)"
    -- "or one too many"
    ∷ bare "(graph 0 0\n(returns)\n)\n)\n" "(refused 32 3)"
    ∷ bare "(graph 0 0\n(returns)\n)\n\n" "(refused 31 3)"
    ∷ bare "(graph 0 0\n(returns)\n)\n(graph 0 0\n(returns)\n)\n" "(refused 32 3)"
    -- "or lacks its byte 10"
    ∷ bare "(graph 0 0\n(returns)\n)" "(refused 31 2)"
    ∷ bare "(graph 0 0\n(returns)\n" "(refused 32 2)"
    ∷ bare "(graph 0 0" "(refused 31 0)"
    ∷ bare "(graph 0 0\n(returns)\n)\n)" "(refused 31 3)"
    ∷ bare "(graph 1 0\n(returns)" "(refused 32 0)"
    -- nothing is forgiven
    ∷ bare "(graph 0 0\r\n(returns)\n)\n" "(refused 31 0)"
    ∷ bare "(graph 0 0 \n(returns)\n)\n" "(refused 31 0)"
    ∷ bare "(graph\t0 0\n(returns)\n)\n" "(refused 31 0)"
    ∷ bare "(GRAPH 0 0\n(returns)\n)\n" "(refused 31 0)"
    ∷ bare "(refused 2 0)\n" "(refused 31 0)"
    -- a graph with nodes, and lists in another order
    ∷ stopped "(graph 0 3\n(node 0 10 0 (0) (in) (succ 2) (pred))\n(node 1 10 0 (1) (in) (succ) (pred 2))\n(node 2 20 1 (0) (in) (succ 1) (pred 0))\n(entry 10 0)\n(entry 20 2)\n(returns 1)\n(back 0 1)\n)\n" "(right)"
    ∷ stopped "(graph 0 3\n(node 0 10 0 (0) (in) (succ 2) (pred))\n(node 1 10 0 (1) (in) (succ) (pred 2))\n(node 2 20 1 (0) (in) (succ) (pred 0))\n(entry 10 0)\n(entry 20 2)\n(returns 1)\n(back 0 1)\n)\n" "(refused 32 3)"
    ∷ stopped "(graph 0 3\n(node 0 10 0 (0) (in) (succ 2) (pred))\n(node 1 10 0 (1) (in) (succ) (pred 2))\n(node 2 20 1 (0) (in) (succ 1) (pred 0))\n(entry 20 2)\n(entry 10 0)\n(returns 1)\n(back 0 1)\n)\n" "(refused 32 4)"
    -- C12, and lists in another order
    ∷ given "(module 0\n(line 10\n(gosub 100)\n(plain)\n)\n(line 20\n(stop)\n)\n(line 100\n(if\n(to 20)\n)\n(return)\n)\n)\n" "(graph 0 5\n(node 0 10 0 (0) (in) (succ 3) (pred))\n(node 1 10 0 (1) (in) (succ 2) (pred 4))\n(node 2 20 1 (0) (in) (succ) (pred 1 3))\n(node 3 100 2 (0) (in) (succ 2 4) (pred 0))\n(node 4 100 2 (1) (in) (succ 1) (pred 3))\n(entry 10 0)\n(entry 20 2)\n(entry 100 3)\n(returns 1)\n(back 0 1)\n)\n" "(right)"
    ∷ given "(module 0\n(line 10\n(gosub 100)\n(plain)\n)\n(line 20\n(stop)\n)\n(line 100\n(if\n(to 20)\n)\n(return)\n)\n)\n" "(graph 0 5\n(node 0 10 0 (0) (in) (succ 3) (pred))\n(node 1 10 0 (1) (in) (succ 2) (pred 4))\n(node 2 20 1 (0) (in) (succ) (pred 3 1))\n(node 3 100 2 (0) (in) (succ 2 4) (pred 0))\n(node 4 100 2 (1) (in) (succ 1) (pred 3))\n(entry 10 0)\n(entry 20 2)\n(entry 100 3)\n(returns 1)\n(back 0 1)\n)\n" "(refused 32 3)"
    ∷ given "(module 0\n(line 10\n(gosub 100)\n(plain)\n)\n(line 20\n(stop)\n)\n(line 100\n(if\n(to 20)\n)\n(return)\n)\n)\n" "(graph 0 5\n(node 0 10 0 (0) (in) (succ 3) (pred))\n(node 1 10 0 (1) (in) (succ 2) (pred 4))\n(node 2 20 1 (0) (in) (succ) (pred 1 3))\n(node 3 100 2 (0) (in) (succ 4 2) (pred 0))\n(node 4 100 2 (1) (in) (succ 1) (pred 3))\n(entry 10 0)\n(entry 20 2)\n(entry 100 3)\n(returns 1)\n(back 0 1)\n)\n" "(refused 32 4)"
    ∷ given "(module 0\n(line 10\n(gosub 100)\n(plain)\n)\n(line 20\n(stop)\n)\n(line 100\n(if\n(to 20)\n)\n(return)\n)\n)\n" "(graph 0 5\n(node 0 10 0 (0) (succ 3) (pred))\n(node 1 10 0 (1) (in) (succ 2) (pred 4))\n(node 2 20 1 (0) (in) (succ) (pred 1 3))\n(node 3 100 2 (0) (in) (succ 2 4) (pred 0))\n(node 4 100 2 (1) (in) (succ 1) (pred 3))\n(entry 10 0)\n(entry 20 2)\n(entry 100 3)\n(returns 1)\n(back 0 1)\n)\n" "(refused 31 1)"
    -- the nearest holder, of either branch
    ∷ given "(module 0\n(line 10\n(if\n(stmts\n(ifelse\n(stmts\n(plain)\n)\n(stmts\n(plain)\n)\n)\n)\n)\n)\n)\n" "(graph 0 4\n(node 0 10 0 (0) (in) (succ 1) (pred))\n(node 1 10 0 (0 0) (in 0) (succ 2 3) (pred 0))\n(node 2 10 0 (0 0 0) (in 1) (succ) (pred 1))\n(node 3 10 0 (0 0 1) (in 1) (succ) (pred 1))\n(entry 10 0)\n(returns)\n)\n" "(right)"
    ∷ given "(module 0\n(line 10\n(if\n(stmts\n(ifelse\n(stmts\n(plain)\n)\n(stmts\n(plain)\n)\n)\n)\n)\n)\n)\n" "(graph 0 4\n(node 0 10 0 (0) (in) (succ 1) (pred))\n(node 1 10 0 (0 0) (in 0) (succ 2 3) (pred 0))\n(node 2 10 0 (0 0 0) (in 1) (succ) (pred 1))\n(node 3 10 0 (0 0 1) (in 0) (succ) (pred 1))\n(entry 10 0)\n(returns)\n)\n" "(refused 32 4)"
    ∷ given "(module 0\n(line 10\n(if\n(stmts\n(ifelse\n(stmts\n(plain)\n)\n(stmts\n(plain)\n)\n)\n)\n)\n)\n)\n" "(graph 0 4\n(node 0 10 0 (0) (in) (succ 1) (pred))\n(node 1 10 0 (0 0) (in 0) (succ 2 3) (pred 0))\n(node 2 10 0 (0 0 0) (in 1) (succ) (pred 1))\n(node 3 10 0 (0 0 1) (in) (succ) (pred 1))\n(entry 10 0)\n(returns)\n)\n" "(refused 32 4)"
    ∷ given "(module 0\n(line 10\n(rcomp\n(to 10)\n(stmts\n(plain)\n)\n)\n)\n)\n" "(graph 0 2\n(node 0 10 0 (0) (in) (succ 0 1) (pred 0))\n(node 1 10 0 (0 0) (in 0) (succ) (pred 0))\n(entry 10 0)\n(returns)\n)\n" "(right)"
    -- `(in ..)` is none of the lists: none or one number
    ∷ given "(module 0\n(line 10\n(gosub 100)\n(plain)\n)\n(line 20\n(stop)\n)\n(line 100\n(if\n(to 20)\n)\n(return)\n)\n)\n" "(graph 0 5\n(node 0 10 0 (0) (in 0) (succ 3) (pred))\n(node 1 10 0 (1) (in) (succ 2) (pred 4))\n(node 2 20 1 (0) (in) (succ) (pred 1 3))\n(node 3 100 2 (0) (in) (succ 2 4) (pred 0))\n(node 4 100 2 (1) (in) (succ 1) (pred 3))\n(entry 10 0)\n(entry 20 2)\n(entry 100 3)\n(returns 1)\n(back 0 1)\n)\n" "(refused 32 1)"
    ∷ given "(module 0\n(line 10\n(gosub 100)\n(plain)\n)\n(line 20\n(stop)\n)\n(line 100\n(if\n(to 20)\n)\n(return)\n)\n)\n" "(graph 0 5\n(node 0 10 0 (0) (in 0 1) (succ 3) (pred))\n(node 1 10 0 (1) (in) (succ 2) (pred 4))\n(node 2 20 1 (0) (in) (succ) (pred 1 3))\n(node 3 100 2 (0) (in) (succ 2 4) (pred 0))\n(node 4 100 2 (1) (in) (succ 1) (pred 3))\n(entry 10 0)\n(entry 20 2)\n(entry 100 3)\n(returns 1)\n(back 0 1)\n)\n" "(refused 31 1)"
    ∷ given "(module 0\n(line 10\n(gosub 100)\n(plain)\n)\n(line 20\n(stop)\n)\n(line 100\n(if\n(to 20)\n)\n(return)\n)\n)\n" "(graph 0 5\n(node 0 10 0 (0) (in 65536) (succ 3) (pred))\n(node 1 10 0 (1) (in) (succ 2) (pred 4))\n(node 2 20 1 (0) (in) (succ) (pred 1 3))\n(node 3 100 2 (0) (in) (succ 2 4) (pred 0))\n(node 4 100 2 (1) (in) (succ 1) (pred 3))\n(entry 10 0)\n(entry 20 2)\n(entry 100 3)\n(returns 1)\n(back 0 1)\n)\n" "(refused 31 1)"
    ∷ given "(module 0\n(line 10\n(gosub 100)\n(plain)\n)\n(line 20\n(stop)\n)\n(line 100\n(if\n(to 20)\n)\n(return)\n)\n)\n" "(graph 0 5\n(node 0 10 0 (0) (in ) (succ 3) (pred))\n(node 1 10 0 (1) (in) (succ 2) (pred 4))\n(node 2 20 1 (0) (in) (succ) (pred 1 3))\n(node 3 100 2 (0) (in) (succ 2 4) (pred 0))\n(node 4 100 2 (1) (in) (succ 1) (pred 3))\n(entry 10 0)\n(entry 20 2)\n(entry 100 3)\n(returns 1)\n(back 0 1)\n)\n" "(refused 31 1)"
    ∷ given "(module 0\n(line 10\n(gosub 100)\n(plain)\n)\n(line 20\n(stop)\n)\n(line 100\n(if\n(to 20)\n)\n(return)\n)\n)\n" "(graph 0 5\n(node 0 10 0 (0) (in 07) (succ 3) (pred))\n(node 1 10 0 (1) (in) (succ 2) (pred 4))\n(node 2 20 1 (0) (in) (succ) (pred 1 3))\n(node 3 100 2 (0) (in) (succ 2 4) (pred 0))\n(node 4 100 2 (1) (in) (succ 1) (pred 3))\n(entry 10 0)\n(entry 20 2)\n(entry 100 3)\n(returns 1)\n(back 0 1)\n)\n" "(refused 31 1)"
    ∷ given "(module 0\n(line 10\n(gosub 100)\n(plain)\n)\n(line 20\n(stop)\n)\n(line 100\n(if\n(to 20)\n)\n(return)\n)\n)\n" "(graph 0 5\n(node 0 10 0 (0) (in 65535) (succ 3) (pred))\n(node 1 10 0 (1) (in) (succ 2) (pred 4))\n(node 2 20 1 (0) (in) (succ) (pred 1 3))\n(node 3 100 2 (0) (in) (succ 2 4) (pred 0))\n(node 4 100 2 (1) (in) (succ 1) (pred 3))\n(entry 10 0)\n(entry 20 2)\n(entry 100 3)\n(returns 1)\n(back 0 1)\n)\n" "(refused 32 1)"
    ∷ given "(module 0\n(line 10\n(gosub 100)\n(plain)\n)\n(line 20\n(stop)\n)\n(line 100\n(if\n(to 20)\n)\n(return)\n)\n)\n" "(graph 0 5\n(node 0 10 0 (0) (in) (succ 3) (pred))\n(node 1 10 0 (1) (in) (succ 2) (pred 4))\n(node 2 20 1 (0) (in) (succ) (pred 1 3))\n(node 3 100 2 (0) (in) (succ 2 4) (pred 0))\n(node 4 100 2 (1) (in) (succ 1) (pred 3))\n(entry 10 0 own)\n(entry 20 2)\n(entry 100 3)\n(returns 1)\n(back 0 1)\n)\n" "(refused 31 6)"
    ∷ given "(module 0\n(line 10\n(ifelse\n(stmts\n(gosub 50)\n)\n(stmts\n(gosub 50)\n(plain)\n)\n)\n(stop)\n)\n(line 50\n(return)\n)\n)\n" "(graph 0 6\n(node 0 10 0 (0) (in) (succ 1 2) (pred))\n(node 1 10 0 (0 0) (in 0) (succ 5) (pred 0))\n(node 2 10 0 (0 1) (in 0) (succ 5) (pred 0))\n(node 3 10 0 (0 2) (in 0) (succ 4) (pred 5))\n(node 4 10 0 (1) (in) (succ) (pred 3 5))\n(node 5 50 1 (0) (in) (succ 3 4) (pred 1 2))\n(entry 10 0)\n(entry 50 5)\n(returns 4 3)\n(back 1 4)\n(back 2 3)\n)\n" "(right)"
    ∷ given "(module 0\n(line 10\n(ifelse\n(stmts\n(gosub 50)\n)\n(stmts\n(gosub 50)\n(plain)\n)\n)\n(stop)\n)\n(line 50\n(return)\n)\n)\n" "(graph 0 6\n(node 0 10 0 (0) (in) (succ 1 2) (pred))\n(node 1 10 0 (0 0) (in 0) (succ 5) (pred 0))\n(node 2 10 0 (0 1) (in 0) (succ 5) (pred 0))\n(node 3 10 0 (0 2) (in 0) (succ 4) (pred 5))\n(node 4 10 0 (1) (in) (succ) (pred 3 5))\n(node 5 50 1 (0) (in) (succ 3 4) (pred 1 2))\n(entry 10 0)\n(entry 50 5)\n(returns 3 4)\n(back 1 4)\n(back 2 3)\n)\n" "(refused 32 9)"
    ∷ record { listing = bytes "(module 0\n)\n"; graph = bytes "(graph 0 0\n(returns" ++ times 5000 (bytes " 7") ++ bytes ")\n)\n"; prints = bytes "(refused 32 1)\n" }
    ∷ record { listing = bytes "(module 0\n)\n"; graph = bytes "(graph 0 0\n(returns" ++ times 5000 (bytes " 7") ++ bytes " 07)\n)\n"; prints = bytes "(refused 31 1)\n" }
    ∷ []

checks : T (all_print cases)
unfolding opened cases all_print times given bare stopped row_forms begun outside_step digit_step step may_end ends fits_from fits fits_one is_graph_row row_number compared against shown flowcheck
checks = tt

-- 23, with tables lent for fewer edges
crowded : T (same (shown (checked (record { lines = 1024; nodes = 4096; edges = 1 }) (bytes "(module 0\n(line 10\n(plain)\n(plain)\n(stop)\n)\n)\n") (bytes "x"))) (bytes "(refused 23 2)\n"))
unfolding opened shown against
crowded = tt
