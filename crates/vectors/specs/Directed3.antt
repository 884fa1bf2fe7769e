-- Directed listings with the original's graphs. Assumes nothing.
use Rattle.std.specs.Prelude.{List, [], ◌∷◌, true, false, T}
use Rattle.vectors.specs.Vector.{Vector, right, opened}

table : List Vector
table =
    record { text = "(module 0\n(line 10\n(gosub 40)\n(stop)\n)\n(line 20\n(return)\n)\n(line 40\n(ifelse\n(stmts\n(gosub 20)\n)\n(stmts\n(plain)\n(goto 20)\n)\n)\n)\n)\n"; writes = "(graph 0 7\n(node 0 10 0 (0) (in) (succ 3) (pred))\n(node 1 10 0 (1) (in) (succ) (pred 2))\n(node 2 20 1 (0) (in) (succ 1) (pred 4 6))\n(node 3 40 2 (0) (in) (succ 4 5) (pred 0))\n(node 4 40 2 (0 0) (in 3) (succ 2) (pred 3))\n(node 5 40 2 (0 1) (in 3) (succ 6) (pred 3))\n(node 6 40 2 (0 2) (in 3) (succ 2) (pred 5))\n(entry 10 0)\n(entry 20 2)\n(entry 40 3)\n(returns 1)\n(back 0 1)\n)\n" } ∷
    record { text = "(module 0\n(line 5\n(return)\n)\n(line 10\n(gosub 20)\n(stop)\n)\n(line 20\n(ifelse\n(stmts\n(gosub 5)\n)\n(stmts\n(stop)\n)\n)\n)\n)\n"; writes = "(graph 0 6\n(node 0 5 0 (0) (in) (succ) (pred 4))\n(node 1 10 1 (0) (in) (succ 3) (pred))\n(node 2 10 1 (1) (in) (succ) (pred))\n(node 3 20 2 (0) (in) (succ 4 5) (pred 1))\n(node 4 20 2 (0 0) (in 3) (succ 0) (pred 3))\n(node 5 20 2 (0 1) (in 3) (succ) (pred 3))\n(entry 5 0)\n(entry 10 1)\n(entry 20 3)\n(returns 2)\n(back 1 2)\n)\n" } ∷
    record { text = "(module 0\n(line 10\n(for I dispatched)\n(return)\n)\n(line 20\n(gosub 30)\n(stop)\n)\n(line 30\n(next orphan I)\n(stop)\n)\n)\n"; writes = "(graph 0 6\n(node 0 10 0 (0) (in) (succ 1) (pred))\n(node 1 10 0 (1) (in) (succ 3) (pred 0 4))\n(node 2 20 1 (0) (in) (succ 4) (pred))\n(node 3 20 1 (1) (in) (succ) (pred 1))\n(node 4 30 2 (0) (in) (succ 1 5) (pred 2))\n(node 5 30 2 (1) (in) (succ) (pred 4))\n(entry 10 0)\n(entry 20 2)\n(entry 30 4)\n(returns 3)\n(back 2 3)\n)\n" } ∷
    record { text = "(module 0\n(line 10\n(for I dispatched)\n(return)\n)\n(line 20\n(gosub 30)\n(stop)\n)\n(line 30\n(next orphan J)\n(stop)\n)\n)\n"; writes = "(graph 0 6\n(node 0 10 0 (0) (in) (succ 1) (pred))\n(node 1 10 0 (1) (in) (succ) (pred 0))\n(node 2 20 1 (0) (in) (succ 4) (pred))\n(node 3 20 1 (1) (in) (succ) (pred))\n(node 4 30 2 (0) (in) (succ 5) (pred 2))\n(node 5 30 2 (1) (in) (succ) (pred 4))\n(entry 10 0)\n(entry 20 2)\n(entry 30 4)\n(returns 3)\n(back 2 3)\n)\n" } ∷
    record { text = "(module 0\n(line 10\n(for I static)\n(return)\n)\n(line 20\n(gosub 30)\n(stop)\n)\n(line 30\n(next orphan I)\n(stop)\n)\n)\n"; writes = "(graph 0 6\n(node 0 10 0 (0) (in) (succ 1) (pred))\n(node 1 10 0 (1) (in) (succ 3) (pred 0 4))\n(node 2 20 1 (0) (in) (succ 4) (pred))\n(node 3 20 1 (1) (in) (succ) (pred 1))\n(node 4 30 2 (0) (in) (succ 1 5) (pred 2))\n(node 5 30 2 (1) (in) (succ) (pred 4))\n(entry 10 0)\n(entry 20 2)\n(entry 30 4)\n(returns 3)\n(back 2 3)\n)\n" } ∷
    record { text = "(module 0\n(line 10\n(gosub 10)\n(return)\n)\n)\n"; writes = "(graph 0 2\n(node 0 10 0 (0) (in) (succ 0) (pred 0))\n(node 1 10 0 (1) (in) (succ 1) (pred 1))\n(entry 10 0)\n(returns 1)\n(back 0 1)\n)\n" } ∷
    record { text = "(module 0\n(line 10\n(return)\n(gosub 10)\n(stop)\n)\n)\n"; writes = "(graph 0 3\n(node 0 10 0 (0) (in) (succ 2) (pred 1))\n(node 1 10 0 (1) (in) (succ 0) (pred))\n(node 2 10 0 (2) (in) (succ) (pred 0))\n(entry 10 0)\n(returns 2)\n(back 1 2)\n)\n" } ∷
    record { text = "(module 0\n(line 10\n(ongosub 20 30)\n(stop)\n)\n(line 20\n(plain)\n)\n(line 30\n(return)\n)\n)\n"; writes = "(graph 0 4\n(node 0 10 0 (0) (in) (succ 2 3 1) (pred))\n(node 1 10 0 (1) (in) (succ) (pred 0 3))\n(node 2 20 1 (0) (in) (succ 3) (pred 0))\n(node 3 30 2 (0) (in) (succ 1) (pred 0 2))\n(entry 10 0)\n(entry 20 2)\n(entry 30 3)\n(returns 1)\n(back 0 1)\n)\n" } ∷
    record { text = "(module 0\n(line 10\n(return)\n)\n)\n"; writes = "(graph 0 1\n(node 0 10 0 (0) (in) (succ) (pred))\n(entry 10 0)\n(returns)\n)\n" } ∷
    record { text = "(module 0\n(line 10\n(gosub 20)\n(gosub 30)\n(stop)\n)\n(line 20\n(if\n(to 30)\n)\n(return)\n)\n(line 30\n(return)\n)\n)\n"; writes = "(graph 0 6\n(node 0 10 0 (0) (in) (succ 3) (pred))\n(node 1 10 0 (1) (in) (succ 5) (pred 4 5))\n(node 2 10 0 (2) (in) (succ) (pred 5))\n(node 3 20 1 (0) (in) (succ 5 4) (pred 0))\n(node 4 20 1 (1) (in) (succ 1) (pred 3))\n(node 5 30 2 (0) (in) (succ 1 2) (pred 1 3))\n(entry 10 0)\n(entry 20 3)\n(entry 30 5)\n(returns 1 2)\n(back 0 1)\n(back 1 2)\n)\n" } ∷
    record { text = "(module 1\n(line 10\n(gosub 20)\n(gosub 30)\n(stop)\n)\n(line 20\n(if\n(to 30)\n)\n(return)\n)\n(line 30\n(return)\n(plain)\n)\n)\n"; writes = "(graph 0 7\n(node 0 10 0 (0) (in) (succ 3) (pred))\n(node 1 10 0 (1) (in) (succ 5) (pred 4 5))\n(node 2 10 0 (2) (in) (succ) (pred 4 5))\n(node 3 20 1 (0) (in) (succ 5 4) (pred 0))\n(node 4 20 1 (1) (in) (succ 1 2) (pred 3))\n(node 5 30 2 (0) (in) (succ 1 2) (pred 1 3))\n(node 6 30 2 (1) (in) (succ) (pred))\n(entry 10 0)\n(entry 20 3)\n(entry 30 5)\n(returns 1 2)\n(back 0 1)\n(back 1 2)\n)\n" } ∷
    record { text = "(module 0\n(line 10\n(gosub 40)\n(plain)\n)\n(line 20\n(loop)\n(exit)\n(endloop)\n(return)\n)\n(line 40\n(doif)\n(goto 20)\n(done)\n(stop)\n)\n)\n"; writes = "(graph 0 10\n(node 0 10 0 (0) (in) (succ 6) (pred))\n(node 1 10 0 (1) (in) (succ 2) (pred 5))\n(node 2 20 1 (0) (in) (succ 3) (pred 1 7))\n(node 3 20 1 (1) (in) (succ 5) (pred 2 4))\n(node 4 20 1 (2) (in) (succ 3) (pred))\n(node 5 20 1 (3) (in) (succ 1) (pred 3))\n(node 6 40 2 (0) (in) (succ 7 9) (pred 0))\n(node 7 40 2 (1) (in) (succ 2) (pred 6))\n(node 8 40 2 (2) (in) (succ 9) (pred))\n(node 9 40 2 (3) (in) (succ) (pred 6 8))\n(entry 10 0)\n(entry 20 2)\n(entry 40 6)\n(returns 1)\n(back 0 1)\n)\n" } ∷
    record { text = "(module 0\n(line 10\n(ifelse\n(stmts\n(gosub 30)\n)\n(stmts\n(gosub 30)\n)\n)\n(gosub 30)\n(stop)\n)\n(line 30\n(return)\n)\n)\n"; writes = "(graph 0 6\n(node 0 10 0 (0) (in) (succ 1 2) (pred))\n(node 1 10 0 (0 0) (in 0) (succ 5) (pred 0))\n(node 2 10 0 (0 1) (in 0) (succ 5) (pred 0))\n(node 3 10 0 (1) (in) (succ 5) (pred 5))\n(node 4 10 0 (2) (in) (succ) (pred 5))\n(node 5 30 1 (0) (in) (succ 3 4) (pred 1 2 3))\n(entry 10 0)\n(entry 30 5)\n(returns 3 4)\n(back 1 3)\n(back 2 3)\n(back 3 4)\n)\n" } ∷
    record { text = "(module 0\n(line 10\n(gosub 20)\n(stop)\n)\n(line 20\n(gosub 30)\n(return)\n)\n(line 30\n(return)\n)\n)\n"; writes = "(graph 0 5\n(node 0 10 0 (0) (in) (succ 2) (pred))\n(node 1 10 0 (1) (in) (succ) (pred 3))\n(node 2 20 1 (0) (in) (succ 4) (pred 0))\n(node 3 20 1 (1) (in) (succ 1) (pred 4))\n(node 4 30 2 (0) (in) (succ 3) (pred 2))\n(entry 10 0)\n(entry 20 2)\n(entry 30 4)\n(returns 1 3)\n(back 0 1)\n(back 2 3)\n)\n" } ∷
    record { text = "(module 0\n(line 10\n(gosub 20)\n(stop)\n)\n(line 20\n(ongosub 30 40)\n(return)\n)\n(line 30\n(return)\n)\n(line 40\n(if\n(to 30)\n)\n(return)\n)\n)\n"; writes = "(graph 0 7\n(node 0 10 0 (0) (in) (succ 2) (pred))\n(node 1 10 0 (1) (in) (succ) (pred 3))\n(node 2 20 1 (0) (in) (succ 4 5 3) (pred 0))\n(node 3 20 1 (1) (in) (succ 1) (pred 2 4 6))\n(node 4 30 2 (0) (in) (succ 3) (pred 2 5))\n(node 5 40 3 (0) (in) (succ 4 6) (pred 2))\n(node 6 40 3 (1) (in) (succ 3) (pred 5))\n(entry 10 0)\n(entry 20 2)\n(entry 30 4)\n(entry 40 5)\n(returns 1 3)\n(back 0 1)\n(back 2 3)\n)\n" } ∷
    record { text = "(module 0\n(line 10\n(gosub 20)\n(stop)\n)\n(line 20\n(gosub 30)\n(stop)\n)\n(line 30\n(return)\n)\n)\n"; writes = "(graph 0 5\n(node 0 10 0 (0) (in) (succ 2) (pred))\n(node 1 10 0 (1) (in) (succ) (pred))\n(node 2 20 1 (0) (in) (succ 4) (pred 0))\n(node 3 20 1 (1) (in) (succ) (pred 4))\n(node 4 30 2 (0) (in) (succ 3) (pred 2))\n(entry 10 0)\n(entry 20 2)\n(entry 30 4)\n(returns 1 3)\n(back 0 1)\n(back 2 3)\n)\n" } ∷
    record { text = "(module 0\n(line 10\n(gosub 30)\n(gosub 20)\n(stop)\n)\n(line 20\n(return)\n)\n(line 30\n(return)\n(goto 20)\n)\n)\n"; writes = "(graph 0 6\n(node 0 10 0 (0) (in) (succ 4) (pred))\n(node 1 10 0 (1) (in) (succ 3) (pred 4))\n(node 2 10 0 (2) (in) (succ) (pred 3))\n(node 3 20 1 (0) (in) (succ 2) (pred 1 5))\n(node 4 30 2 (0) (in) (succ 1) (pred 0))\n(node 5 30 2 (1) (in) (succ 3) (pred))\n(entry 10 0)\n(entry 20 3)\n(entry 30 4)\n(returns 1 2)\n(back 0 1)\n(back 1 2)\n)\n" } ∷
    record { text = "(module 0\n(line 10\n(gosub 30)\n(any)\n)\n(line 20\n(return)\n)\n(line 30\n(return)\n)\n)\n"; writes = "(graph 0 4\n(node 0 10 0 (0) (in) (succ 3) (pred 1))\n(node 1 10 0 (1) (in) (succ 0 2 3) (pred 3))\n(node 2 20 1 (0) (in) (succ) (pred 1))\n(node 3 30 2 (0) (in) (succ 1) (pred 0 1))\n(entry 10 0)\n(entry 20 2)\n(entry 30 3)\n(returns 1)\n(back 0 1)\n)\n" } ∷
    record { text = "(module 0\n(line 10\n(for I static)\n(clr)\n(run)\n(next plain I)\n(stop)\n)\n)\n"; writes = "(graph 0 5\n(node 0 10 0 (0) (in) (succ 1) (pred 2))\n(node 1 10 0 (1) (in) (succ 2) (pred 0 3))\n(node 2 10 0 (2) (in) (succ 0) (pred 1))\n(node 3 10 0 (3) (in) (succ 1 4) (pred))\n(node 4 10 0 (4) (in) (succ) (pred 3))\n(entry 10 0)\n(returns)\n)\n" } ∷
    record { text = "(module 0\n(line 10\n(for I static)\n(stop)\n(return)\n(goto 10)\n(next plain *)\n)\n)\n"; writes = "(graph 0 5\n(node 0 10 0 (0) (in) (succ 1) (pred 3))\n(node 1 10 0 (1) (in) (succ) (pred 0 4))\n(node 2 10 0 (2) (in) (succ) (pred))\n(node 3 10 0 (3) (in) (succ 0) (pred))\n(node 4 10 0 (4) (in) (succ 1) (pred))\n(entry 10 0)\n(returns)\n)\n" } ∷
    record { text = "(module 0\n(line 10\n(repeat)\n(clr)\n(any)\n(doif)\n(run)\n(stop)\n(done)\n(until)\n(plain)\n)\n)\n"; writes = "(graph 0 9\n(node 0 10 0 (0) (in) (succ 1) (pred 2 4))\n(node 1 10 0 (1) (in) (succ 2) (pred 0 7))\n(node 2 10 0 (2) (in) (succ 0) (pred 1))\n(node 3 10 0 (3) (in) (succ 4 7) (pred))\n(node 4 10 0 (4) (in) (succ 0) (pred 3))\n(node 5 10 0 (5) (in) (succ) (pred))\n(node 6 10 0 (6) (in) (succ 7) (pred))\n(node 7 10 0 (7) (in) (succ 1 8) (pred 3 6))\n(node 8 10 0 (8) (in) (succ) (pred 7))\n(entry 10 0)\n(returns)\n)\n" } ∷
    record { text = "(module 0\n(line 10\n(for I static)\n(for J static)\n(for I static)\n(next plain *)\n(next plain *)\n(stop)\n)\n)\n"; writes = "(graph 0 6\n(node 0 10 0 (0) (in) (succ 1) (pred))\n(node 1 10 0 (1) (in) (succ 2) (pred 0))\n(node 2 10 0 (2) (in) (succ 3) (pred 1))\n(node 3 10 0 (3) (in) (succ 3 4) (pred 2 3))\n(node 4 10 0 (4) (in) (succ 5) (pred 3))\n(node 5 10 0 (5) (in) (succ) (pred 4))\n(entry 10 0)\n(returns)\n)\n" } ∷
    record { text = "(module 0\n(line 10\n(for I static)\n(for J static)\n(for J static)\n(next plain *)\n(next plain *)\n(stop)\n)\n)\n"; writes = "(graph 0 6\n(node 0 10 0 (0) (in) (succ 1) (pred))\n(node 1 10 0 (1) (in) (succ 2) (pred 0 4))\n(node 2 10 0 (2) (in) (succ 3) (pred 1))\n(node 3 10 0 (3) (in) (succ 3 4) (pred 2 3))\n(node 4 10 0 (4) (in) (succ 1 5) (pred 3))\n(node 5 10 0 (5) (in) (succ) (pred 4))\n(entry 10 0)\n(returns)\n)\n" } ∷
    record { text = "(module 0\n(line 10\n(for I static)\n(if\n(stmts\n(next plain I)\n(plain)\n)\n)\n(next plain I)\n(stop)\n)\n)\n"; writes = "(graph 0 6\n(node 0 10 0 (0) (in) (succ 1) (pred))\n(node 1 10 0 (1) (in) (succ 2 4) (pred 0 2))\n(node 2 10 0 (1 0) (in 1) (succ 1 3) (pred 1))\n(node 3 10 0 (1 1) (in 1) (succ 4) (pred 2))\n(node 4 10 0 (2) (in) (succ 5) (pred 1 3))\n(node 5 10 0 (3) (in) (succ) (pred 4))\n(entry 10 0)\n(returns)\n)\n" } ∷
    record { text = "(module 0\n(line 10\n(for I dispatched)\n(next plain I)\n(plain)\n(next orphan I)\n(ongoto 20 10)\n)\n(line 20\n(ongoto 30 10)\n)\n(line 30\n(stop)\n)\n)\n"; writes = "(graph 0 7\n(node 0 10 0 (0) (in) (succ 1) (pred 4 5))\n(node 1 10 0 (1) (in) (succ 1 2) (pred 0 1 3))\n(node 2 10 0 (2) (in) (succ 3) (pred 1))\n(node 3 10 0 (3) (in) (succ 4 1) (pred 2))\n(node 4 10 0 (4) (in) (succ 5 0) (pred 3))\n(node 5 20 1 (0) (in) (succ 6 0) (pred 4))\n(node 6 30 2 (0) (in) (succ) (pred 5))\n(entry 10 0)\n(entry 20 5)\n(entry 30 6)\n(returns)\n)\n" } ∷
    record { text = "(module 0\n(line 10\n(for J static)\n(for I static)\n(plain)\n(next plain I J)\n(stop)\n)\n)\n"; writes = "(graph 0 5\n(node 0 10 0 (0) (in) (succ 1) (pred))\n(node 1 10 0 (1) (in) (succ 2) (pred 0 3))\n(node 2 10 0 (2) (in) (succ 3) (pred 1 3))\n(node 3 10 0 (3) (in) (succ 2 1 4) (pred 2))\n(node 4 10 0 (4) (in) (succ) (pred 3))\n(entry 10 0)\n(returns)\n)\n" } ∷
    record { text = "(module 0\n(line 10\n(for I dispatched)\n)\n(line 20\n(plain)\n)\n(line 30\n(next orphan I)\n)\n(line 40\n(ongoto 20 40)\n)\n)\n"; writes = "(graph 0 4\n(node 0 10 0 (0) (in) (succ 1) (pred))\n(node 1 20 1 (0) (in) (succ 2) (pred 0 2 3))\n(node 2 30 2 (0) (in) (succ 1 3) (pred 1))\n(node 3 40 3 (0) (in) (succ 1 3) (pred 2 3))\n(entry 10 0)\n(entry 20 1)\n(entry 30 2)\n(entry 40 3)\n(returns)\n)\n" } ∷
    record { text = "(module 0\n(line 10\n(for I static)\n(clr)\n(run)\n(gosub 10)\n(ongosub 10 20)\n(next plain I)\n(return)\n)\n(line 20\n(for I% static)\n(next plain)\n)\n)\n"; writes = "(graph 0 9\n(node 0 10 0 (0) (in) (succ 1) (pred 2 3 4))\n(node 1 10 0 (1) (in) (succ 2) (pred 0 5))\n(node 2 10 0 (2) (in) (succ 0) (pred 1))\n(node 3 10 0 (3) (in) (succ 0) (pred))\n(node 4 10 0 (4) (in) (succ 0 7 5) (pred))\n(node 5 10 0 (5) (in) (succ 1 6) (pred 4))\n(node 6 10 0 (6) (in) (succ) (pred 5))\n(node 7 20 1 (0) (in) (succ 8) (pred 4))\n(node 8 20 1 (1) (in) (succ) (pred 7))\n(entry 10 0)\n(entry 20 7)\n(returns 4 5)\n(back 3 4)\n(back 4 5)\n)\n" } ∷
    record { text = "(module 0\n(line 10\n(if\n(stmts\n(ifelse\n(stmts\n(gosub 50)\n)\n(stmts\n(ongosub 50 99)\n(plain)\n)\n)\n)\n)\n(gosub 50)\n(stop)\n)\n(line 50\n(return)\n)\n)\n"; writes = "(graph 0 8\n(node 0 10 0 (0) (in) (succ 1 5) (pred))\n(node 1 10 0 (0 0) (in 0) (succ 2 3) (pred 0))\n(node 2 10 0 (0 0 0) (in 1) (succ 7) (pred 1))\n(node 3 10 0 (0 0 1) (in 1) (succ 7 4) (pred 1))\n(node 4 10 0 (0 0 2) (in 1) (succ 5) (pred 3 7))\n(node 5 10 0 (1) (in) (succ 7) (pred 0 4 7))\n(node 6 10 0 (2) (in) (succ) (pred 7))\n(node 7 50 1 (0) (in) (succ 4 5 6) (pred 2 3 5))\n(entry 10 0)\n(entry 50 7)\n(returns 5 4 6)\n(back 2 5)\n(back 3 4)\n(back 5 6)\n)\n" } ∷
    record { text = "(module 1\n(line 10\n(if\n(stmts\n(ifelse\n(stmts\n(gosub 50)\n)\n(stmts\n(ongosub 50 99)\n(plain)\n)\n)\n)\n)\n(gosub 50)\n(stop)\n)\n(line 50\n(return)\n)\n)\n"; writes = "(graph 0 8\n(node 0 10 0 (0) (in) (succ 1 5) (pred))\n(node 1 10 0 (0 0) (in 0) (succ 2 3) (pred 0))\n(node 2 10 0 (0 0 0) (in 1) (succ 7) (pred 1))\n(node 3 10 0 (0 0 1) (in 1) (succ 7 4) (pred 1))\n(node 4 10 0 (0 0 2) (in 1) (succ 5) (pred 3 7))\n(node 5 10 0 (1) (in) (succ 7) (pred 0 4 7))\n(node 6 10 0 (2) (in) (succ) (pred 7))\n(node 7 50 1 (0) (in) (succ 5 4 6) (pred 2 3 5))\n(entry 10 0)\n(entry 50 7)\n(returns 5 4 6)\n(back 2 5)\n(back 3 4)\n(back 5 6)\n)\n" } ∷
    record { text = "(module 1\n(line 10\n(ifelse\n(stmts\n(gosub 50)\n)\n(stmts\n(gosub 50)\n)\n)\n(any)\n)\n(line 50\n(return)\n(return)\n)\n)\n"; writes = "(graph 0 6\n(node 0 10 0 (0) (in) (succ 1 2) (pred 3))\n(node 1 10 0 (0 0) (in 0) (succ 4) (pred 0))\n(node 2 10 0 (0 1) (in 0) (succ 4) (pred 0))\n(node 3 10 0 (1) (in) (succ 0 4) (pred 4 5))\n(node 4 50 1 (0) (in) (succ 3) (pred 1 2 3))\n(node 5 50 1 (1) (in) (succ 3) (pred))\n(entry 10 0)\n(entry 50 4)\n(returns 3)\n(back 1 3)\n(back 2 3)\n)\n" } ∷
    record { text = "(module 0\n(line 1\n(any)\n)\n(line 2\n(any)\n)\n(line 3\n(any)\n(any)\n)\n(line 4\n(any)\n)\n)\n"; writes = "(graph 0 5\n(node 0 1 0 (0) (in) (succ 0 1 2 4) (pred 0 1 2 3 4))\n(node 1 2 1 (0) (in) (succ 0 1 2 4) (pred 0 1 2 3 4))\n(node 2 3 2 (0) (in) (succ 0 1 2 4) (pred 0 1 2 3 4))\n(node 3 3 2 (1) (in) (succ 0 1 2 4) (pred))\n(node 4 4 3 (0) (in) (succ 0 1 2 4) (pred 0 1 2 3 4))\n(entry 1 0)\n(entry 2 1)\n(entry 3 2)\n(entry 4 4)\n(returns)\n)\n" } ∷
    record { text = "(module 0\n(line 1\n(gosub 9)\n(gosub 9)\n(gosub 9)\n(gosub 9)\n(stop)\n)\n(line 9\n(if\n(stmts\n(return)\n)\n)\n(if\n(stmts\n(return)\n)\n)\n(return)\n)\n)\n"; writes = "(graph 0 10\n(node 0 1 0 (0) (in) (succ 5) (pred))\n(node 1 1 0 (1) (in) (succ 5) (pred 6 8 9))\n(node 2 1 0 (2) (in) (succ 5) (pred 6 8 9))\n(node 3 1 0 (3) (in) (succ 5) (pred 6 8 9))\n(node 4 1 0 (4) (in) (succ) (pred 6 8 9))\n(node 5 9 1 (0) (in) (succ 6 7) (pred 0 1 2 3))\n(node 6 9 1 (0 0) (in 5) (succ 1 2 3 4) (pred 5))\n(node 7 9 1 (1) (in) (succ 8 9) (pred 5))\n(node 8 9 1 (1 0) (in 7) (succ 1 2 3 4) (pred 7))\n(node 9 9 1 (2) (in) (succ 1 2 3 4) (pred 7))\n(entry 1 0)\n(entry 9 5)\n(returns 1 2 3 4)\n(back 0 1)\n(back 1 2)\n(back 2 3)\n(back 3 4)\n)\n" } ∷
    record { text = "(module 0\n(line 1\n(gosub 2)\n)\n(line 2\n(gosub 3)\n)\n(line 3\n(gosub 1)\n(any)\n)\n(line 4\n(return)\n)\n)\n"; writes = "(graph 0 5\n(node 0 1 0 (0) (in) (succ 1) (pred 2 3))\n(node 1 2 1 (0) (in) (succ 2) (pred 0 3 4))\n(node 2 3 2 (0) (in) (succ 0) (pred 1 3 4))\n(node 3 3 2 (1) (in) (succ 0 1 2 4) (pred 4))\n(node 4 4 3 (0) (in) (succ 1 2 3) (pred 3))\n(entry 1 0)\n(entry 2 1)\n(entry 3 2)\n(entry 4 4)\n(returns 1 2 3)\n(back 0 1)\n(back 1 2)\n(back 2 3)\n)\n" } ∷
    record { text = "(module 0\n(line 1\n(for I dispatched)\n(for J dispatched)\n(for K dispatched)\n(next orphan * * * *)\n(next orphan * J)\n(next plain * *)\n)\n)\n"; writes = "(graph 0 6\n(node 0 1 0 (0) (in) (succ 1) (pred))\n(node 1 1 0 (1) (in) (succ 2) (pred 0 3 4))\n(node 2 1 0 (2) (in) (succ 3) (pred 1 3 4))\n(node 3 1 0 (3) (in) (succ 3 2 1 4) (pred 2 3 4))\n(node 4 1 0 (4) (in) (succ 5 1 2 3) (pred 3))\n(node 5 1 0 (5) (in) (succ) (pred 4))\n(entry 1 0)\n(returns)\n)\n" } ∷
    record { text = "(module 0\n(line 1\n(repeat)\n(loop)\n(repeat)\n(loop)\n(exit)\n(exitif)\n(until)\n(endloop)\n(until)\n(endloop)\n(stop)\n)\n)\n"; writes = "(graph 0 11\n(node 0 1 0 (0) (in) (succ 1) (pred))\n(node 1 1 0 (1) (in) (succ 2) (pred 0 9))\n(node 2 1 0 (2) (in) (succ 3) (pred 1 8))\n(node 3 1 0 (3) (in) (succ 4) (pred 2 7))\n(node 4 1 0 (4) (in) (succ 7) (pred 3 6))\n(node 5 1 0 (5) (in) (succ 6 7) (pred))\n(node 6 1 0 (6) (in) (succ 4 7) (pred 5))\n(node 7 1 0 (7) (in) (succ 3) (pred 4 5 6))\n(node 8 1 0 (8) (in) (succ 2 9) (pred))\n(node 9 1 0 (9) (in) (succ 1) (pred 8))\n(node 10 1 0 (10) (in) (succ) (pred))\n(entry 1 0)\n(returns)\n)\n" } ∷
    record { text = "(module 0\n(line 1\n(for I static)\n(for J static)\n(for K static)\n(next plain I)\n(next plain *)\n)\n)\n"; writes = "(graph 0 5\n(node 0 1 0 (0) (in) (succ 1) (pred))\n(node 1 1 0 (1) (in) (succ 2) (pred 0 3))\n(node 2 1 0 (2) (in) (succ 3) (pred 1))\n(node 3 1 0 (3) (in) (succ 1 4) (pred 2))\n(node 4 1 0 (4) (in) (succ) (pred 3))\n(entry 1 0)\n(returns)\n)\n" } ∷
    record { text = "(module 0\n(line 1\n(if\n(stmts\n(if\n(stmts\n(if\n(stmts\n(if\n(stmts\n(if\n(stmts\n(gosub 1)\n)\n)\n)\n)\n)\n)\n)\n)\n)\n)\n(return)\n)\n)\n"; writes = "(graph 0 7\n(node 0 1 0 (0) (in) (succ 1 6) (pred 5))\n(node 1 1 0 (0 0) (in 0) (succ 2 6) (pred 0))\n(node 2 1 0 (0 0 0) (in 1) (succ 3 6) (pred 1))\n(node 3 1 0 (0 0 0 0) (in 2) (succ 4 6) (pred 2))\n(node 4 1 0 (0 0 0 0 0) (in 3) (succ 5 6) (pred 3))\n(node 5 1 0 (0 0 0 0 0 0) (in 4) (succ 0) (pred 4))\n(node 6 1 0 (1) (in) (succ 6) (pred 0 1 2 3 4 6))\n(entry 1 0)\n(returns 6)\n(back 5 6)\n)\n" } ∷
    record { text = "(module 0\n(line 1\n(if\n(stmts\n(if\n(stmts\n(if\n(stmts\n(if\n(stmts\n(if\n(stmts\n(if\n(stmts\n(if\n(stmts\n(if\n(stmts\n(if\n(stmts\n(if\n(stmts\n(if\n(stmts\n(if\n(stmts\n(if\n(stmts\n(if\n(stmts\n(if\n(stmts\n(if\n(stmts\n(plain)\n)\n)\n)\n)\n)\n)\n)\n)\n)\n)\n)\n)\n)\n)\n)\n)\n)\n)\n)\n)\n)\n)\n)\n)\n)\n)\n)\n)\n)\n)\n)\n)\n)\n)\n"; writes = "(graph 0 17\n(node 0 1 0 (0) (in) (succ 1) (pred))\n(node 1 1 0 (0 0) (in 0) (succ 2) (pred 0))\n(node 2 1 0 (0 0 0) (in 1) (succ 3) (pred 1))\n(node 3 1 0 (0 0 0 0) (in 2) (succ 4) (pred 2))\n(node 4 1 0 (0 0 0 0 0) (in 3) (succ 5) (pred 3))\n(node 5 1 0 (0 0 0 0 0 0) (in 4) (succ 6) (pred 4))\n(node 6 1 0 (0 0 0 0 0 0 0) (in 5) (succ 7) (pred 5))\n(node 7 1 0 (0 0 0 0 0 0 0 0) (in 6) (succ 8) (pred 6))\n(node 8 1 0 (0 0 0 0 0 0 0 0 0) (in 7) (succ 9) (pred 7))\n(node 9 1 0 (0 0 0 0 0 0 0 0 0 0) (in 8) (succ 10) (pred 8))\n(node 10 1 0 (0 0 0 0 0 0 0 0 0 0 0) (in 9) (succ 11) (pred 9))\n(node 11 1 0 (0 0 0 0 0 0 0 0 0 0 0 0) (in 10) (succ 12) (pred 10))\n(node 12 1 0 (0 0 0 0 0 0 0 0 0 0 0 0 0) (in 11) (succ 13) (pred 11))\n(node 13 1 0 (0 0 0 0 0 0 0 0 0 0 0 0 0 0) (in 12) (succ 14) (pred 12))\n(node 14 1 0 (0 0 0 0 0 0 0 0 0 0 0 0 0 0 0) (in 13) (succ 15) (pred 13))\n(node 15 1 0 (0 0 0 0 0 0 0 0 0 0 0 0 0 0 0 0) (in 14) (succ 16) (pred 14))\n(node 16 1 0 (0 0 0 0 0 0 0 0 0 0 0 0 0 0 0 0 0) (in 15) (succ) (pred 15))\n(entry 1 0)\n(returns)\n)\n" } ∷
    record { text = "(module 0\n(line 1\n(if\n(stmts\n(if\n(stmts\n(if\n(stmts\n(if\n(stmts\n(if\n(stmts\n(if\n(stmts\n(if\n(stmts\n(if\n(stmts\n(if\n(stmts\n(if\n(stmts\n(if\n(stmts\n(if\n(stmts\n(if\n(stmts\n(if\n(stmts\n(if\n(stmts\n(rcomp\n(to 1)\n(stmts\n(if\n(to 1)\n)\n)\n)\n)\n)\n)\n)\n)\n)\n)\n)\n)\n)\n)\n)\n)\n)\n)\n)\n)\n)\n)\n)\n)\n)\n)\n)\n)\n)\n)\n)\n)\n)\n)\n)\n"; writes = "(graph 0 17\n(node 0 1 0 (0) (in) (succ 1) (pred 15 16))\n(node 1 1 0 (0 0) (in 0) (succ 2) (pred 0))\n(node 2 1 0 (0 0 0) (in 1) (succ 3) (pred 1))\n(node 3 1 0 (0 0 0 0) (in 2) (succ 4) (pred 2))\n(node 4 1 0 (0 0 0 0 0) (in 3) (succ 5) (pred 3))\n(node 5 1 0 (0 0 0 0 0 0) (in 4) (succ 6) (pred 4))\n(node 6 1 0 (0 0 0 0 0 0 0) (in 5) (succ 7) (pred 5))\n(node 7 1 0 (0 0 0 0 0 0 0 0) (in 6) (succ 8) (pred 6))\n(node 8 1 0 (0 0 0 0 0 0 0 0 0) (in 7) (succ 9) (pred 7))\n(node 9 1 0 (0 0 0 0 0 0 0 0 0 0) (in 8) (succ 10) (pred 8))\n(node 10 1 0 (0 0 0 0 0 0 0 0 0 0 0) (in 9) (succ 11) (pred 9))\n(node 11 1 0 (0 0 0 0 0 0 0 0 0 0 0 0) (in 10) (succ 12) (pred 10))\n(node 12 1 0 (0 0 0 0 0 0 0 0 0 0 0 0 0) (in 11) (succ 13) (pred 11))\n(node 13 1 0 (0 0 0 0 0 0 0 0 0 0 0 0 0 0) (in 12) (succ 14) (pred 12))\n(node 14 1 0 (0 0 0 0 0 0 0 0 0 0 0 0 0 0 0) (in 13) (succ 15) (pred 13))\n(node 15 1 0 (0 0 0 0 0 0 0 0 0 0 0 0 0 0 0 0) (in 14) (succ 0 16) (pred 14))\n(node 16 1 0 (0 0 0 0 0 0 0 0 0 0 0 0 0 0 0 0 0) (in 15) (succ 0) (pred 15))\n(entry 1 0)\n(returns)\n)\n" } ∷
    record { text = "(module 0\n(line 0\n(ongoto 0 0 0 0 0 0 0 0 0 0 0 0 0 0 0 0 0 0 0 0 0 0 0 0 0 0 0 0 0 0 0 0 0 0 0 0 0 0 0 0 0 0 0 0 0 0 0 0 0 0 0 0 0 0 0 0 0 0 0 0 0 0 0 9)\n(stop)\n)\n)\n"; writes = "(graph 0 2\n(node 0 0 0 (0) (in) (succ 0 1) (pred 0))\n(node 1 0 0 (1) (in) (succ) (pred 0))\n(entry 0 0)\n(returns)\n)\n" } ∷
    record { text = "(module 0\n(line 0\n(ongosub 9 9 9 9 9 9 9 9 9 9 9 9 9 9 9 9 9 9 9 9 9 9 9 9 9 9 9 9 9 9 9 9 9 9 9 9 9 9 9 9 9 9 9 9 9 9 9 9 9 9 9 9 9 9 9 9 9 9 9 9 9 9 9 0)\n(return)\n)\n)\n"; writes = "(graph 0 2\n(node 0 0 0 (0) (in) (succ 0 1) (pred 0))\n(node 1 0 0 (1) (in) (succ 1) (pred 0 1))\n(entry 0 0)\n(returns 1)\n(back 0 1)\n)\n" } ∷
    record { text = "(module 0\n(line 0\n(for I static)\n(for J static)\n(next plain * * * * * * * * * * * * * * * * * * * * * * * * * * * * * * * * * * * * * * * * * * * * * * * * * * * * * * * * * * * * * * * I)\n(stop)\n)\n)\n"; writes = "(graph 0 4\n(node 0 0 0 (0) (in) (succ 1) (pred))\n(node 1 0 0 (1) (in) (succ 2) (pred 0 2))\n(node 2 0 0 (2) (in) (succ 2 1 3) (pred 1 2))\n(node 3 0 0 (3) (in) (succ) (pred 2))\n(entry 0 0)\n(returns)\n)\n" } ∷
    record { text = "(module 0\n(line 0\n(for I dispatched)\n(for J dispatched)\n(next orphan J J J J J J J J J J J J J J J J J J J J J J J J J J J J J J J J J J J J J J J J J J J J J J J J J J J J J J J J J J J J J J J I)\n(stop)\n)\n)\n"; writes = "(graph 0 4\n(node 0 0 0 (0) (in) (succ 1) (pred))\n(node 1 0 0 (1) (in) (succ 2) (pred 0 2))\n(node 2 0 0 (2) (in) (succ 2 1 3) (pred 1 2))\n(node 3 0 0 (3) (in) (succ) (pred 2))\n(entry 0 0)\n(returns)\n)\n" } ∷
    record { text = "(module 1\n)\n"; writes = "(graph 0 0\n(returns)\n)\n" } ∷
    record { text = "(module 1\n(line 10\n(gosub 20)\n(stop)\n)\n(line 20\n(return)\n)\n)\n"; writes = "(graph 0 3\n(node 0 10 0 (0) (in) (succ 2) (pred))\n(node 1 10 0 (1) (in) (succ) (pred 2))\n(node 2 20 1 (0) (in) (succ 1) (pred 0))\n(entry 10 0)\n(entry 20 2)\n(returns 1)\n(back 0 1)\n)\n" } ∷
    []

right-table : T (right table)
unfolding opened right table
right-table = tt
