-- Random listings with the original's graphs. Assumes nothing.
use Rattle.std.specs.Prelude.{List, [], ◌∷◌, true, false, T}
use Rattle.vectors.specs.Vector.{Vector, right, opened}

table : List Vector
table =
    record { text = "(module 0\n(line 10\n(ifelse\n(to 10)\n(to 10)\n)\n(gosub 10)\n(ongosub 10 10)\n(return)\n)\n)\n"; writes = "(graph 0 4\n(node 0 10 0 (0) (in) (succ 0) (pred 0 1 2))\n(node 1 10 0 (1) (in) (succ 0) (pred))\n(node 2 10 0 (2) (in) (succ 0 3) (pred))\n(node 3 10 0 (3) (in) (succ) (pred 2))\n(entry 10 0)\n(returns 2 3)\n(back 1 2)\n(back 2 3)\n)\n" } ∷
    record { text = "(module 0\n(line 0\n(doif)\n(endloop)\n)\n(line 10\n(exitif)\n(next orphan COUNTERS)\n(for COUNT dispatched)\n)\n)\n"; writes = "(graph 0 5\n(node 0 0 0 (0) (in) (succ 1) (pred))\n(node 1 0 0 (1) (in) (succ) (pred 0))\n(node 2 10 1 (0) (in) (succ 3) (pred))\n(node 3 10 1 (1) (in) (succ 4) (pred 2))\n(node 4 10 1 (2) (in) (succ) (pred 3))\n(entry 0 0)\n(entry 10 2)\n(returns)\n)\n" } ∷
    record { text = "(module 0\n(line 40\n(any)\n(for Z9 static)\n(done)\n(next plain *)\n)\n)\n"; writes = "(graph 0 4\n(node 0 40 0 (0) (in) (succ 0) (pred 0))\n(node 1 40 0 (1) (in) (succ 2) (pred))\n(node 2 40 0 (2) (in) (succ 3) (pred 1 3))\n(node 3 40 0 (3) (in) (succ 2) (pred 2))\n(entry 40 0)\n(returns)\n)\n" } ∷
    record { text = "(module 0\n(line 10\n(ongosub 10 10)\n(stop)\n(return)\n)\n)\n"; writes = "(graph 0 3\n(node 0 10 0 (0) (in) (succ 0 1) (pred 0))\n(node 1 10 0 (1) (in) (succ) (pred 0))\n(node 2 10 0 (2) (in) (succ) (pred))\n(entry 10 0)\n(returns 1)\n(back 0 1)\n)\n" } ∷
    record { text = "(module 0\n(line 10\n(return)\n(next plain Z9)\n(ongosub 10 10)\n)\n(line 40\n(for Z9 static)\n)\n)\n"; writes = "(graph 0 4\n(node 0 10 0 (0) (in) (succ 3) (pred 2))\n(node 1 10 0 (1) (in) (succ 2) (pred))\n(node 2 10 0 (2) (in) (succ 0 3) (pred 1))\n(node 3 40 1 (0) (in) (succ) (pred 0 2))\n(entry 10 0)\n(entry 40 3)\n(returns 3)\n(back 2 3)\n)\n" } ∷
    record { text = "(module 1\n(line 65535\n(any)\n)\n)\n"; writes = "(graph 0 1\n(node 0 65535 0 (0) (in) (succ 0) (pred 0))\n(entry 65535 0)\n(returns)\n)\n" } ∷
    record { text = "(module 0\n(line 0\n(doif)\n(else)\n(plain)\n(plain)\n(doif)\n)\n(line 40\n(endloop)\n(next plain AB%)\n)\n(line 999\n(repeat)\n(done)\n(for ABCDEFGH% static)\n(else)\n)\n)\n"; writes = "(graph 0 11\n(node 0 0 0 (0) (in) (succ 1 2) (pred))\n(node 1 0 0 (1) (in) (succ) (pred 0))\n(node 2 0 0 (2) (in) (succ 3) (pred 0))\n(node 3 0 0 (3) (in) (succ 4) (pred 2))\n(node 4 0 0 (4) (in) (succ 5 9) (pred 3))\n(node 5 40 1 (0) (in) (succ) (pred 4))\n(node 6 40 1 (1) (in) (succ 7) (pred))\n(node 7 999 2 (0) (in) (succ 8) (pred 6))\n(node 8 999 2 (1) (in) (succ 9) (pred 7))\n(node 9 999 2 (2) (in) (succ 10) (pred 4 8))\n(node 10 999 2 (3) (in) (succ) (pred 9))\n(entry 0 0)\n(entry 40 5)\n(entry 999 7)\n(returns)\n)\n" } ∷
    record { text = "(module 1\n(line 5\n(plain)\n)\n(line 65535\n(rcomp\n(stmts\n(loop)\n)\n)\n(clr)\n(clr)\n(ongoto 5)\n(rcomp\n(to 10)\n)\n(else)\n)\n)\n"; writes = "(graph 0 8\n(node 0 5 0 (0) (in) (succ 1) (pred 5))\n(node 1 65535 1 (0) (in) (succ 2 3) (pred 0))\n(node 2 65535 1 (0 0) (in 1) (succ 3) (pred 1))\n(node 3 65535 1 (1) (in) (succ 4) (pred 1 2))\n(node 4 65535 1 (2) (in) (succ 5) (pred 3))\n(node 5 65535 1 (3) (in) (succ 0 6) (pred 4))\n(node 6 65535 1 (4) (in) (succ 7) (pred 5))\n(node 7 65535 1 (5) (in) (succ) (pred 6))\n(entry 5 0)\n(entry 65535 1)\n(returns)\n)\n" } ∷
    record { text = "(module 0\n(line 0\n(for COUNT dispatched)\n(exitif)\n(gosub 100)\n)\n(line 100\n(done)\n(rcomp\n(stmts\n(for N% dispatched)\n)\n)\n(return)\n)\n)\n"; writes = "(graph 0 7\n(node 0 0 0 (0) (in) (succ 1) (pred))\n(node 1 0 0 (1) (in) (succ 2) (pred 0))\n(node 2 0 0 (2) (in) (succ 3) (pred 1))\n(node 3 100 1 (0) (in) (succ 4) (pred 2 6))\n(node 4 100 1 (1) (in) (succ 5 6) (pred 3))\n(node 5 100 1 (1 0) (in 4) (succ 6) (pred 4))\n(node 6 100 1 (2) (in) (succ 3) (pred 4 5))\n(entry 0 0)\n(entry 100 3)\n(returns 3)\n(back 2 3)\n)\n" } ∷
    record { text = "(module 1\n(line 100\n(ifelse\n(stmts\n)\n(stmts\n(ifelse\n(stmts\n)\n(stmts\n(return)\n(if\n(stmts\n(return)\n)\n)\n)\n)\n)\n)\n)\n(line 65534\n(any)\n)\n(line 65535\n)\n)\n"; writes = "(graph 0 6\n(node 0 100 0 (0) (in) (succ 5 1) (pred 5))\n(node 1 100 0 (0 0) (in 0) (succ 5 2) (pred 0))\n(node 2 100 0 (0 0 0) (in 1) (succ) (pred 1))\n(node 3 100 0 (0 0 1) (in 1) (succ 4 5) (pred))\n(node 4 100 0 (0 0 1 0) (in 3) (succ) (pred 3))\n(node 5 65534 1 (0) (in) (succ 0 5) (pred 0 1 3 5))\n(entry 100 0)\n(entry 65534 5)\n(returns)\n)\n" } ∷
    record { text = "(module 0\n(line 0\n(gosub 0)\n(return)\n)\n)\n"; writes = "(graph 0 2\n(node 0 0 0 (0) (in) (succ 0) (pred 0))\n(node 1 0 0 (1) (in) (succ 1) (pred 1))\n(entry 0 0)\n(returns 1)\n(back 0 1)\n)\n" } ∷
    record { text = "(module 0\n(line 30\n(next plain LOOPVAR2)\n(next orphan LO LOOPVAR1)\n(gosub 30)\n(next orphan LOOPVAR2)\n(for LO static)\n)\n)\n"; writes = "(graph 0 5\n(node 0 30 0 (0) (in) (succ 1) (pred 2))\n(node 1 30 0 (1) (in) (succ 2) (pred 0))\n(node 2 30 0 (2) (in) (succ 0) (pred 1))\n(node 3 30 0 (3) (in) (succ 4) (pred))\n(node 4 30 0 (4) (in) (succ) (pred 3))\n(entry 30 0)\n(returns 3)\n(back 2 3)\n)\n" } ∷
    record { text = "(module 1\n(line 20\n(ongosub 40 40)\n(gosub 40)\n(return)\n)\n(line 40\n(next orphan N)\n(gosub 40)\n(return)\n(plain)\n)\n)\n"; writes = "(graph 0 7\n(node 0 20 0 (0) (in) (succ 3 1) (pred))\n(node 1 20 0 (1) (in) (succ 3) (pred 0 2 5))\n(node 2 20 0 (2) (in) (succ 1 2 5) (pred 2 5))\n(node 3 40 1 (0) (in) (succ 4) (pred 0 1 4))\n(node 4 40 1 (1) (in) (succ 3) (pred 3))\n(node 5 40 1 (2) (in) (succ 1 2 5) (pred 2 5))\n(node 6 40 1 (3) (in) (succ) (pred))\n(entry 20 0)\n(entry 40 3)\n(returns 1 2 5)\n(back 0 1)\n(back 1 2)\n(back 4 5)\n)\n" } ∷
    record { text = "(module 0\n(line 65534\n(clr)\n)\n)\n"; writes = "(graph 0 1\n(node 0 65534 0 (0) (in) (succ) (pred))\n(entry 65534 0)\n(returns)\n)\n" } ∷
    record { text = "(module 0\n(line 1\n(exit)\n(return)\n(for Z99% static)\n)\n(line 20\n(if\n(stmts\n)\n)\n(ongosub 1 20 20 20)\n(gosub 20)\n(gosub 20)\n(gosub 20)\n(return)\n(next plain *)\n)\n)\n"; writes = "(graph 0 10\n(node 0 1 0 (0) (in) (succ) (pred 4))\n(node 1 1 0 (1) (in) (succ) (pred))\n(node 2 1 0 (2) (in) (succ 3) (pred))\n(node 3 20 1 (0) (in) (succ 4) (pred 2 4 5 6 7 9))\n(node 4 20 1 (1) (in) (succ 0 3 5) (pred 3))\n(node 5 20 1 (2) (in) (succ 3) (pred 4 8))\n(node 6 20 1 (3) (in) (succ 3) (pred 8))\n(node 7 20 1 (4) (in) (succ 3) (pred 8))\n(node 8 20 1 (5) (in) (succ 5 6 7 8) (pred 8))\n(node 9 20 1 (6) (in) (succ 3) (pred))\n(entry 1 0)\n(entry 20 3)\n(returns 5 6 7 8)\n(back 4 5)\n(back 5 6)\n(back 6 7)\n(back 7 8)\n)\n" } ∷
    record { text = "(module 0\n(line 5\n(any)\n(clr)\n(gosub 5)\n(return)\n(gosub 5)\n(exit)\n(return)\n(ifelse\n(to 5)\n(stmts\n)\n)\n(return)\n)\n)\n"; writes = "(graph 0 9\n(node 0 5 0 (0) (in) (succ 0) (pred 0 2 4 7))\n(node 1 5 0 (1) (in) (succ 2) (pred))\n(node 2 5 0 (2) (in) (succ 0) (pred 1))\n(node 3 5 0 (3) (in) (succ) (pred))\n(node 4 5 0 (4) (in) (succ 0) (pred))\n(node 5 5 0 (5) (in) (succ) (pred))\n(node 6 5 0 (6) (in) (succ) (pred))\n(node 7 5 0 (7) (in) (succ 0 8) (pred))\n(node 8 5 0 (8) (in) (succ) (pred 7))\n(entry 5 0)\n(returns 3 5)\n(back 2 3)\n(back 4 5)\n)\n" } ∷
    record { text = "(module 1\n(line 40\n(exitif)\n(until)\n(next orphan CO2)\n(if\n(stmts\n(plain)\n(run)\n(next plain)\n)\n)\n(ongosub 40 999 40 999)\n(return)\n)\n(line 999\n(ifelse\n(stmts\n)\n(to 999)\n)\n(for COUNT dispatched)\n)\n)\n"; writes = "(graph 0 11\n(node 0 40 0 (0) (in) (succ 1) (pred 5 7))\n(node 1 40 0 (1) (in) (succ) (pred 0))\n(node 2 40 0 (2) (in) (succ 3) (pred))\n(node 3 40 0 (3) (in) (succ 4 7) (pred 2))\n(node 4 40 0 (3 0) (in 3) (succ 5) (pred 3))\n(node 5 40 0 (3 1) (in 3) (succ 0) (pred 4))\n(node 6 40 0 (3 2) (in 3) (succ 7) (pred))\n(node 7 40 0 (4) (in) (succ 0 9 8) (pred 3 6))\n(node 8 40 0 (5) (in) (succ 8) (pred 7 8))\n(node 9 999 1 (0) (in) (succ 10 9) (pred 7 9))\n(node 10 999 1 (1) (in) (succ) (pred 9))\n(entry 40 0)\n(entry 999 9)\n(returns 8)\n(back 7 8)\n)\n" } ∷
    record { text = "(module 0\n(line 20\n(ongoto)\n(ongosub 20 20)\n(ongosub 20)\n(ongosub 1 20 20)\n(return)\n(return)\n(return)\n(ongosub 20)\n(exitif)\n(ongoto 20 20 20)\n)\n)\n"; writes = "(graph 0 10\n(node 0 20 0 (0) (in) (succ 1) (pred 1 2 3 7 9))\n(node 1 20 0 (1) (in) (succ 0 2) (pred 0))\n(node 2 20 0 (2) (in) (succ 0 3) (pred 1 4))\n(node 3 20 0 (3) (in) (succ 0 4) (pred 2 4))\n(node 4 20 0 (4) (in) (succ 2 3 4 8) (pred 3 4))\n(node 5 20 0 (5) (in) (succ) (pred))\n(node 6 20 0 (6) (in) (succ) (pred))\n(node 7 20 0 (7) (in) (succ 0 8) (pred))\n(node 8 20 0 (8) (in) (succ 9) (pred 4 7))\n(node 9 20 0 (9) (in) (succ 0) (pred 8))\n(entry 20 0)\n(returns 2 3 4 8)\n(back 1 2)\n(back 2 3)\n(back 3 4)\n(back 7 8)\n)\n" } ∷
    record { text = "(module 0\n(line 0\n(clr)\n(goto 5)\n)\n(line 5\n(until)\n(clr)\n)\n(line 50\n(exitif)\n)\n(line 65535\n(exit)\n(clr)\n)\n)\n"; writes = "(graph 0 7\n(node 0 0 0 (0) (in) (succ 1) (pred))\n(node 1 0 0 (1) (in) (succ 2) (pred 0))\n(node 2 5 1 (0) (in) (succ) (pred 1))\n(node 3 5 1 (1) (in) (succ 4) (pred))\n(node 4 50 2 (0) (in) (succ 5) (pred 3))\n(node 5 65535 3 (0) (in) (succ) (pred 4))\n(node 6 65535 3 (1) (in) (succ) (pred))\n(entry 0 0)\n(entry 5 2)\n(entry 50 4)\n(entry 65535 5)\n(returns)\n)\n" } ∷
    record { text = "(module 1\n(line 0\n(gosub 0)\n(for ABCDEFGH static)\n(next plain ABCDEFG)\n(plain)\n)\n)\n"; writes = "(graph 0 4\n(node 0 0 0 (0) (in) (succ 0) (pred 0))\n(node 1 0 0 (1) (in) (succ 2) (pred))\n(node 2 0 0 (2) (in) (succ 2 3) (pred 1 2))\n(node 3 0 0 (3) (in) (succ) (pred 2))\n(entry 0 0)\n(returns 1)\n(back 0 1)\n)\n" } ∷
    record { text = "(module 0\n(line 50\n(until)\n(else)\n(if\n(to 50)\n)\n)\n)\n"; writes = "(graph 0 3\n(node 0 50 0 (0) (in) (succ) (pred 2))\n(node 1 50 0 (1) (in) (succ) (pred))\n(node 2 50 0 (2) (in) (succ 0) (pred))\n(entry 50 0)\n(returns)\n)\n" } ∷
    record { text = "(module 0\n(line 50\n(next plain J)\n(for J static)\n(gosub 999)\n(ongosub 50)\n(return)\n(if\n(stmts\n(plain)\n)\n)\n)\n)\n"; writes = "(graph 0 7\n(node 0 50 0 (0) (in) (succ 1) (pred 3))\n(node 1 50 0 (1) (in) (succ 2) (pred 0))\n(node 2 50 0 (2) (in) (succ) (pred 1))\n(node 3 50 0 (3) (in) (succ 0 4) (pred))\n(node 4 50 0 (4) (in) (succ 4) (pred 3 4))\n(node 5 50 0 (5) (in) (succ 6) (pred))\n(node 6 50 0 (5 0) (in 5) (succ) (pred 5))\n(entry 50 0)\n(returns 3 4)\n(back 2 3)\n(back 3 4)\n)\n" } ∷
    record { text = "(module 0\n(line 50\n(for A% dispatched)\n)\n(line 65534\n(plain)\n(until)\n(next plain *)\n(repeat)\n(doif)\n(until)\n(endloop)\n(loop)\n(next orphan A%)\n(exitif)\n(plain)\n)\n)\n"; writes = "(graph 0 12\n(node 0 50 0 (0) (in) (succ 1) (pred))\n(node 1 65534 1 (0) (in) (succ 2) (pred 0 3 9))\n(node 2 65534 1 (1) (in) (succ) (pred 1))\n(node 3 65534 1 (2) (in) (succ 1 4) (pred))\n(node 4 65534 1 (3) (in) (succ 5) (pred 3))\n(node 5 65534 1 (4) (in) (succ 6) (pred 4 6))\n(node 6 65534 1 (5) (in) (succ 5 7) (pred 5))\n(node 7 65534 1 (6) (in) (succ) (pred 6))\n(node 8 65534 1 (7) (in) (succ 9) (pred))\n(node 9 65534 1 (8) (in) (succ 10 1) (pred 8))\n(node 10 65534 1 (9) (in) (succ 11) (pred 9))\n(node 11 65534 1 (10) (in) (succ) (pred 10))\n(entry 50 0)\n(entry 65534 1)\n(returns)\n)\n" } ∷
    record { text = "(module 0\n(line 50\n(exitif)\n(plain)\n(ongosub 50 50)\n(return)\n)\n)\n"; writes = "(graph 0 4\n(node 0 50 0 (0) (in) (succ 1) (pred 2))\n(node 1 50 0 (1) (in) (succ 2) (pred 0))\n(node 2 50 0 (2) (in) (succ 0 3) (pred 1))\n(node 3 50 0 (3) (in) (succ 3) (pred 2 3))\n(entry 50 0)\n(returns 3)\n(back 2 3)\n)\n" } ∷
    record { text = "(module 0\n(line 65535\n(next plain Z9$ Z9$ Z9$ A%)\n(for Z9$ static)\n(next plain *)\n(next plain Z9$)\n(next orphan *)\n(plain)\n(next plain *)\n)\n)\n"; writes = "(graph 0 7\n(node 0 65535 0 (0) (in) (succ 1) (pred))\n(node 1 65535 0 (1) (in) (succ 2) (pred 0))\n(node 2 65535 0 (2) (in) (succ 2 3) (pred 1 2))\n(node 3 65535 0 (3) (in) (succ 4) (pred 2))\n(node 4 65535 0 (4) (in) (succ 5) (pred 3))\n(node 5 65535 0 (5) (in) (succ 6) (pred 4))\n(node 6 65535 0 (6) (in) (succ) (pred 5))\n(entry 65535 0)\n(returns)\n)\n" } ∷
    record { text = "(module 0\n(line 0\n(loop)\n(ongosub 0)\n(ifelse\n(stmts\n(ifelse\n(stmts\n)\n(to 65535)\n)\n(return)\n(ifelse\n(stmts\n)\n(to 65535)\n)\n)\n(stmts\n)\n)\n(ongosub)\n(next plain A1)\n(for A1B2 static)\n)\n(line 65535\n(plain)\n(return)\n(plain)\n)\n)\n"; writes = "(graph 0 12\n(node 0 0 0 (0) (in) (succ 1) (pred 1))\n(node 1 0 0 (1) (in) (succ 0 2) (pred 0))\n(node 2 0 0 (2) (in) (succ 3 6) (pred 1 4 10))\n(node 3 0 0 (2 0) (in 2) (succ 4 9) (pred 2))\n(node 4 0 0 (2 1) (in 2) (succ 2) (pred 3))\n(node 5 0 0 (2 2) (in 2) (succ 6 9) (pred))\n(node 6 0 0 (3) (in) (succ 7) (pred 2 5))\n(node 7 0 0 (4) (in) (succ 8) (pred 6))\n(node 8 0 0 (5) (in) (succ 9) (pred 7))\n(node 9 65535 1 (0) (in) (succ 10) (pred 3 5 8))\n(node 10 65535 1 (1) (in) (succ 2) (pred 9))\n(node 11 65535 1 (2) (in) (succ) (pred))\n(entry 0 0)\n(entry 65535 9)\n(returns 2 7)\n(back 1 2)\n(back 6 7)\n)\n" } ∷
    record { text = "(module 0\n(line 1\n(ongosub)\n(return)\n(next orphan Z9$)\n(repeat)\n)\n(line 20\n(run 100)\n(plain)\n(loop)\n(for Z9$ dispatched)\n)\n(line 100\n(exit)\n(ifelse\n(stmts\n)\n(stmts\n)\n)\n)\n)\n"; writes = "(graph 0 10\n(node 0 1 0 (0) (in) (succ 1) (pred))\n(node 1 1 0 (1) (in) (succ) (pred 0))\n(node 2 1 0 (2) (in) (succ 3 8) (pred))\n(node 3 1 0 (3) (in) (succ 4) (pred 2))\n(node 4 20 1 (0) (in) (succ 8) (pred 3))\n(node 5 20 1 (1) (in) (succ 6) (pred))\n(node 6 20 1 (2) (in) (succ 7) (pred 5))\n(node 7 20 1 (3) (in) (succ 8) (pred 6))\n(node 8 100 2 (0) (in) (succ) (pred 2 4 7))\n(node 9 100 2 (1) (in) (succ) (pred))\n(entry 1 0)\n(entry 20 4)\n(entry 100 8)\n(returns 1)\n(back 0 1)\n)\n" } ∷
    record { text = "(module 0\n(line 100\n)\n)\n"; writes = "(graph 0 0\n(returns)\n)\n" } ∷
    record { text = "(module 0\n(line 65534\n(gosub 65534)\n(gosub 65535)\n)\n(line 65535\n(next plain * AC% * *)\n(for ABCDEFG dispatched)\n(exitif)\n(return)\n)\n)\n"; writes = "(graph 0 6\n(node 0 65534 0 (0) (in) (succ 0) (pred 0))\n(node 1 65534 0 (1) (in) (succ 2) (pred 5))\n(node 2 65535 1 (0) (in) (succ 3) (pred 1 5))\n(node 3 65535 1 (1) (in) (succ 4) (pred 2))\n(node 4 65535 1 (2) (in) (succ 5) (pred 3))\n(node 5 65535 1 (3) (in) (succ 1 2) (pred 4))\n(entry 65534 0)\n(entry 65535 2)\n(returns 1 2)\n(back 0 1)\n(back 1 2)\n)\n" } ∷
    record { text = "(module 1\n(line 0\n)\n(line 1\n(if\n(stmts\n(clr)\n(run)\n)\n)\n(goto 0)\n(done)\n(run 0)\n(for J dispatched)\n)\n(line 5\n(goto 20)\n)\n(line 20\n)\n(line 65534\n(if\n(to 1)\n)\n(any)\n(done)\n(else)\n)\n)\n"; writes = "(graph 0 12\n(node 0 1 1 (0) (in) (succ 1 3) (pred 2 3 5 8 9))\n(node 1 1 1 (0 0) (in 0) (succ 2) (pred 0))\n(node 2 1 1 (0 1) (in 0) (succ 0) (pred 1))\n(node 3 1 1 (1) (in) (succ 0) (pred 0))\n(node 4 1 1 (2) (in) (succ 5) (pred))\n(node 5 1 1 (3) (in) (succ 0) (pred 4))\n(node 6 1 1 (4) (in) (succ 7) (pred))\n(node 7 5 2 (0) (in) (succ 8) (pred 6 9))\n(node 8 65534 4 (0) (in) (succ 0 9) (pred 7 9))\n(node 9 65534 4 (1) (in) (succ 0 7 8) (pred 8))\n(node 10 65534 4 (2) (in) (succ 11) (pred))\n(node 11 65534 4 (3) (in) (succ) (pred 10))\n(entry 0 0)\n(entry 1 0)\n(entry 5 7)\n(entry 20 8)\n(entry 65534 8)\n(returns)\n)\n" } ∷
    record { text = "(module 0\n(line 40\n(plain)\n(if\n(to 100)\n)\n(any)\n(rcomp\n(stmts\n)\n(to 100)\n)\n(next plain CO2 COUNTER)\n)\n(line 50\n(exitif)\n)\n(line 100\n(rcomp\n(stmts\n(ongosub)\n(goto 40)\n)\n)\n)\n)\n"; writes = "(graph 0 9\n(node 0 40 0 (0) (in) (succ 1) (pred 2 8))\n(node 1 40 0 (1) (in) (succ 6 2) (pred 0))\n(node 2 40 0 (2) (in) (succ 0 5 6) (pred 1))\n(node 3 40 0 (3) (in) (succ 4 6) (pred))\n(node 4 40 0 (4) (in) (succ 5) (pred 3))\n(node 5 50 1 (0) (in) (succ 6) (pred 2 4))\n(node 6 100 2 (0) (in) (succ 7) (pred 1 2 3 5))\n(node 7 100 2 (0 0) (in 6) (succ 8) (pred 6))\n(node 8 100 2 (0 1) (in 6) (succ 0) (pred 7))\n(entry 40 0)\n(entry 50 5)\n(entry 100 6)\n(returns 8)\n(back 7 8)\n)\n" } ∷
    record { text = "(module 1\n(line 65535\n(next plain *)\n(for I static)\n(any)\n)\n)\n"; writes = "(graph 0 3\n(node 0 65535 0 (0) (in) (succ 1) (pred 2))\n(node 1 65535 0 (1) (in) (succ 2) (pred 0))\n(node 2 65535 0 (2) (in) (succ 0) (pred 1))\n(entry 65535 0)\n(returns)\n)\n" } ∷
    record { text = "(module 0\n(line 10\n(next plain J%)\n(for J% static)\n(next orphan J%)\n(for J% dispatched)\n)\n)\n"; writes = "(graph 0 4\n(node 0 10 0 (0) (in) (succ 1) (pred))\n(node 1 10 0 (1) (in) (succ 2) (pred 0))\n(node 2 10 0 (2) (in) (succ 2 3) (pred 1 2))\n(node 3 10 0 (3) (in) (succ) (pred 2))\n(entry 10 0)\n(returns)\n)\n" } ∷
    record { text = "(module 0\n(line 65535\n(ongosub 5 65535 65535 65535)\n(gosub 65535)\n(next plain COUNT)\n(gosub 65535)\n(return)\n(for CO1 static)\n)\n)\n"; writes = "(graph 0 6\n(node 0 65535 0 (0) (in) (succ 0 1) (pred 0 1 3))\n(node 1 65535 0 (1) (in) (succ 0) (pred 0 4))\n(node 2 65535 0 (2) (in) (succ 3) (pred 4))\n(node 3 65535 0 (3) (in) (succ 0) (pred 2))\n(node 4 65535 0 (4) (in) (succ 1 2 4) (pred 4))\n(node 5 65535 0 (5) (in) (succ) (pred))\n(entry 65535 0)\n(returns 1 2 4)\n(back 0 1)\n(back 1 2)\n(back 3 4)\n)\n" } ∷
    record { text = "(module 0\n(line 5\n(for Z9$ framed)\n(repeat)\n(until)\n)\n(line 20\n(repeat)\n(exit)\n(return)\n(endloop)\n)\n)\n"; writes = "(graph 0 7\n(node 0 5 0 (0) (in) (succ 1) (pred))\n(node 1 5 0 (1) (in) (succ 2) (pred 0))\n(node 2 5 0 (2) (in) (succ 2 3) (pred 1 2))\n(node 3 20 1 (0) (in) (succ 4) (pred 2))\n(node 4 20 1 (1) (in) (succ) (pred 3 6))\n(node 5 20 1 (2) (in) (succ) (pred))\n(node 6 20 1 (3) (in) (succ 4) (pred))\n(entry 5 0)\n(entry 20 3)\n(returns)\n)\n" } ∷
    record { text = "(module 0\n(line 20\n)\n(line 999\n(plain)\n(if\n(stmts\n(next plain L)\n(rcomp\n(stmts\n(next orphan LOOPVAR1 * LOOPVAR1)\n(else)\n)\n)\n)\n)\n(next plain LOOPVAR2)\n(for LOOPVAR1 static)\n)\n)\n"; writes = "(graph 0 8\n(node 0 999 1 (0) (in) (succ 1) (pred))\n(node 1 999 1 (1) (in) (succ 2 6) (pred 0))\n(node 2 999 1 (1 0) (in 1) (succ 3) (pred 1))\n(node 3 999 1 (1 1) (in 1) (succ 4 6) (pred 2))\n(node 4 999 1 (1 1 0) (in 3) (succ 5) (pred 3))\n(node 5 999 1 (1 1 1) (in 3) (succ) (pred 4))\n(node 6 999 1 (2) (in) (succ 7) (pred 1 3))\n(node 7 999 1 (3) (in) (succ) (pred 6))\n(entry 20 0)\n(entry 999 0)\n(returns)\n)\n" } ∷
    record { text = "(module 0\n(line 0\n(return)\n(gosub 1)\n(plain)\n)\n(line 1\n(for AC% dispatched)\n(next plain AC%)\n(goto 0)\n)\n(line 40\n(gosub 100)\n(for AC% static)\n(next plain AC%)\n)\n(line 100\n(loop)\n(gosub 100)\n(for AC% static)\n)\n)\n"; writes = "(graph 0 12\n(node 0 0 0 (0) (in) (succ 2) (pred 5))\n(node 1 0 0 (1) (in) (succ 3) (pred))\n(node 2 0 0 (2) (in) (succ 3) (pred 0))\n(node 3 1 1 (0) (in) (succ 4) (pred 1 2))\n(node 4 1 1 (1) (in) (succ 4 5) (pred 3 4))\n(node 5 1 1 (2) (in) (succ 0) (pred 4))\n(node 6 40 2 (0) (in) (succ 9) (pred))\n(node 7 40 2 (1) (in) (succ 8) (pred))\n(node 8 40 2 (2) (in) (succ 8 9) (pred 7 8))\n(node 9 100 3 (0) (in) (succ 10) (pred 6 8 10))\n(node 10 100 3 (1) (in) (succ 9) (pred 9))\n(node 11 100 3 (2) (in) (succ) (pred))\n(entry 0 0)\n(entry 1 3)\n(entry 40 6)\n(entry 100 9)\n(returns 2 7 11)\n(back 1 2)\n(back 6 7)\n(back 10 11)\n)\n" } ∷
    record { text = "(module 0\n(line 5\n(goto 50)\n(done)\n(doif)\n(next orphan CO2 CO1 *)\n(gosub 5)\n(next plain CO2)\n(run 5)\n)\n(line 30\n)\n(line 50\n(ongoto 5)\n(clr)\n(ongoto 50 50 30 50)\n(repeat)\n)\n)\n"; writes = "(graph 0 11\n(node 0 5 0 (0) (in) (succ 7) (pred 4 6 7))\n(node 1 5 0 (1) (in) (succ 2) (pred))\n(node 2 5 0 (2) (in) (succ 3) (pred 1))\n(node 3 5 0 (3) (in) (succ 4) (pred 2))\n(node 4 5 0 (4) (in) (succ 0) (pred 3))\n(node 5 5 0 (5) (in) (succ 6) (pred))\n(node 6 5 0 (6) (in) (succ 0) (pred 5))\n(node 7 50 2 (0) (in) (succ 0 8) (pred 0 9))\n(node 8 50 2 (1) (in) (succ 9) (pred 7))\n(node 9 50 2 (2) (in) (succ 7 10) (pred 8))\n(node 10 50 2 (3) (in) (succ) (pred 9))\n(entry 5 0)\n(entry 30 7)\n(entry 50 7)\n(returns 5)\n(back 4 5)\n)\n" } ∷
    record { text = "(module 0\n(line 65535\n(doif)\n(done)\n(for I% framed)\n(doif)\n(plain)\n(plain)\n(if\n(to 65535)\n)\n(return)\n(gosub 65535)\n)\n)\n"; writes = "(graph 0 9\n(node 0 65535 0 (0) (in) (succ 1 2) (pred 6 8))\n(node 1 65535 0 (1) (in) (succ 2) (pred 0))\n(node 2 65535 0 (2) (in) (succ 3) (pred 0 1))\n(node 3 65535 0 (3) (in) (succ 4) (pred 2))\n(node 4 65535 0 (4) (in) (succ 5) (pred 3))\n(node 5 65535 0 (5) (in) (succ 6) (pred 4))\n(node 6 65535 0 (6) (in) (succ 0 7) (pred 5))\n(node 7 65535 0 (7) (in) (succ) (pred 6))\n(node 8 65535 0 (8) (in) (succ 0) (pred))\n(entry 65535 0)\n(returns)\n)\n" } ∷
    record { text = "(module 0\n(line 30\n(exit)\n)\n(line 40\n(gosub 30)\n(endloop)\n(return)\n(ongosub)\n)\n(line 999\n(return)\n(stop)\n)\n(line 65534\n(stop)\n(exitif)\n)\n(line 65535\n(until)\n)\n)\n"; writes = "(graph 0 10\n(node 0 30 0 (0) (in) (succ) (pred 1))\n(node 1 40 1 (0) (in) (succ 0) (pred))\n(node 2 40 1 (1) (in) (succ) (pred))\n(node 3 40 1 (2) (in) (succ) (pred))\n(node 4 40 1 (3) (in) (succ 5) (pred))\n(node 5 999 2 (0) (in) (succ) (pred 4))\n(node 6 999 2 (1) (in) (succ) (pred))\n(node 7 65534 3 (0) (in) (succ) (pred))\n(node 8 65534 3 (1) (in) (succ 9) (pred))\n(node 9 65535 4 (0) (in) (succ) (pred 8))\n(entry 30 0)\n(entry 40 1)\n(entry 999 5)\n(entry 65534 7)\n(entry 65535 9)\n(returns 2 5)\n(back 1 2)\n(back 4 5)\n)\n" } ∷
    record { text = "(module 1\n(line 999\n(next orphan LOOPVAR2)\n(ongosub 999 999)\n(for LO dispatched)\n(return)\n(plain)\n)\n)\n"; writes = "(graph 0 5\n(node 0 999 0 (0) (in) (succ 1 3) (pred 1))\n(node 1 999 0 (1) (in) (succ 0 2) (pred 0))\n(node 2 999 0 (2) (in) (succ 3) (pred 1 3))\n(node 3 999 0 (3) (in) (succ 2) (pred 0 2))\n(node 4 999 0 (4) (in) (succ) (pred))\n(entry 999 0)\n(returns 2)\n(back 1 2)\n)\n" } ∷
    record { text = "(module 0\n(line 20\n)\n(line 30\n(endloop)\n)\n(line 999\n(else)\n(ifelse\n(stmts\n(if\n(stmts\n)\n)\n(doif)\n(plain)\n)\n(stmts\n)\n)\n)\n(line 65535\n)\n)\n"; writes = "(graph 0 6\n(node 0 30 1 (0) (in) (succ) (pred))\n(node 1 999 2 (0) (in) (succ) (pred))\n(node 2 999 2 (1) (in) (succ 3) (pred))\n(node 3 999 2 (1 0) (in 2) (succ 4) (pred 2))\n(node 4 999 2 (1 1) (in 2) (succ 5) (pred 3))\n(node 5 999 2 (1 2) (in 2) (succ) (pred 4))\n(entry 20 0)\n(entry 30 0)\n(entry 999 1)\n(returns)\n)\n" } ∷
    record { text = "(module 1\n(line 0\n(next plain CO1)\n(run 50)\n(if\n(to 0)\n)\n(run)\n(for COUNT static)\n(else)\n)\n(line 5\n(for COUNT framed)\n(goto 5)\n)\n(line 50\n(plain)\n(goto 5)\n)\n)\n"; writes = "(graph 0 10\n(node 0 0 0 (0) (in) (succ 1) (pred 2 3))\n(node 1 0 0 (1) (in) (succ 8) (pred 0))\n(node 2 0 0 (2) (in) (succ 0 3) (pred))\n(node 3 0 0 (3) (in) (succ 0) (pred 2))\n(node 4 0 0 (4) (in) (succ 5) (pred))\n(node 5 0 0 (5) (in) (succ) (pred 4))\n(node 6 5 1 (0) (in) (succ 7) (pred 7 9))\n(node 7 5 1 (1) (in) (succ 6) (pred 6))\n(node 8 50 2 (0) (in) (succ 9) (pred 1))\n(node 9 50 2 (1) (in) (succ 6) (pred 8))\n(entry 0 0)\n(entry 5 6)\n(entry 50 8)\n(returns)\n)\n" } ∷
    record { text = "(module 0\n(line 0\n(plain)\n(run)\n(plain)\n)\n(line 5\n(if\n(stmts\n(if\n(to 20)\n)\n)\n)\n)\n(line 20\n(rcomp\n(to 30)\n)\n(gosub 30)\n(stop)\n)\n(line 30\n(return)\n(ongosub 20)\n)\n)\n"; writes = "(graph 0 10\n(node 0 0 0 (0) (in) (succ 1) (pred 1))\n(node 1 0 0 (1) (in) (succ 0) (pred 0))\n(node 2 0 0 (2) (in) (succ 3) (pred))\n(node 3 5 1 (0) (in) (succ 4 5) (pred 2))\n(node 4 5 1 (0 0) (in 3) (succ 5) (pred 3))\n(node 5 20 2 (0) (in) (succ 8 6) (pred 3 4 9))\n(node 6 20 2 (1) (in) (succ 8) (pred 5))\n(node 7 20 2 (2) (in) (succ) (pred 8))\n(node 8 30 3 (0) (in) (succ 7) (pred 5 6))\n(node 9 30 3 (1) (in) (succ 5) (pred))\n(entry 0 0)\n(entry 5 3)\n(entry 20 5)\n(entry 30 8)\n(returns 7)\n(back 6 7)\n)\n" } ∷
    record { text = "(module 0\n(line 999\n(next plain J%)\n(ongosub 999 999)\n(for N% dispatched)\n(next orphan N%)\n(rcomp\n(stmts\n)\n)\n)\n)\n"; writes = "(graph 0 5\n(node 0 999 0 (0) (in) (succ 1) (pred 1))\n(node 1 999 0 (1) (in) (succ 0 2) (pred 0))\n(node 2 999 0 (2) (in) (succ 3) (pred 1))\n(node 3 999 0 (3) (in) (succ 3 4) (pred 2 3))\n(node 4 999 0 (4) (in) (succ) (pred 3))\n(entry 999 0)\n(returns 2)\n(back 1 2)\n)\n" } ∷
    record { text = "(module 0\n(line 1\n(next plain COUNTER ABCDEFGH ABCDEFG)\n(ongosub 5 10)\n(if\n(stmts\n)\n)\n)\n(line 5\n(gosub 50)\n)\n(line 10\n)\n(line 20\n(gosub 10)\n(return)\n(return)\n(rcomp\n(stmts\n(gosub 10)\n)\n)\n)\n(line 40\n)\n(line 50\n(next plain ABCDEFGH)\n(gosub 0)\n(next plain ABCDEFGH)\n)\n)\n"; writes = "(graph 0 12\n(node 0 1 0 (0) (in) (succ 1) (pred))\n(node 1 1 0 (1) (in) (succ 3 4 2) (pred 0))\n(node 2 1 0 (2) (in) (succ 3) (pred 1 5))\n(node 3 5 1 (0) (in) (succ 9) (pred 1 2))\n(node 4 20 3 (0) (in) (succ 4) (pred 1 4 8))\n(node 5 20 3 (1) (in) (succ 2 5 9) (pred 5))\n(node 6 20 3 (2) (in) (succ) (pred))\n(node 7 20 3 (3) (in) (succ 8 9) (pred))\n(node 8 20 3 (3 0) (in 7) (succ 4) (pred 7))\n(node 9 50 5 (0) (in) (succ 10) (pred 3 5 7))\n(node 10 50 5 (1) (in) (succ) (pred 9))\n(node 11 50 5 (2) (in) (succ) (pred))\n(entry 1 0)\n(entry 5 3)\n(entry 10 4)\n(entry 20 4)\n(entry 40 9)\n(entry 50 9)\n(returns 2 4 5 9 11)\n(back 1 2)\n(back 3 4)\n(back 4 5)\n(back 8 9)\n(back 10 11)\n)\n" } ∷
    record { text = "(module 0\n(line 1\n(next plain C%)\n(gosub 1)\n(if\n(to 1)\n)\n(gosub 1)\n(for C% static)\n)\n(line 5\n(return)\n(return)\n)\n(line 100\n(exitif)\n)\n)\n"; writes = "(graph 0 8\n(node 0 1 0 (0) (in) (succ 1) (pred 1 2 3))\n(node 1 1 0 (1) (in) (succ 0) (pred 0))\n(node 2 1 0 (2) (in) (succ 0 3) (pred 5))\n(node 3 1 0 (3) (in) (succ 0) (pred 2))\n(node 4 1 0 (4) (in) (succ 5) (pred 5))\n(node 5 5 1 (0) (in) (succ 2 4) (pred 4))\n(node 6 5 1 (1) (in) (succ) (pred))\n(node 7 100 2 (0) (in) (succ) (pred))\n(entry 1 0)\n(entry 5 5)\n(entry 100 7)\n(returns 2 4)\n(back 1 2)\n(back 3 4)\n)\n" } ∷
    record { text = "(module 0\n(line 10\n(next plain CO2)\n(ifelse\n(stmts\n)\n(stmts\n)\n)\n(for CO1 static)\n)\n)\n"; writes = "(graph 0 3\n(node 0 10 0 (0) (in) (succ 1) (pred))\n(node 1 10 0 (1) (in) (succ 2) (pred 0))\n(node 2 10 0 (2) (in) (succ) (pred 1))\n(entry 10 0)\n(returns)\n)\n" } ∷
    record { text = "(module 0\n(line 20\n(ongoto)\n)\n)\n"; writes = "(graph 0 1\n(node 0 20 0 (0) (in) (succ) (pred))\n(entry 20 0)\n(returns)\n)\n" } ∷
    record { text = "(module 0\n(line 65535\n(loop)\n(next plain *)\n(for A% static)\n(stop)\n(gosub 65535)\n(return)\n)\n)\n"; writes = "(graph 0 6\n(node 0 65535 0 (0) (in) (succ 1) (pred 4))\n(node 1 65535 0 (1) (in) (succ 2) (pred 0))\n(node 2 65535 0 (2) (in) (succ 3) (pred 1))\n(node 3 65535 0 (3) (in) (succ) (pred 2))\n(node 4 65535 0 (4) (in) (succ 0) (pred))\n(node 5 65535 0 (5) (in) (succ) (pred))\n(entry 65535 0)\n(returns 5)\n(back 4 5)\n)\n" } ∷
    record { text = "(module 1\n(line 0\n(gosub 0)\n(for CO1 static)\n(gosub 0)\n(exitif)\n(return)\n(next plain COUNTER)\n(return)\n(any)\n)\n)\n"; writes = "(graph 0 8\n(node 0 0 0 (0) (in) (succ 0) (pred 0 2 7))\n(node 1 0 0 (1) (in) (succ 2) (pred 4 6))\n(node 2 0 0 (2) (in) (succ 0) (pred 1 5))\n(node 3 0 0 (3) (in) (succ 4) (pred 4 6))\n(node 4 0 0 (4) (in) (succ 1 3) (pred 3))\n(node 5 0 0 (5) (in) (succ 2 6) (pred))\n(node 6 0 0 (6) (in) (succ 1 3) (pred 5))\n(node 7 0 0 (7) (in) (succ 0) (pred))\n(entry 0 0)\n(returns 1 3)\n(back 0 1)\n(back 2 3)\n)\n" } ∷
    record { text = "(module 0\n(line 1\n(rcomp\n(stmts\n(for LOOPVAR1 dispatched)\n(ongoto 1 30 1)\n)\n)\n(repeat)\n(for L framed)\n(done)\n)\n(line 30\n(done)\n(rcomp\n(to 50)\n(stmts\n(rcomp\n(stmts\n(any)\n(for LOOPVAR1 framed)\n)\n(to 30)\n)\n(plain)\n)\n)\n)\n)\n"; writes = "(graph 0 12\n(node 0 1 0 (0) (in) (succ 1 3) (pred 2 9))\n(node 1 1 0 (0 0) (in 0) (succ 2) (pred 0))\n(node 2 1 0 (0 1) (in 0) (succ 0 6 3) (pred 1))\n(node 3 1 0 (1) (in) (succ 4) (pred 0 2))\n(node 4 1 0 (2) (in) (succ 5) (pred 3))\n(node 5 1 0 (3) (in) (succ 6) (pred 4))\n(node 6 30 1 (0) (in) (succ 7) (pred 2 5 8 9))\n(node 7 30 1 (1) (in) (succ 8) (pred 6))\n(node 8 30 1 (1 0) (in 7) (succ 9 6) (pred 7))\n(node 9 30 1 (1 0 0) (in 8) (succ 0 6) (pred 8))\n(node 10 30 1 (1 0 1) (in 8) (succ 11) (pred))\n(node 11 30 1 (1 1) (in 7) (succ) (pred 10))\n(entry 1 0)\n(entry 30 6)\n(returns)\n)\n" } ∷
    record { text = "(module 0\n(line 20\n(next orphan J)\n(for J dispatched)\n)\n)\n"; writes = "(graph 0 2\n(node 0 20 0 (0) (in) (succ 1) (pred))\n(node 1 20 0 (1) (in) (succ) (pred 0))\n(entry 20 0)\n(returns)\n)\n" } ∷
    record { text = "(module 0\n(line 100\n(plain)\n(return)\n(next plain LOOPVAR1)\n(for LO static)\n)\n)\n"; writes = "(graph 0 4\n(node 0 100 0 (0) (in) (succ 1) (pred))\n(node 1 100 0 (1) (in) (succ) (pred 0))\n(node 2 100 0 (2) (in) (succ 3) (pred))\n(node 3 100 0 (3) (in) (succ) (pred 2))\n(entry 100 0)\n(returns)\n)\n" } ∷
    record { text = "(module 0\n(line 20\n(gosub 20)\n(ifelse\n(stmts\n(gosub 20)\n)\n(to 20)\n)\n(next plain A1B2)\n(if\n(stmts\n)\n)\n(ifelse\n(to 20)\n(stmts\n(return)\n)\n)\n(exit)\n(ifelse\n(stmts\n)\n(to 20)\n)\n(return)\n)\n)\n"; writes = "(graph 0 10\n(node 0 20 0 (0) (in) (succ 0) (pred 0 1 2 5 8))\n(node 1 20 0 (1) (in) (succ 2 0) (pred 6))\n(node 2 20 0 (1 0) (in 1) (succ 0) (pred 1))\n(node 3 20 0 (2) (in) (succ 4) (pred 6))\n(node 4 20 0 (3) (in) (succ 5) (pred 3))\n(node 5 20 0 (4) (in) (succ 0 6) (pred 4))\n(node 6 20 0 (4 0) (in 5) (succ 1 3) (pred 5))\n(node 7 20 0 (5) (in) (succ) (pred))\n(node 8 20 0 (6) (in) (succ 9 0) (pred))\n(node 9 20 0 (7) (in) (succ) (pred 8))\n(entry 20 0)\n(returns 1 3)\n(back 0 1)\n(back 2 3)\n)\n" } ∷
    record { text = "(module 0\n(line 100\n(next plain *)\n(for I static)\n)\n)\n"; writes = "(graph 0 2\n(node 0 100 0 (0) (in) (succ 1) (pred))\n(node 1 100 0 (1) (in) (succ) (pred 0))\n(entry 100 0)\n(returns)\n)\n" } ∷
    record { text = "(module 0\n(line 0\n)\n(line 5\n(for A1B2 static)\n(if\n(stmts\n)\n)\n)\n(line 999\n(stop)\n(loop)\n(for A1B2C3D4 dispatched)\n)\n(line 65534\n(stop)\n(loop)\n(plain)\n)\n)\n"; writes = "(graph 0 8\n(node 0 5 1 (0) (in) (succ 1) (pred))\n(node 1 5 1 (1) (in) (succ 2) (pred 0))\n(node 2 999 2 (0) (in) (succ) (pred 1))\n(node 3 999 2 (1) (in) (succ 4) (pred))\n(node 4 999 2 (2) (in) (succ 5) (pred 3))\n(node 5 65534 3 (0) (in) (succ) (pred 4))\n(node 6 65534 3 (1) (in) (succ 7) (pred))\n(node 7 65534 3 (2) (in) (succ) (pred 6))\n(entry 0 0)\n(entry 5 0)\n(entry 999 2)\n(entry 65534 5)\n(returns)\n)\n" } ∷
    record { text = "(module 0\n(line 0\n(if\n(stmts\n(until)\n)\n)\n(if\n(stmts\n)\n)\n)\n(line 5\n(run)\n(if\n(stmts\n(clr)\n(run)\n)\n)\n(goto 10)\n)\n(line 10\n(if\n(to 5)\n)\n(any)\n)\n)\n"; writes = "(graph 0 10\n(node 0 0 0 (0) (in) (succ 1 2) (pred 3 6 9))\n(node 1 0 0 (0 0) (in 0) (succ) (pred 0))\n(node 2 0 0 (1) (in) (succ 3) (pred 0))\n(node 3 5 1 (0) (in) (succ 0) (pred 2 8 9))\n(node 4 5 1 (1) (in) (succ 5 7) (pred))\n(node 5 5 1 (1 0) (in 4) (succ 6) (pred 4))\n(node 6 5 1 (1 1) (in 4) (succ 0) (pred 5))\n(node 7 5 1 (2) (in) (succ 8) (pred 4))\n(node 8 10 2 (0) (in) (succ 3 9) (pred 7 9))\n(node 9 10 2 (1) (in) (succ 0 3 8) (pred 8))\n(entry 0 0)\n(entry 5 3)\n(entry 10 8)\n(returns)\n)\n" } ∷
    record { text = "(module 0\n(line 50\n(for NOTES% static)\n(ifelse\n(stmts\n)\n(stmts\n)\n)\n(doif)\n(plain)\n(next plain NO%)\n(ifelse\n(to 50)\n(stmts\n(ifelse\n(stmts\n)\n(stmts\n(plain)\n(exit)\n)\n)\n)\n)\n(next orphan NOTES%)\n(for NOTE% dispatched)\n)\n)\n"; writes = "(graph 0 11\n(node 0 50 0 (0) (in) (succ 1) (pred 5))\n(node 1 50 0 (1) (in) (succ 2) (pred 0 4))\n(node 2 50 0 (2) (in) (succ 3) (pred 1))\n(node 3 50 0 (3) (in) (succ 4) (pred 2))\n(node 4 50 0 (4) (in) (succ 1 5) (pred 3))\n(node 5 50 0 (5) (in) (succ 0 6) (pred 4))\n(node 6 50 0 (5 0) (in 5) (succ 9 7) (pred 5))\n(node 7 50 0 (5 0 0) (in 6) (succ 8) (pred 6))\n(node 8 50 0 (5 0 1) (in 6) (succ) (pred 7))\n(node 9 50 0 (6) (in) (succ 10) (pred 6))\n(node 10 50 0 (7) (in) (succ) (pred 9))\n(entry 50 0)\n(returns)\n)\n" } ∷
    record { text = "(module 0\n(line 10\n(any)\n(clr)\n(clr)\n)\n(line 30\n(doif)\n(stop)\n)\n(line 999\n(else)\n(return)\n(gosub 999)\n)\n)\n"; writes = "(graph 0 8\n(node 0 10 0 (0) (in) (succ 0 3 5) (pred 0))\n(node 1 10 0 (1) (in) (succ 2) (pred))\n(node 2 10 0 (2) (in) (succ 3) (pred 1))\n(node 3 30 1 (0) (in) (succ 4 6) (pred 0 2))\n(node 4 30 1 (1) (in) (succ) (pred 3))\n(node 5 999 2 (0) (in) (succ) (pred 0 7))\n(node 6 999 2 (1) (in) (succ) (pred 3))\n(node 7 999 2 (2) (in) (succ 5) (pred))\n(entry 10 0)\n(entry 30 3)\n(entry 999 5)\n(returns)\n)\n" } ∷
    []

right-table : T (right table)
unfolding opened right table
right-table = tt
