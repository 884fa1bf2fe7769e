-- Random listings with the original's graphs. Assumes nothing.
use Rattle.std.specs.Prelude.{List, [], ◌∷◌, true, false, T}
use Rattle.vectors.specs.Vector.{Vector, right, opened}

table : List Vector
table =
    record { text = "(module 0\n(line 5\n(next orphan *)\n(if\n(stmts\n)\n)\n(next orphan CO2 LOOPVAR1$ LOOPVAR1$ *)\n(return)\n(if\n(stmts\n(next orphan LOOPVAR1$)\n(if\n(to 5)\n)\n(next plain *)\n)\n)\n)\n(line 30\n)\n(line 65534\n(for L1 dispatched)\n(if\n(stmts\n)\n)\n)\n)\n"; writes = "(graph 0 10\n(node 0 5 0 (0) (in) (succ 1 9) (pred 6))\n(node 1 5 0 (1) (in) (succ 2) (pred 0))\n(node 2 5 0 (2) (in) (succ 3 9) (pred 1))\n(node 3 5 0 (3) (in) (succ) (pred 2))\n(node 4 5 0 (4) (in) (succ 5 8) (pred))\n(node 5 5 0 (4 0) (in 4) (succ 6) (pred 4))\n(node 6 5 0 (4 1) (in 4) (succ 0 7) (pred 5))\n(node 7 5 0 (4 2) (in 4) (succ 8) (pred 6))\n(node 8 65534 2 (0) (in) (succ 9) (pred 4 7))\n(node 9 65534 2 (1) (in) (succ) (pred 0 2 8))\n(entry 5 0)\n(entry 30 8)\n(entry 65534 8)\n(returns)\n)\n" } ∷
    record { text = "(module 1\n(line 100\n(for LOOPVAR1$ static)\n(gosub 100)\n(ongoto 65534 999 100)\n(done)\n(gosub 100)\n(return)\n)\n(line 999\n(next plain LOOPVAR1$)\n(plain)\n)\n)\n"; writes = "(graph 0 8\n(node 0 100 0 (0) (in) (succ 1) (pred 1 2 4))\n(node 1 100 0 (1) (in) (succ 0) (pred 0 6))\n(node 2 100 0 (2) (in) (succ 6 0 3) (pred 5))\n(node 3 100 0 (3) (in) (succ 4) (pred 2))\n(node 4 100 0 (4) (in) (succ 0) (pred 3))\n(node 5 100 0 (5) (in) (succ 2 5) (pred 5))\n(node 6 999 1 (0) (in) (succ 1 7) (pred 2))\n(node 7 999 1 (1) (in) (succ) (pred 6))\n(entry 100 0)\n(entry 999 6)\n(returns 2 5)\n(back 1 2)\n(back 4 5)\n)\n" } ∷
    record { text = "(module 0\n(line 20\n(gosub 20)\n(gosub 20)\n(for I static)\n(ongosub 20 20)\n(gosub 20)\n(next plain AB%)\n(if\n(stmts\n(gosub 20)\n)\n)\n(for ABCDEFGH% static)\n(return)\n)\n)\n"; writes = "(graph 0 10\n(node 0 20 0 (0) (in) (succ 0) (pred 0 1 3 4 7))\n(node 1 20 0 (1) (in) (succ 0) (pred 9))\n(node 2 20 0 (2) (in) (succ 3) (pred 9))\n(node 3 20 0 (3) (in) (succ 0 4) (pred 2))\n(node 4 20 0 (4) (in) (succ 0) (pred 3 9))\n(node 5 20 0 (5) (in) (succ 6) (pred 9))\n(node 6 20 0 (6) (in) (succ 7 8) (pred 5))\n(node 7 20 0 (6 0) (in 6) (succ 0) (pred 6))\n(node 8 20 0 (7) (in) (succ 9) (pred 6 9))\n(node 9 20 0 (8) (in) (succ 1 2 4 5 8) (pred 8))\n(entry 20 0)\n(returns 1 2 4 5 8)\n(back 0 1)\n(back 1 2)\n(back 3 4)\n(back 4 5)\n(back 7 8)\n)\n" } ∷
    record { text = "(module 1\n(line 1\n(ifelse\n(stmts\n)\n(stmts\n(return)\n(rcomp\n(stmts\n)\n(stmts\n(plain)\n)\n)\n)\n)\n(else)\n(done)\n(return)\n(gosub 1)\n)\n)\n"; writes = "(graph 0 8\n(node 0 1 0 (0) (in) (succ 4 1) (pred 7))\n(node 1 1 0 (0 0) (in 0) (succ) (pred 0))\n(node 2 1 0 (0 1) (in 0) (succ 4 3) (pred))\n(node 3 1 0 (0 1 0) (in 2) (succ 4) (pred 2))\n(node 4 1 0 (1) (in) (succ) (pred 0 2 3))\n(node 5 1 0 (2) (in) (succ 6) (pred))\n(node 6 1 0 (3) (in) (succ) (pred 5))\n(node 7 1 0 (4) (in) (succ 0) (pred))\n(entry 1 0)\n(returns)\n)\n" } ∷
    record { text = "(module 0\n(line 30\n)\n(line 40\n(loop)\n(loop)\n(endloop)\n(loop)\n)\n(line 50\n)\n(line 100\n(exitif)\n(exitif)\n(until)\n(until)\n)\n(line 999\n)\n)\n"; writes = "(graph 0 8\n(node 0 40 1 (0) (in) (succ 1) (pred))\n(node 1 40 1 (1) (in) (succ 2) (pred 0 7))\n(node 2 40 1 (2) (in) (succ 2) (pred 1 2))\n(node 3 40 1 (3) (in) (succ 4) (pred))\n(node 4 100 3 (0) (in) (succ 5 7) (pred 3 6))\n(node 5 100 3 (1) (in) (succ 6 7) (pred 4))\n(node 6 100 3 (2) (in) (succ 4 7) (pred 5))\n(node 7 100 3 (3) (in) (succ 1) (pred 4 5 6))\n(entry 30 0)\n(entry 40 0)\n(entry 50 4)\n(entry 100 4)\n(returns)\n)\n" } ∷
    record { text = "(module 0\n(line 1\n(for Z9Z% dispatched)\n(next orphan Z99%)\n(return)\n)\n)\n"; writes = "(graph 0 3\n(node 0 1 0 (0) (in) (succ 1) (pred))\n(node 1 1 0 (1) (in) (succ 1 2) (pred 0 1))\n(node 2 1 0 (2) (in) (succ) (pred 1))\n(entry 1 0)\n(returns)\n)\n" } ∷
    record { text = "(module 0\n(line 1\n(exitif)\n(if\n(stmts\n(loop)\n(until)\n(ifelse\n(stmts\n(if\n(stmts\n(ifelse\n(to 999)\n(to 40)\n)\n(repeat)\n)\n)\n(endloop)\n)\n(stmts\n)\n)\n)\n)\n)\n(line 40\n)\n(line 999\n)\n)\n"; writes = "(graph 0 9\n(node 0 1 0 (0) (in) (succ 1) (pred))\n(node 1 1 0 (1) (in) (succ 2) (pred 0))\n(node 2 1 0 (1 0) (in 1) (succ 3) (pred 1))\n(node 3 1 0 (1 1) (in 1) (succ 3 4) (pred 2 3))\n(node 4 1 0 (1 2) (in 1) (succ 5) (pred 3))\n(node 5 1 0 (1 2 0) (in 4) (succ 6 8) (pred 4))\n(node 6 1 0 (1 2 0 0) (in 5) (succ) (pred 5))\n(node 7 1 0 (1 2 0 1) (in 5) (succ 8) (pred))\n(node 8 1 0 (1 2 1) (in 4) (succ 8) (pred 5 7 8))\n(entry 1 0)\n(returns)\n)\n" } ∷
    record { text = "(module 0\n(line 5\n(else)\n(next plain COUNT COUNT * CO)\n(else)\n)\n(line 100\n(next plain COUNT)\n(clr)\n)\n(line 65534\n(gosub 5)\n(else)\n(ongosub 100)\n(plain)\n(next orphan *)\n(else)\n)\n)\n"; writes = "(graph 0 11\n(node 0 5 0 (0) (in) (succ) (pred 5))\n(node 1 5 0 (1) (in) (succ 2) (pred))\n(node 2 5 0 (2) (in) (succ) (pred 1))\n(node 3 100 1 (0) (in) (succ 4) (pred 7))\n(node 4 100 1 (1) (in) (succ 5) (pred 3))\n(node 5 65534 2 (0) (in) (succ 0) (pred 4))\n(node 6 65534 2 (1) (in) (succ) (pred))\n(node 7 65534 2 (2) (in) (succ 3 8) (pred))\n(node 8 65534 2 (3) (in) (succ 9) (pred 7))\n(node 9 65534 2 (4) (in) (succ 10) (pred 8))\n(node 10 65534 2 (5) (in) (succ) (pred 9))\n(entry 5 0)\n(entry 100 3)\n(entry 65534 5)\n(returns 6 8)\n(back 5 6)\n(back 7 8)\n)\n" } ∷
    record { text = "(module 0\n(line 1\n(plain)\n(if\n(stmts\n)\n)\n)\n(line 30\n(ifelse\n(stmts\n(until)\n(if\n(stmts\n(clr)\n(exit)\n)\n)\n)\n(stmts\n)\n)\n(if\n(stmts\n(plain)\n(repeat)\n)\n)\n(plain)\n)\n(line 40\n)\n(line 50\n(ifelse\n(to 40)\n(stmts\n)\n)\n)\n(line 65534\n)\n(line 65535\n)\n)\n"; writes = "(graph 0 12\n(node 0 1 0 (0) (in) (succ 1) (pred))\n(node 1 1 0 (1) (in) (succ 2) (pred 0))\n(node 2 30 1 (0) (in) (succ 3 7) (pred 1))\n(node 3 30 1 (0 0) (in 2) (succ) (pred 2))\n(node 4 30 1 (0 1) (in 2) (succ 5 7) (pred))\n(node 5 30 1 (0 1 0) (in 4) (succ 6) (pred 4))\n(node 6 30 1 (0 1 1) (in 4) (succ) (pred 5))\n(node 7 30 1 (1) (in) (succ 8 10) (pred 2 4))\n(node 8 30 1 (1 0) (in 7) (succ 9) (pred 7))\n(node 9 30 1 (1 1) (in 7) (succ 10) (pred 8))\n(node 10 30 1 (2) (in) (succ 11) (pred 7 9))\n(node 11 50 3 (0) (in) (succ 11) (pred 10 11))\n(entry 1 0)\n(entry 30 2)\n(entry 40 11)\n(entry 50 11)\n(returns)\n)\n" } ∷
    record { text = "(module 0\n(line 50\n(repeat)\n(exitif)\n)\n(line 65535\n(endloop)\n(loop)\n(for AC% static)\n(repeat)\n(doif)\n(next plain *)\n(endloop)\n)\n)\n"; writes = "(graph 0 9\n(node 0 50 0 (0) (in) (succ 1) (pred))\n(node 1 50 0 (1) (in) (succ 2 3) (pred 0 2))\n(node 2 65535 1 (0) (in) (succ 1) (pred 1))\n(node 3 65535 1 (1) (in) (succ 4) (pred 1))\n(node 4 65535 1 (2) (in) (succ 5) (pred 3))\n(node 5 65535 1 (3) (in) (succ 6) (pred 4 7))\n(node 6 65535 1 (4) (in) (succ 7) (pred 5 8))\n(node 7 65535 1 (5) (in) (succ 5 8) (pred 6))\n(node 8 65535 1 (6) (in) (succ 6) (pred 7))\n(entry 50 0)\n(entry 65535 2)\n(returns)\n)\n" } ∷
    record { text = "(module 0\n(line 5\n(return)\n(for ABCDEFGH static)\n(for ABCDEFG dispatched)\n)\n(line 50\n(gosub 5)\n(next plain ABCDEFGH)\n(rcomp\n(stmts\n(if\n(to 50)\n)\n)\n(stmts\n(ongoto)\n(gosub 50)\n)\n)\n(ongosub 0 65534 65534 50)\n)\n(line 65534\n)\n)\n"; writes = "(graph 0 10\n(node 0 5 0 (0) (in) (succ 4) (pred 3))\n(node 1 5 0 (1) (in) (succ 2) (pred))\n(node 2 5 0 (2) (in) (succ 3) (pred 1))\n(node 3 50 1 (0) (in) (succ 0) (pred 2 4 6 8 9))\n(node 4 50 1 (1) (in) (succ 3 5) (pred 0))\n(node 5 50 1 (2) (in) (succ 6 7) (pred 4))\n(node 6 50 1 (2 0) (in 5) (succ 3 9) (pred 5))\n(node 7 50 1 (2 1) (in 5) (succ 8) (pred 5))\n(node 8 50 1 (2 2) (in 5) (succ 3) (pred 7))\n(node 9 50 1 (3) (in) (succ 3) (pred 6))\n(entry 5 0)\n(entry 50 3)\n(returns 4 9)\n(back 3 4)\n(back 8 9)\n)\n" } ∷
    record { text = "(module 0\n(line 1\n(gosub 1)\n(next plain L1)\n)\n(line 30\n(next plain * L1)\n(gosub 40)\n)\n(line 40\n(return)\n(gosub 999)\n(next plain I)\n)\n(line 50\n(next orphan L)\n)\n(line 999\n(if\n(to 999)\n)\n(for L1 static)\n(for I static)\n)\n)\n"; writes = "(graph 0 11\n(node 0 1 0 (0) (in) (succ 0) (pred 0))\n(node 1 1 0 (1) (in) (succ 2) (pred 4))\n(node 2 30 1 (0) (in) (succ 3) (pred 1))\n(node 3 30 1 (1) (in) (succ 4) (pred 2))\n(node 4 40 2 (0) (in) (succ 1 4) (pred 3 4))\n(node 5 40 2 (1) (in) (succ 8) (pred))\n(node 6 40 2 (2) (in) (succ 7) (pred))\n(node 7 50 3 (0) (in) (succ 8) (pred 6))\n(node 8 999 4 (0) (in) (succ 8 9) (pred 5 7 8))\n(node 9 999 4 (1) (in) (succ 10) (pred 8))\n(node 10 999 4 (2) (in) (succ) (pred 9))\n(entry 1 0)\n(entry 30 2)\n(entry 40 4)\n(entry 50 7)\n(entry 999 8)\n(returns 1 4 6)\n(back 0 1)\n(back 3 4)\n(back 5 6)\n)\n" } ∷
    record { text = "(module 0\n(line 65534\n(next orphan A%)\n(for A% dispatched)\n)\n)\n"; writes = "(graph 0 2\n(node 0 65534 0 (0) (in) (succ 1) (pred))\n(node 1 65534 0 (1) (in) (succ) (pred 0))\n(entry 65534 0)\n(returns)\n)\n" } ∷
    record { text = "(module 1\n(line 1\n(for COUNT static)\n(for COUNTER static)\n(any)\n)\n(line 50\n)\n)\n"; writes = "(graph 0 3\n(node 0 1 0 (0) (in) (succ 1) (pred 2))\n(node 1 1 0 (1) (in) (succ 2) (pred 0))\n(node 2 1 0 (2) (in) (succ 0) (pred 1))\n(entry 1 0)\n(returns)\n)\n" } ∷
    record { text = "(module 0\n(line 0\n(goto 30)\n(goto 30)\n(next orphan)\n(clr)\n(else)\n(if\n(stmts\n(until)\n)\n)\n(ongosub 30 0 30)\n(return)\n)\n(line 30\n(gosub 0)\n)\n)\n"; writes = "(graph 0 10\n(node 0 0 0 (0) (in) (succ 9) (pred 7 9))\n(node 1 0 0 (1) (in) (succ 9) (pred))\n(node 2 0 0 (2) (in) (succ 3) (pred))\n(node 3 0 0 (3) (in) (succ 4) (pred 2))\n(node 4 0 0 (4) (in) (succ) (pred 3))\n(node 5 0 0 (5) (in) (succ 6 7) (pred))\n(node 6 0 0 (5 0) (in 5) (succ) (pred 5))\n(node 7 0 0 (6) (in) (succ 9 0 8) (pred 5))\n(node 8 0 0 (7) (in) (succ) (pred 7))\n(node 9 30 1 (0) (in) (succ 0) (pred 0 1 7))\n(entry 0 0)\n(entry 30 9)\n(returns 8)\n(back 7 8)\n)\n" } ∷
    record { text = "(module 1\n(line 0\n(any)\n)\n)\n"; writes = "(graph 0 1\n(node 0 0 0 (0) (in) (succ 0) (pred 0))\n(entry 0 0)\n(returns)\n)\n" } ∷
    record { text = "(module 0\n(line 50\n(for AB% dispatched)\n(next orphan ABCDEFGH%)\n(next plain ABCDEFGH%)\n)\n(line 999\n(for ABCDEFGH% static)\n(if\n(to 999)\n)\n(for NN% framed)\n(gosub 999)\n(ifelse\n(stmts\n(for AB% static)\n(ongoto 999)\n(any)\n)\n(to 50)\n)\n)\n)\n"; writes = "(graph 0 11\n(node 0 50 0 (0) (in) (succ 1) (pred 7 10))\n(node 1 50 0 (1) (in) (succ 1 2) (pred 0 1))\n(node 2 50 0 (2) (in) (succ 3) (pred 1))\n(node 3 999 1 (0) (in) (succ 4) (pred 2 4 6 9 10))\n(node 4 999 1 (1) (in) (succ 3 5) (pred 3))\n(node 5 999 1 (2) (in) (succ 6) (pred 4))\n(node 6 999 1 (3) (in) (succ 3) (pred 5))\n(node 7 999 1 (4) (in) (succ 8 0) (pred))\n(node 8 999 1 (4 0) (in 7) (succ 9) (pred 7))\n(node 9 999 1 (4 1) (in 7) (succ 3 10) (pred 8))\n(node 10 999 1 (4 2) (in 7) (succ 0 3) (pred 9))\n(entry 50 0)\n(entry 999 3)\n(returns 7)\n(back 6 7)\n)\n" } ∷
    record { text = "(module 0\n(line 0\n(ongosub 0 65534)\n(ongosub 0 30 0 30)\n(gosub 65534)\n(clr)\n(for COUNT dispatched)\n(gosub 0)\n(return)\n)\n(line 30\n(stop)\n(gosub 65534)\n(return)\n(ongosub 0 0)\n(gosub 30)\n)\n(line 65534\n)\n)\n"; writes = "(graph 0 12\n(node 0 0 0 (0) (in) (succ 0 1) (pred 0 1 5 10))\n(node 1 0 0 (1) (in) (succ 0 7 2) (pred 0 6))\n(node 2 0 0 (2) (in) (succ) (pred 1 6))\n(node 3 0 0 (3) (in) (succ 4) (pred))\n(node 4 0 0 (4) (in) (succ 5) (pred 3))\n(node 5 0 0 (5) (in) (succ 0) (pred 4))\n(node 6 0 0 (6) (in) (succ 1 2 6 11) (pred 6))\n(node 7 30 1 (0) (in) (succ) (pred 1 11))\n(node 8 30 1 (1) (in) (succ) (pred))\n(node 9 30 1 (2) (in) (succ) (pred))\n(node 10 30 1 (3) (in) (succ 0 11) (pred))\n(node 11 30 1 (4) (in) (succ 7) (pred 6 10))\n(entry 0 0)\n(entry 30 7)\n(returns 1 2 3 6 9 11)\n(back 0 1)\n(back 1 2)\n(back 2 3)\n(back 5 6)\n(back 8 9)\n(back 10 11)\n)\n" } ∷
    record { text = "(module 0\n(line 5\n(next orphan *)\n(gosub 5)\n(doif)\n(for J dispatched)\n(doif)\n(endloop)\n(return)\n)\n)\n"; writes = "(graph 0 7\n(node 0 5 0 (0) (in) (succ 1 4) (pred 1))\n(node 1 5 0 (1) (in) (succ 0) (pred 0))\n(node 2 5 0 (2) (in) (succ 3) (pred))\n(node 3 5 0 (3) (in) (succ 4) (pred 2))\n(node 4 5 0 (4) (in) (succ 5) (pred 0 3))\n(node 5 5 0 (5) (in) (succ) (pred 4))\n(node 6 5 0 (6) (in) (succ) (pred))\n(entry 5 0)\n(returns 2)\n(back 1 2)\n)\n" } ∷
    record { text = "(module 0\n(line 10\n(gosub 0)\n(return)\n(for COUNT dispatched)\n(next orphan COUNTER)\n(return)\n)\n)\n"; writes = "(graph 0 5\n(node 0 10 0 (0) (in) (succ) (pred))\n(node 1 10 0 (1) (in) (succ) (pred))\n(node 2 10 0 (2) (in) (succ 3) (pred))\n(node 3 10 0 (3) (in) (succ 3 4) (pred 2 3))\n(node 4 10 0 (4) (in) (succ) (pred 3))\n(entry 10 0)\n(returns 1)\n(back 0 1)\n)\n" } ∷
    record { text = "(module 0\n(line 0\n(any)\n(done)\n(clr)\n)\n(line 10\n(for A static)\n(clr)\n(next plain * A1B2% *)\n(else)\n(return)\n)\n(line 30\n(next plain A1B2%)\n(gosub 10)\n)\n)\n"; writes = "(graph 0 10\n(node 0 0 0 (0) (in) (succ 0 3 8) (pred 0))\n(node 1 0 0 (1) (in) (succ 2) (pred))\n(node 2 0 0 (2) (in) (succ 3) (pred 1))\n(node 3 10 1 (0) (in) (succ 4) (pred 0 2 9))\n(node 4 10 1 (1) (in) (succ 5) (pred 3 5))\n(node 5 10 1 (2) (in) (succ 4 6) (pred 4))\n(node 6 10 1 (3) (in) (succ) (pred 5))\n(node 7 10 1 (4) (in) (succ) (pred))\n(node 8 30 2 (0) (in) (succ 9) (pred 0))\n(node 9 30 2 (1) (in) (succ 3) (pred 8))\n(entry 0 0)\n(entry 10 3)\n(entry 30 8)\n(returns)\n)\n" } ∷
    record { text = "(module 1\n(line 10\n(return)\n(ongosub 10 10)\n(any)\n)\n)\n"; writes = "(graph 0 3\n(node 0 10 0 (0) (in) (succ 2) (pred 1 2))\n(node 1 10 0 (1) (in) (succ 0 2) (pred))\n(node 2 10 0 (2) (in) (succ 0) (pred 0 1))\n(entry 10 0)\n(returns 2)\n(back 1 2)\n)\n" } ∷
    record { text = "(module 0\n(line 20\n(doif)\n(next plain NO% * N% NOTES%)\n(doif)\n)\n(line 50\n(for COUNTER dispatched)\n(next orphan I$ N%)\n(until)\n(plain)\n)\n)\n"; writes = "(graph 0 7\n(node 0 20 0 (0) (in) (succ 1) (pred))\n(node 1 20 0 (1) (in) (succ 2) (pred 0))\n(node 2 20 0 (2) (in) (succ 3) (pred 1))\n(node 3 50 1 (0) (in) (succ 4) (pred 2))\n(node 4 50 1 (1) (in) (succ 5) (pred 3))\n(node 5 50 1 (2) (in) (succ) (pred 4))\n(node 6 50 1 (3) (in) (succ) (pred))\n(entry 20 0)\n(entry 50 3)\n(returns)\n)\n" } ∷
    record { text = "(module 0\n(line 30\n(clr)\n(return)\n(return)\n(for K static)\n)\n(line 65535\n(if\n(to 30)\n)\n(plain)\n(next plain *)\n(return)\n)\n)\n"; writes = "(graph 0 8\n(node 0 30 0 (0) (in) (succ 1) (pred 4))\n(node 1 30 0 (1) (in) (succ) (pred 0))\n(node 2 30 0 (2) (in) (succ) (pred))\n(node 3 30 0 (3) (in) (succ 4) (pred))\n(node 4 65535 1 (0) (in) (succ 0 5) (pred 3 6))\n(node 5 65535 1 (1) (in) (succ 6) (pred 4))\n(node 6 65535 1 (2) (in) (succ 4 7) (pred 5))\n(node 7 65535 1 (3) (in) (succ) (pred 6))\n(entry 30 0)\n(entry 65535 4)\n(returns)\n)\n" } ∷
    record { text = "(module 0\n(line 1\n(next plain COUNT)\n(for COUNT static)\n)\n)\n"; writes = "(graph 0 2\n(node 0 1 0 (0) (in) (succ 1) (pred))\n(node 1 1 0 (1) (in) (succ) (pred 0))\n(entry 1 0)\n(returns)\n)\n" } ∷
    record { text = "(module 1\n(line 10\n(for NOTE% static)\n(next plain NOTES%)\n(if\n(to 65534)\n)\n(ongosub 65534 65534)\n(next orphan NO%)\n)\n(line 65534\n(for NOTES% dispatched)\n(gosub 65534)\n(else)\n(return)\n(plain)\n)\n)\n"; writes = "(graph 0 10\n(node 0 10 0 (0) (in) (succ 1) (pred))\n(node 1 10 0 (1) (in) (succ 1 2) (pred 0 1))\n(node 2 10 0 (2) (in) (succ 5 3) (pred 1))\n(node 3 10 0 (3) (in) (succ 5 4) (pred 2))\n(node 4 10 0 (4) (in) (succ 5 6) (pred 3 8))\n(node 5 65534 1 (0) (in) (succ 6) (pred 2 3 4 6))\n(node 6 65534 1 (1) (in) (succ 5) (pred 4 5))\n(node 7 65534 1 (2) (in) (succ) (pred 8))\n(node 8 65534 1 (3) (in) (succ 4 7) (pred))\n(node 9 65534 1 (4) (in) (succ) (pred))\n(entry 10 0)\n(entry 65534 5)\n(returns 4 7)\n(back 3 4)\n(back 6 7)\n)\n" } ∷
    record { text = "(module 0\n(line 10\n(ongosub)\n(endloop)\n(gosub 10)\n(return)\n(return)\n(gosub 30)\n(ongosub)\n(gosub 999)\n(return)\n(gosub 999)\n)\n(line 999\n(if\n(to 10)\n)\n(gosub 10)\n)\n)\n"; writes = "(graph 0 12\n(node 0 10 0 (0) (in) (succ 1) (pred 2 10 11))\n(node 1 10 0 (1) (in) (succ) (pred 0))\n(node 2 10 0 (2) (in) (succ 0) (pred))\n(node 3 10 0 (3) (in) (succ) (pred))\n(node 4 10 0 (4) (in) (succ) (pred))\n(node 5 10 0 (5) (in) (succ) (pred))\n(node 6 10 0 (6) (in) (succ 7) (pred))\n(node 7 10 0 (7) (in) (succ 10) (pred 6))\n(node 8 10 0 (8) (in) (succ) (pred))\n(node 9 10 0 (9) (in) (succ 10) (pred))\n(node 10 999 1 (0) (in) (succ 0 11) (pred 7 9))\n(node 11 999 1 (1) (in) (succ 0) (pred 10))\n(entry 10 0)\n(entry 999 10)\n(returns 1 3 6 7 8 10)\n(back 0 1)\n(back 2 3)\n(back 5 6)\n(back 6 7)\n(back 7 8)\n(back 9 10)\n)\n" } ∷
    record { text = "(module 0\n(line 20\n(return)\n(return)\n(plain)\n(if\n(stmts\n(return)\n)\n)\n)\n)\n"; writes = "(graph 0 5\n(node 0 20 0 (0) (in) (succ) (pred))\n(node 1 20 0 (1) (in) (succ) (pred))\n(node 2 20 0 (2) (in) (succ 3) (pred))\n(node 3 20 0 (3) (in) (succ 4) (pred 2))\n(node 4 20 0 (3 0) (in 3) (succ) (pred 3))\n(entry 20 0)\n(returns)\n)\n" } ∷
    record { text = "(module 1\n(line 0\n(for ABCDEFGH static)\n(return)\n(return)\n(gosub 0)\n(plain)\n(next plain ABCDEFG)\n(return)\n)\n)\n"; writes = "(graph 0 7\n(node 0 0 0 (0) (in) (succ 1) (pred 3))\n(node 1 0 0 (1) (in) (succ 4) (pred 0 5))\n(node 2 0 0 (2) (in) (succ 4) (pred))\n(node 3 0 0 (3) (in) (succ 0) (pred))\n(node 4 0 0 (4) (in) (succ 5) (pred 1 2 6))\n(node 5 0 0 (5) (in) (succ 1 6) (pred 4))\n(node 6 0 0 (6) (in) (succ 4) (pred 5))\n(entry 0 0)\n(returns 4)\n(back 3 4)\n)\n" } ∷
    record { text = "(module 1\n(line 5\n)\n(line 100\n(next plain *)\n(for NN% static)\n(next orphan NOTES%)\n(for NOTES% dispatched)\n(any)\n)\n)\n"; writes = "(graph 0 5\n(node 0 100 1 (0) (in) (succ 1) (pred 4))\n(node 1 100 1 (1) (in) (succ 2) (pred 0))\n(node 2 100 1 (2) (in) (succ 3 4) (pred 1))\n(node 3 100 1 (3) (in) (succ 4) (pred 2))\n(node 4 100 1 (4) (in) (succ 0) (pred 2 3))\n(entry 5 0)\n(entry 100 0)\n(returns)\n)\n" } ∷
    record { text = "(module 1\n(line 5\n(goto 40)\n(goto 5)\n(loop)\n(endloop)\n(repeat)\n(return)\n(endloop)\n(exit)\n(ongosub 5 5)\n(exitif)\n(return)\n(any)\n)\n)\n"; writes = "(graph 0 12\n(node 0 5 0 (0) (in) (succ) (pred 1 8 11))\n(node 1 5 0 (1) (in) (succ 0) (pred))\n(node 2 5 0 (2) (in) (succ 3) (pred))\n(node 3 5 0 (3) (in) (succ 3) (pred 2 3))\n(node 4 5 0 (4) (in) (succ 5) (pred))\n(node 5 5 0 (5) (in) (succ 9) (pred 4 6))\n(node 6 5 0 (6) (in) (succ 5) (pred))\n(node 7 5 0 (7) (in) (succ) (pred))\n(node 8 5 0 (8) (in) (succ 0 9) (pred))\n(node 9 5 0 (9) (in) (succ 10) (pred 5 8 10))\n(node 10 5 0 (10) (in) (succ 9) (pred 9))\n(node 11 5 0 (11) (in) (succ 0) (pred))\n(entry 5 0)\n(returns 9)\n(back 8 9)\n)\n" } ∷
    record { text = "(module 0\n(line 10\n(clr)\n(endloop)\n(next orphan CO1)\n)\n(line 999\n(for COUNT dispatched)\n(return)\n)\n)\n"; writes = "(graph 0 5\n(node 0 10 0 (0) (in) (succ 1) (pred))\n(node 1 10 0 (1) (in) (succ) (pred 0))\n(node 2 10 0 (2) (in) (succ 3 4) (pred))\n(node 3 999 1 (0) (in) (succ 4) (pred 2))\n(node 4 999 1 (1) (in) (succ) (pred 2 3))\n(entry 10 0)\n(entry 999 3)\n(returns)\n)\n" } ∷
    record { text = "(module 0\n(line 999\n)\n)\n"; writes = "(graph 0 0\n(returns)\n)\n" } ∷
    record { text = "(module 1\n(line 0\n(for Z9$ dispatched)\n(next orphan *)\n(next plain *)\n(for Z9$ static)\n(plain)\n)\n)\n"; writes = "(graph 0 5\n(node 0 0 0 (0) (in) (succ 1) (pred))\n(node 1 0 0 (1) (in) (succ 1 2) (pred 0 1))\n(node 2 0 0 (2) (in) (succ 3) (pred 1))\n(node 3 0 0 (3) (in) (succ 4) (pred 2))\n(node 4 0 0 (4) (in) (succ) (pred 3))\n(entry 0 0)\n(returns)\n)\n" } ∷
    record { text = "(module 0\n(line 20\n(clr)\n(for J static)\n(exit)\n(plain)\n(next orphan *)\n(any)\n(stop)\n(any)\n(stop)\n(exit)\n)\n(line 999\n(for COUNT dispatched)\n(next plain *)\n)\n)\n"; writes = "(graph 0 12\n(node 0 20 0 (0) (in) (succ 1) (pred 5 7))\n(node 1 20 0 (1) (in) (succ 2) (pred 0))\n(node 2 20 0 (2) (in) (succ) (pred 1 4))\n(node 3 20 0 (3) (in) (succ 4) (pred))\n(node 4 20 0 (4) (in) (succ 2 5 11) (pred 3))\n(node 5 20 0 (5) (in) (succ 0 10) (pred 4))\n(node 6 20 0 (6) (in) (succ) (pred))\n(node 7 20 0 (7) (in) (succ 0 10) (pred))\n(node 8 20 0 (8) (in) (succ) (pred))\n(node 9 20 0 (9) (in) (succ) (pred))\n(node 10 999 1 (0) (in) (succ 11) (pred 5 7))\n(node 11 999 1 (1) (in) (succ 11) (pred 4 10 11))\n(entry 20 0)\n(entry 999 10)\n(returns)\n)\n" } ∷
    record { text = "(module 1\n(line 5\n(ongosub 5 5)\n(return)\n)\n(line 999\n(any)\n)\n)\n"; writes = "(graph 0 3\n(node 0 5 0 (0) (in) (succ 0 1) (pred 0 2))\n(node 1 5 0 (1) (in) (succ 1) (pred 0 1))\n(node 2 999 1 (0) (in) (succ 0 2) (pred 2))\n(entry 5 0)\n(entry 999 2)\n(returns 1)\n(back 0 1)\n)\n" } ∷
    record { text = "(module 0\n(line 20\n(for LOOPVAR2 static)\n(next plain LO)\n)\n)\n"; writes = "(graph 0 2\n(node 0 20 0 (0) (in) (succ 1) (pred))\n(node 1 20 0 (1) (in) (succ 1) (pred 0 1))\n(entry 20 0)\n(returns)\n)\n" } ∷
    record { text = "(module 0\n(line 50\n(exitif)\n(next plain COUNTER)\n(return)\n)\n(line 999\n(plain)\n)\n)\n"; writes = "(graph 0 4\n(node 0 50 0 (0) (in) (succ 1) (pred))\n(node 1 50 0 (1) (in) (succ 2) (pred 0))\n(node 2 50 0 (2) (in) (succ) (pred 1))\n(node 3 999 1 (0) (in) (succ) (pred))\n(entry 50 0)\n(entry 999 3)\n(returns)\n)\n" } ∷
    record { text = "(module 0\n(line 65534\n(return)\n(gosub 65534)\n)\n)\n"; writes = "(graph 0 2\n(node 0 65534 0 (0) (in) (succ) (pred 1))\n(node 1 65534 0 (1) (in) (succ 0) (pred))\n(entry 65534 0)\n(returns)\n)\n" } ∷
    record { text = "(module 0\n(line 999\n(for COUNTER dispatched)\n(next orphan * COUNTER COUNT CO1)\n(return)\n(gosub 999)\n(next orphan COUNT)\n)\n)\n"; writes = "(graph 0 5\n(node 0 999 0 (0) (in) (succ 1) (pred 3))\n(node 1 999 0 (1) (in) (succ 1 2) (pred 0 1 4))\n(node 2 999 0 (2) (in) (succ 4) (pred 1))\n(node 3 999 0 (3) (in) (succ 0) (pred))\n(node 4 999 0 (4) (in) (succ 1) (pred 2))\n(entry 999 0)\n(returns 4)\n(back 3 4)\n)\n" } ∷
    record { text = "(module 0\n(line 0\n(plain)\n)\n(line 10\n(ifelse\n(to 50)\n(stmts\n(if\n(stmts\n(stop)\n(return)\n(ifelse\n(stmts\n(gosub 5)\n)\n(stmts\n)\n)\n)\n)\n(if\n(stmts\n(ongosub 20 30 30)\n(return)\n(doif)\n)\n)\n(next orphan CO1)\n)\n)\n)\n(line 20\n)\n(line 30\n)\n(line 50\n)\n(line 65535\n)\n)\n"; writes = "(graph 0 12\n(node 0 0 0 (0) (in) (succ 1) (pred))\n(node 1 10 1 (0) (in) (succ 2) (pred 0))\n(node 2 10 1 (0 0) (in 1) (succ 3 7) (pred 1))\n(node 3 10 1 (0 0 0) (in 2) (succ) (pred 2))\n(node 4 10 1 (0 0 1) (in 2) (succ) (pred))\n(node 5 10 1 (0 0 2) (in 2) (succ 6 7) (pred))\n(node 6 10 1 (0 0 2 0) (in 5) (succ) (pred 5))\n(node 7 10 1 (0 1) (in 1) (succ 8 11) (pred 2 5))\n(node 8 10 1 (0 1 0) (in 7) (succ 9) (pred 7))\n(node 9 10 1 (0 1 1) (in 7) (succ) (pred 8))\n(node 10 10 1 (0 1 2) (in 7) (succ 11) (pred))\n(node 11 10 1 (0 2) (in 1) (succ) (pred 7 10))\n(entry 0 0)\n(entry 10 1)\n(returns 7 9)\n(back 6 7)\n(back 8 9)\n)\n" } ∷
    record { text = "(module 1\n(line 10\n(any)\n)\n(line 30\n(ongosub 50 50)\n(ongosub 50 50)\n(until)\n(next plain C)\n(exitif)\n(doif)\n)\n(line 50\n(exitif)\n(until)\n(loop)\n(return)\n)\n(line 65535\n)\n)\n"; writes = "(graph 0 11\n(node 0 10 0 (0) (in) (succ 0 1 7) (pred 0))\n(node 1 30 1 (0) (in) (succ 7 2) (pred 0))\n(node 2 30 1 (1) (in) (succ 7 3) (pred 1 10))\n(node 3 30 1 (2) (in) (succ) (pred 2 10))\n(node 4 30 1 (3) (in) (succ 5) (pred))\n(node 5 30 1 (4) (in) (succ 6) (pred 4))\n(node 6 30 1 (5) (in) (succ 7) (pred 5))\n(node 7 50 2 (0) (in) (succ 8) (pred 0 1 2 6))\n(node 8 50 2 (1) (in) (succ) (pred 7))\n(node 9 50 2 (2) (in) (succ 10) (pred))\n(node 10 50 2 (3) (in) (succ 2 3) (pred 9))\n(entry 10 0)\n(entry 30 1)\n(entry 50 7)\n(returns 2 3)\n(back 1 2)\n(back 2 3)\n)\n" } ∷
    record { text = "(module 0\n(line 0\n(endloop)\n(for I$ static)\n)\n(line 30\n(until)\n(next plain I$)\n)\n)\n"; writes = "(graph 0 4\n(node 0 0 0 (0) (in) (succ) (pred))\n(node 1 0 0 (1) (in) (succ 2) (pred))\n(node 2 30 1 (0) (in) (succ) (pred 1 3))\n(node 3 30 1 (1) (in) (succ 2) (pred))\n(entry 0 0)\n(entry 30 2)\n(returns)\n)\n" } ∷
    record { text = "(module 0\n(line 1\n(return)\n(gosub 1)\n)\n)\n"; writes = "(graph 0 2\n(node 0 1 0 (0) (in) (succ) (pred 1))\n(node 1 1 0 (1) (in) (succ 0) (pred))\n(entry 1 0)\n(returns)\n)\n" } ∷
    record { text = "(module 1\n(line 40\n(ongosub 65534 65535 40 50)\n(gosub 40)\n(for AB% dispatched)\n)\n(line 50\n(stop)\n(next plain *)\n(for ABCDEFGH% static)\n(any)\n)\n)\n"; writes = "(graph 0 7\n(node 0 40 0 (0) (in) (succ 0 3 1) (pred 0 1 6))\n(node 1 40 0 (1) (in) (succ 0) (pred 0))\n(node 2 40 0 (2) (in) (succ 3) (pred))\n(node 3 50 1 (0) (in) (succ) (pred 0 2 4 6))\n(node 4 50 1 (1) (in) (succ 3 5) (pred))\n(node 5 50 1 (2) (in) (succ 6) (pred 4))\n(node 6 50 1 (3) (in) (succ 0 3) (pred 5))\n(entry 40 0)\n(entry 50 3)\n(returns 1 2)\n(back 0 1)\n(back 1 2)\n)\n" } ∷
    record { text = "(module 0\n(line 0\n(repeat)\n(return)\n(for COUNTER% dispatched)\n(next orphan *)\n(return)\n)\n(line 1\n)\n(line 999\n(gosub 999)\n(return)\n(gosub 1)\n(if\n(stmts\n(done)\n)\n)\n)\n)\n"; writes = "(graph 0 10\n(node 0 0 0 (0) (in) (succ 1) (pred))\n(node 1 0 0 (1) (in) (succ) (pred 0))\n(node 2 0 0 (2) (in) (succ 3) (pred))\n(node 3 0 0 (3) (in) (succ 3 4) (pred 2 3))\n(node 4 0 0 (4) (in) (succ) (pred 3))\n(node 5 999 2 (0) (in) (succ 5) (pred 5 7))\n(node 6 999 2 (1) (in) (succ 6 8) (pred 6))\n(node 7 999 2 (2) (in) (succ 5) (pred))\n(node 8 999 2 (3) (in) (succ 9) (pred 6))\n(node 9 999 2 (3 0) (in 8) (succ) (pred 8))\n(entry 0 0)\n(entry 1 5)\n(entry 999 5)\n(returns 6 8)\n(back 5 6)\n(back 7 8)\n)\n" } ∷
    record { text = "(module 0\n(line 65534\n(next orphan K)\n(repeat)\n(ifelse\n(stmts\n(exitif)\n(run)\n(endloop)\n)\n(to 10)\n)\n(for K static)\n(plain)\n(for K dispatched)\n(next plain *)\n(exitif)\n(for K static)\n)\n)\n"; writes = "(graph 0 12\n(node 0 65534 0 (0) (in) (succ 1 9) (pred 4))\n(node 1 65534 0 (1) (in) (succ 2) (pred 0))\n(node 2 65534 0 (2) (in) (succ 3) (pred 1 5))\n(node 3 65534 0 (2 0) (in 2) (succ 4 6) (pred 2))\n(node 4 65534 0 (2 1) (in 2) (succ 0) (pred 3))\n(node 5 65534 0 (2 2) (in 2) (succ 2) (pred))\n(node 6 65534 0 (3) (in) (succ 7) (pred 3))\n(node 7 65534 0 (4) (in) (succ 8) (pred 6))\n(node 8 65534 0 (5) (in) (succ 9) (pred 7))\n(node 9 65534 0 (6) (in) (succ 9 10) (pred 0 8 9))\n(node 10 65534 0 (7) (in) (succ 11) (pred 9))\n(node 11 65534 0 (8) (in) (succ) (pred 10))\n(entry 65534 0)\n(returns)\n)\n" } ∷
    record { text = "(module 0\n(line 1\n(endloop)\n)\n(line 10\n(exitif)\n(exit)\n(endloop)\n(rcomp\n(stmts\n(exit)\n(any)\n)\n)\n)\n(line 20\n)\n(line 40\n(plain)\n)\n(line 50\n)\n)\n"; writes = "(graph 0 8\n(node 0 1 0 (0) (in) (succ) (pred 6))\n(node 1 10 1 (0) (in) (succ 2) (pred 6))\n(node 2 10 1 (1) (in) (succ) (pred 1))\n(node 3 10 1 (2) (in) (succ) (pred))\n(node 4 10 1 (3) (in) (succ 5 7) (pred))\n(node 5 10 1 (3 0) (in 4) (succ) (pred 4))\n(node 6 10 1 (3 1) (in 4) (succ 0 1 7) (pred))\n(node 7 40 3 (0) (in) (succ) (pred 4 6))\n(entry 1 0)\n(entry 10 1)\n(entry 20 7)\n(entry 40 7)\n(returns)\n)\n" } ∷
    record { text = "(module 0\n(line 50\n(next orphan COUNTER)\n(for COUNTER dispatched)\n(for COUNTER dispatched)\n(for COUNTER static)\n)\n(line 65535\n(for COUNT static)\n(next plain COUNTERS)\n)\n)\n"; writes = "(graph 0 6\n(node 0 50 0 (0) (in) (succ 1 2 3) (pred))\n(node 1 50 0 (1) (in) (succ 2) (pred 0))\n(node 2 50 0 (2) (in) (succ 3) (pred 0 1))\n(node 3 50 0 (3) (in) (succ 4) (pred 0 2))\n(node 4 65535 1 (0) (in) (succ 5) (pred 3))\n(node 5 65535 1 (1) (in) (succ 5) (pred 4 5))\n(entry 50 0)\n(entry 65535 4)\n(returns)\n)\n" } ∷
    record { text = "(module 0\n(line 0\n(next orphan N%)\n(for N% dispatched)\n)\n)\n"; writes = "(graph 0 2\n(node 0 0 0 (0) (in) (succ 1) (pred))\n(node 1 0 0 (1) (in) (succ) (pred 0))\n(entry 0 0)\n(returns)\n)\n" } ∷
    record { text = "(module 0\n(line 1\n(next plain I$)\n(for I$ static)\n(next plain *)\n(ongosub 1 1)\n(plain)\n(run 1)\n(return)\n(gosub 1)\n)\n)\n"; writes = "(graph 0 8\n(node 0 1 0 (0) (in) (succ 1) (pred 3 5 7))\n(node 1 1 0 (1) (in) (succ 2) (pred 0))\n(node 2 1 0 (2) (in) (succ 2 3) (pred 1 2))\n(node 3 1 0 (3) (in) (succ 0 4) (pred 2))\n(node 4 1 0 (4) (in) (succ 5) (pred 3))\n(node 5 1 0 (5) (in) (succ 0) (pred 4))\n(node 6 1 0 (6) (in) (succ) (pred))\n(node 7 1 0 (7) (in) (succ 0) (pred))\n(entry 1 0)\n(returns 4)\n(back 3 4)\n)\n" } ∷
    record { text = "(module 0\n(line 20\n(for NOTES% dispatched)\n(next orphan NOTES%)\n(next plain *)\n(rcomp\n(stmts\n(run)\n)\n(stmts\n(done)\n)\n)\n(for NOTE% static)\n)\n)\n"; writes = "(graph 0 7\n(node 0 20 0 (0) (in) (succ 1) (pred 4))\n(node 1 20 0 (1) (in) (succ 1 2) (pred 0 1))\n(node 2 20 0 (2) (in) (succ 3) (pred 1))\n(node 3 20 0 (3) (in) (succ 4 5) (pred 2))\n(node 4 20 0 (3 0) (in 3) (succ 0) (pred 3))\n(node 5 20 0 (3 1) (in 3) (succ 6) (pred 3))\n(node 6 20 0 (4) (in) (succ) (pred 5))\n(entry 20 0)\n(returns)\n)\n" } ∷
    record { text = "(module 0\n(line 30\n(next orphan N%)\n(repeat)\n)\n(line 50\n)\n(line 100\n(for I% framed)\n(doif)\n(done)\n)\n(line 999\n(loop)\n(ongosub 50 40)\n(exit)\n(run)\n)\n)\n"; writes = "(graph 0 9\n(node 0 30 0 (0) (in) (succ 1) (pred 8))\n(node 1 30 0 (1) (in) (succ 2) (pred 0))\n(node 2 100 2 (0) (in) (succ 3) (pred 1 6))\n(node 3 100 2 (1) (in) (succ 4 5) (pred 2))\n(node 4 100 2 (2) (in) (succ 5) (pred 3))\n(node 5 999 3 (0) (in) (succ 6) (pred 3 4))\n(node 6 999 3 (1) (in) (succ 2 7) (pred 5))\n(node 7 999 3 (2) (in) (succ) (pred 6))\n(node 8 999 3 (3) (in) (succ 0) (pred))\n(entry 30 0)\n(entry 50 2)\n(entry 100 2)\n(entry 999 5)\n(returns 7)\n(back 6 7)\n)\n" } ∷
    record { text = "(module 0\n(line 40\n(next plain A$)\n(for A$ static)\n(ifelse\n(stmts\n(clr)\n(ifelse\n(to 40)\n(stmts\n(any)\n(if\n(to 40)\n)\n(if\n(stmts\n)\n)\n)\n)\n)\n(stmts\n)\n)\n)\n)\n"; writes = "(graph 0 8\n(node 0 40 0 (0) (in) (succ 1) (pred 4 5 6))\n(node 1 40 0 (1) (in) (succ 2) (pred 0))\n(node 2 40 0 (2) (in) (succ 3) (pred 1))\n(node 3 40 0 (2 0) (in 2) (succ 4) (pred 2))\n(node 4 40 0 (2 1) (in 2) (succ 0 5) (pred 3))\n(node 5 40 0 (2 1 0) (in 4) (succ 0) (pred 4))\n(node 6 40 0 (2 1 1) (in 4) (succ 0 7) (pred))\n(node 7 40 0 (2 1 2) (in 4) (succ) (pred 6))\n(entry 40 0)\n(returns)\n)\n" } ∷
    record { text = "(module 1\n(line 1\n(any)\n)\n(line 5\n(if\n(stmts\n)\n)\n(repeat)\n(next plain Z99%)\n(for Z9Z% static)\n)\n(line 999\n(if\n(to 999)\n)\n(if\n(stmts\n)\n)\n)\n)\n"; writes = "(graph 0 7\n(node 0 1 0 (0) (in) (succ 0 1 5) (pred 0))\n(node 1 5 1 (0) (in) (succ 2) (pred 0))\n(node 2 5 1 (1) (in) (succ 3) (pred 1))\n(node 3 5 1 (2) (in) (succ 4) (pred 2))\n(node 4 5 1 (3) (in) (succ 5) (pred 3))\n(node 5 999 2 (0) (in) (succ 5 6) (pred 0 4 5))\n(node 6 999 2 (1) (in) (succ) (pred 5))\n(entry 1 0)\n(entry 5 1)\n(entry 999 5)\n(returns)\n)\n" } ∷
    record { text = "(module 0\n(line 100\n(next plain *)\n(for CO% static)\n)\n)\n"; writes = "(graph 0 2\n(node 0 100 0 (0) (in) (succ 1) (pred))\n(node 1 100 0 (1) (in) (succ) (pred 0))\n(entry 100 0)\n(returns)\n)\n" } ∷
    record { text = "(module 0\n(line 50\n(endloop)\n(return)\n(exitif)\n)\n(line 999\n(plain)\n(endloop)\n)\n(line 65534\n(until)\n(plain)\n)\n(line 65535\n(exitif)\n)\n)\n"; writes = "(graph 0 8\n(node 0 50 0 (0) (in) (succ) (pred))\n(node 1 50 0 (1) (in) (succ) (pred))\n(node 2 50 0 (2) (in) (succ 3) (pred))\n(node 3 999 1 (0) (in) (succ 4) (pred 2))\n(node 4 999 1 (1) (in) (succ) (pred 3))\n(node 5 65534 2 (0) (in) (succ) (pred))\n(node 6 65534 2 (1) (in) (succ 7) (pred))\n(node 7 65535 3 (0) (in) (succ) (pred 6))\n(entry 50 0)\n(entry 999 3)\n(entry 65534 5)\n(entry 65535 7)\n(returns)\n)\n" } ∷
    record { text = "(module 0\n(line 5\n(plain)\n(if\n(stmts\n(next orphan CP%)\n)\n)\n(clr)\n(if\n(stmts\n)\n)\n)\n(line 65534\n(gosub 65534)\n(return)\n)\n)\n"; writes = "(graph 0 7\n(node 0 5 0 (0) (in) (succ 1) (pred))\n(node 1 5 0 (1) (in) (succ 2 3) (pred 0))\n(node 2 5 0 (1 0) (in 1) (succ 3) (pred 1))\n(node 3 5 0 (2) (in) (succ 4) (pred 1 2))\n(node 4 5 0 (3) (in) (succ 5) (pred 3))\n(node 5 65534 1 (0) (in) (succ 5) (pred 4 5))\n(node 6 65534 1 (1) (in) (succ 6) (pred 6))\n(entry 5 0)\n(entry 65534 5)\n(returns 6)\n(back 5 6)\n)\n" } ∷
    record { text = "(module 0\n(line 0\n(doif)\n(gosub 0)\n)\n(line 30\n)\n)\n"; writes = "(graph 0 2\n(node 0 0 0 (0) (in) (succ 1) (pred 1))\n(node 1 0 0 (1) (in) (succ 0) (pred 0))\n(entry 0 0)\n(returns)\n)\n" } ∷
    record { text = "(module 0\n(line 20\n(for COUNTER static)\n(next orphan CO1 N%)\n)\n(line 40\n(for COUNT static)\n(for CO1 static)\n)\n(line 100\n(for COUNT framed)\n)\n)\n"; writes = "(graph 0 5\n(node 0 20 0 (0) (in) (succ 1) (pred))\n(node 1 20 0 (1) (in) (succ 1 2) (pred 0 1))\n(node 2 40 1 (0) (in) (succ 3) (pred 1))\n(node 3 40 1 (1) (in) (succ 4) (pred 2))\n(node 4 100 2 (0) (in) (succ) (pred 3))\n(entry 20 0)\n(entry 40 2)\n(entry 100 4)\n(returns)\n)\n" } ∷
    []

right-table : T (right table)
unfolding opened right table
right-table = tt
