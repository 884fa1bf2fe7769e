-- Random listings with the original's graphs. Assumes nothing.
use Rattle.std.specs.Prelude.{List, [], ◌∷◌, true, false, T}
use Rattle.vectors.specs.Vector.{Vector, right, opened}

table : List Vector
table =
    record { text = "(module 0\n(line 50\n(for COUNTER dispatched)\n(gosub 50)\n(next orphan)\n(for COUNTERS dispatched)\n(next orphan COUNTER)\n(return)\n)\n)\n"; writes = "(graph 0 6\n(node 0 50 0 (0) (in) (succ 1) (pred 1))\n(node 1 50 0 (1) (in) (succ 0) (pred 0 4))\n(node 2 50 0 (2) (in) (succ 3) (pred 5))\n(node 3 50 0 (3) (in) (succ 4) (pred 2))\n(node 4 50 0 (4) (in) (succ 4 5 1) (pred 3 4))\n(node 5 50 0 (5) (in) (succ 2) (pred 4))\n(entry 50 0)\n(returns 2)\n(back 1 2)\n)\n" } ∷
    record { text = "(module 0\n(line 5\n(ifelse\n(stmts\n(return)\n(gosub 10)\n)\n(stmts\n(gosub 10)\n(return)\n)\n)\n(return)\n)\n(line 10\n(ongosub 10 10)\n(return)\n(ongosub 10 10)\n)\n)\n"; writes = "(graph 0 9\n(node 0 5 0 (0) (in) (succ 1 3) (pred))\n(node 1 5 0 (0 0) (in 0) (succ) (pred 0))\n(node 2 5 0 (0 1) (in 0) (succ 6) (pred))\n(node 3 5 0 (0 2) (in 0) (succ 6) (pred 0))\n(node 4 5 0 (0 3) (in 0) (succ) (pred 7))\n(node 5 5 0 (1) (in) (succ) (pred 7))\n(node 6 10 1 (0) (in) (succ 6 7) (pred 2 3 6 8))\n(node 7 10 1 (1) (in) (succ 4 5 7) (pred 6 7))\n(node 8 10 1 (2) (in) (succ 6) (pred))\n(entry 5 0)\n(entry 10 6)\n(returns 5 4 7)\n(back 2 5)\n(back 3 4)\n(back 6 7)\n)\n" } ∷
    record { text = "(module 1\n(line 0\n)\n(line 5\n(return)\n(gosub 5)\n(for COUNTER% dispatched)\n(return)\n)\n(line 20\n(until)\n(gosub 100)\n)\n(line 100\n(ongosub 0 0 65535)\n(rcomp\n(stmts\n)\n)\n)\n(line 65535\n(doif)\n(rcomp\n(stmts\n)\n)\n(plain)\n)\n)\n"; writes = "(graph 0 11\n(node 0 5 1 (0) (in) (succ 2 6 7) (pred 1 6))\n(node 1 5 1 (1) (in) (succ 0) (pred))\n(node 2 5 1 (2) (in) (succ 3) (pred 0 3))\n(node 3 5 1 (3) (in) (succ 2 6 7) (pred 2))\n(node 4 20 2 (0) (in) (succ) (pred))\n(node 5 20 2 (1) (in) (succ 6) (pred))\n(node 6 100 3 (0) (in) (succ 0 8 7) (pred 0 3 5))\n(node 7 100 3 (1) (in) (succ 8) (pred 0 3 6))\n(node 8 65535 4 (0) (in) (succ 9) (pred 6 7))\n(node 9 65535 4 (1) (in) (succ 10) (pred 8))\n(node 10 65535 4 (2) (in) (succ) (pred 9))\n(entry 0 0)\n(entry 5 0)\n(entry 20 4)\n(entry 100 6)\n(entry 65535 8)\n(returns 2 6 7)\n(back 1 2)\n(back 5 6)\n(back 6 7)\n)\n" } ∷
    record { text = "(module 1\n(line 100\n(gosub 100)\n(any)\n(gosub 100)\n(return)\n)\n)\n"; writes = "(graph 0 4\n(node 0 100 0 (0) (in) (succ 0) (pred 0 1 2))\n(node 1 100 0 (1) (in) (succ 0) (pred 3))\n(node 2 100 0 (2) (in) (succ 0) (pred))\n(node 3 100 0 (3) (in) (succ 1 3) (pred 3))\n(entry 100 0)\n(returns 1 3)\n(back 0 1)\n(back 2 3)\n)\n" } ∷
    record { text = "(module 0\n(line 0\n(ongosub 30)\n(run 30)\n(run)\n(next plain J * J)\n)\n(line 1\n(for J framed)\n)\n(line 5\n(return)\n(repeat)\n(for J static)\n(any)\n)\n(line 30\n(next plain *)\n(ifelse\n(stmts\n(run 65534)\n)\n(to 0)\n)\n)\n)\n"; writes = "(graph 0 12\n(node 0 0 0 (0) (in) (succ 9 1) (pred 2 8 10))\n(node 1 0 0 (1) (in) (succ 9) (pred 0 5))\n(node 2 0 0 (2) (in) (succ 0) (pred))\n(node 3 0 0 (3) (in) (succ 4) (pred))\n(node 4 1 1 (0) (in) (succ 5) (pred 3 8))\n(node 5 5 2 (0) (in) (succ 1) (pred 4 8))\n(node 6 5 2 (1) (in) (succ 7) (pred))\n(node 7 5 2 (2) (in) (succ 8) (pred 6))\n(node 8 5 2 (3) (in) (succ 0 4 5 9) (pred 7 9))\n(node 9 30 3 (0) (in) (succ 8 10) (pred 0 1 8))\n(node 10 30 3 (1) (in) (succ 11 0) (pred 9))\n(node 11 30 3 (1 0) (in 10) (succ) (pred 10))\n(entry 0 0)\n(entry 1 4)\n(entry 5 5)\n(entry 30 9)\n(returns 1)\n(back 0 1)\n)\n" } ∷
    record { text = "(module 0\n(line 1\n(for CO static)\n(if\n(to 10)\n)\n(repeat)\n(until)\n(return)\n(gosub 1)\n(for CO dispatched)\n)\n(line 10\n(next plain CO2)\n(goto 1)\n(any)\n(ifelse\n(stmts\n)\n(to 1)\n)\n)\n)\n"; writes = "(graph 0 11\n(node 0 1 0 (0) (in) (succ 1) (pred 5 8 9 10))\n(node 1 1 0 (1) (in) (succ 7 2) (pred 0))\n(node 2 1 0 (2) (in) (succ 3) (pred 1))\n(node 3 1 0 (3) (in) (succ 3 4) (pred 2 3))\n(node 4 1 0 (4) (in) (succ 6) (pred 3))\n(node 5 1 0 (5) (in) (succ 0) (pred))\n(node 6 1 0 (6) (in) (succ 7) (pred 4))\n(node 7 10 1 (0) (in) (succ 7 8) (pred 1 6 7 9))\n(node 8 10 1 (1) (in) (succ 0) (pred 7))\n(node 9 10 1 (2) (in) (succ 0 7) (pred))\n(node 10 10 1 (3) (in) (succ 0) (pred))\n(entry 1 0)\n(entry 10 7)\n(returns 6)\n(back 5 6)\n)\n" } ∷
    record { text = "(module 0\n(line 30\n(any)\n)\n(line 999\n(return)\n(next orphan COUNTERS$)\n)\n)\n"; writes = "(graph 0 3\n(node 0 30 0 (0) (in) (succ 0 1) (pred 0))\n(node 1 999 1 (0) (in) (succ) (pred 0))\n(node 2 999 1 (1) (in) (succ) (pred))\n(entry 30 0)\n(entry 999 1)\n(returns)\n)\n" } ∷
    record { text = "(module 1\n(line 1\n(clr)\n(until)\n(else)\n)\n(line 10\n(rcomp\n(stmts\n)\n)\n(goto 1)\n(plain)\n)\n(line 100\n(loop)\n(exitif)\n(goto 100)\n)\n(line 999\n(doif)\n)\n)\n"; writes = "(graph 0 10\n(node 0 1 0 (0) (in) (succ 1) (pred 4))\n(node 1 1 0 (1) (in) (succ) (pred 0))\n(node 2 1 0 (2) (in) (succ) (pred))\n(node 3 10 1 (0) (in) (succ 4) (pred))\n(node 4 10 1 (1) (in) (succ 0) (pred 3))\n(node 5 10 1 (2) (in) (succ 6) (pred))\n(node 6 100 2 (0) (in) (succ 7) (pred 5 8))\n(node 7 100 2 (1) (in) (succ 8) (pred 6))\n(node 8 100 2 (2) (in) (succ 6) (pred 7))\n(node 9 999 3 (0) (in) (succ) (pred))\n(entry 1 0)\n(entry 10 3)\n(entry 100 6)\n(entry 999 9)\n(returns)\n)\n" } ∷
    record { text = "(module 1\n(line 20\n(ongoto)\n(next orphan AB%)\n(for ABCDEFGH% dispatched)\n(ongoto 30 50)\n(next plain ABCDEFGH%)\n(run 50)\n(ongoto)\n(for ABCDEFGH% static)\n)\n(line 30\n(ongosub 30)\n)\n(line 50\n(any)\n)\n)\n"; writes = "(graph 0 10\n(node 0 20 0 (0) (in) (succ 1) (pred 9))\n(node 1 20 0 (1) (in) (succ 2 3) (pred 0))\n(node 2 20 0 (2) (in) (succ 3) (pred 1))\n(node 3 20 0 (3) (in) (succ 8 9 4) (pred 1 2 4))\n(node 4 20 0 (4) (in) (succ 3 5) (pred 3))\n(node 5 20 0 (5) (in) (succ 9) (pred 4))\n(node 6 20 0 (6) (in) (succ 7) (pred))\n(node 7 20 0 (7) (in) (succ 8) (pred 6))\n(node 8 30 1 (0) (in) (succ 8 9) (pred 3 7 8 9))\n(node 9 50 2 (0) (in) (succ 0 8 9) (pred 3 5 8 9))\n(entry 20 0)\n(entry 30 8)\n(entry 50 9)\n(returns 9)\n(back 8 9)\n)\n" } ∷
    record { text = "(module 1\n(line 65534\n(ongosub 65534 65534)\n(return)\n(any)\n)\n)\n"; writes = "(graph 0 3\n(node 0 65534 0 (0) (in) (succ 0 1) (pred 0 2))\n(node 1 65534 0 (1) (in) (succ 1) (pred 0 1))\n(node 2 65534 0 (2) (in) (succ 0) (pred))\n(entry 65534 0)\n(returns 1)\n(back 0 1)\n)\n" } ∷
    record { text = "(module 1\n(line 40\n(for Z99% dispatched)\n(next plain I)\n(next plain)\n)\n(line 50\n(if\n(stmts\n(next orphan * LOOPVAR1$)\n)\n)\n(plain)\n)\n)\n"; writes = "(graph 0 6\n(node 0 40 0 (0) (in) (succ 1) (pred))\n(node 1 40 0 (1) (in) (succ 2) (pred 0 4))\n(node 2 40 0 (2) (in) (succ 3) (pred 1))\n(node 3 50 1 (0) (in) (succ 4 5) (pred 2))\n(node 4 50 1 (0 0) (in 3) (succ 1 5) (pred 3))\n(node 5 50 1 (1) (in) (succ) (pred 3 4))\n(entry 40 0)\n(entry 50 3)\n(returns)\n)\n" } ∷
    record { text = "(module 0\n(line 20\n(gosub 999)\n)\n(line 100\n(ongosub 20 20 20)\n(if\n(to 0)\n)\n(for A static)\n(return)\n)\n(line 999\n(done)\n(return)\n(next plain A)\n)\n)\n"; writes = "(graph 0 8\n(node 0 20 0 (0) (in) (succ 5) (pred 1))\n(node 1 100 1 (0) (in) (succ 0 2) (pred 6))\n(node 2 100 1 (1) (in) (succ 3) (pred 1 4))\n(node 3 100 1 (2) (in) (succ 4) (pred 2))\n(node 4 100 1 (3) (in) (succ 2) (pred 3 7))\n(node 5 999 2 (0) (in) (succ 6) (pred 0))\n(node 6 999 2 (1) (in) (succ 1) (pred 5))\n(node 7 999 2 (2) (in) (succ 4) (pred))\n(entry 20 0)\n(entry 100 1)\n(entry 999 5)\n(returns 1 2)\n(back 0 1)\n(back 1 2)\n)\n" } ∷
    record { text = "(module 1\n(line 1\n)\n(line 5\n(exit)\n(repeat)\n(until)\n(ifelse\n(stmts\n)\n(stmts\n)\n)\n(any)\n)\n(line 65534\n(repeat)\n(exit)\n(if\n(stmts\n(ongoto 40 1 65534 999)\n(ifelse\n(to 65534)\n(to 1)\n)\n)\n)\n)\n(line 65535\n)\n)\n"; writes = "(graph 0 10\n(node 0 5 1 (0) (in) (succ) (pred 4 8 9))\n(node 1 5 1 (1) (in) (succ 2) (pred))\n(node 2 5 1 (2) (in) (succ 2 3) (pred 1 2))\n(node 3 5 1 (3) (in) (succ 4) (pred 2))\n(node 4 5 1 (4) (in) (succ 0 5) (pred 3))\n(node 5 65534 2 (0) (in) (succ 6) (pred 4 8 9))\n(node 6 65534 2 (1) (in) (succ) (pred 5))\n(node 7 65534 2 (2) (in) (succ 8) (pred))\n(node 8 65534 2 (2 0) (in 7) (succ 0 5 9) (pred 7))\n(node 9 65534 2 (2 1) (in 7) (succ 5 0) (pred 8))\n(entry 1 0)\n(entry 5 0)\n(entry 65534 5)\n(returns)\n)\n" } ∷
    record { text = "(module 0\n(line 20\n(for COUNT dispatched)\n(for J dispatched)\n(next orphan CO)\n)\n)\n"; writes = "(graph 0 3\n(node 0 20 0 (0) (in) (succ 1) (pred))\n(node 1 20 0 (1) (in) (succ 2) (pred 0 2))\n(node 2 20 0 (2) (in) (succ 1) (pred 1))\n(entry 20 0)\n(returns)\n)\n" } ∷
    record { text = "(module 1\n(line 20\n)\n(line 100\n(for CO static)\n(repeat)\n(gosub 100)\n(any)\n(return)\n(ongosub 100 100)\n)\n)\n"; writes = "(graph 0 6\n(node 0 100 1 (0) (in) (succ 1) (pred 2 3 5))\n(node 1 100 1 (1) (in) (succ 2) (pred 0))\n(node 2 100 1 (2) (in) (succ 0) (pred 1))\n(node 3 100 1 (3) (in) (succ 0) (pred 4))\n(node 4 100 1 (4) (in) (succ 3) (pred))\n(node 5 100 1 (5) (in) (succ 0) (pred))\n(entry 20 0)\n(entry 100 0)\n(returns 3)\n(back 2 3)\n)\n" } ∷
    record { text = "(module 1\n(line 0\n(rcomp\n(to 1)\n)\n)\n(line 1\n(plain)\n(plain)\n)\n(line 5\n(ifelse\n(stmts\n(if\n(stmts\n(if\n(stmts\n(rcomp\n(to 0)\n)\n(for I dispatched)\n)\n)\n(plain)\n(rcomp\n(to 0)\n(to 30)\n)\n)\n)\n)\n(to 1)\n)\n)\n(line 20\n)\n(line 30\n)\n(line 65535\n)\n)\n"; writes = "(graph 0 10\n(node 0 0 0 (0) (in) (succ 1) (pred 6 9))\n(node 1 1 1 (0) (in) (succ 2) (pred 0 3))\n(node 2 1 1 (1) (in) (succ 3) (pred 1))\n(node 3 5 2 (0) (in) (succ 4 1) (pred 2))\n(node 4 5 2 (0 0) (in 3) (succ 5) (pred 3))\n(node 5 5 2 (0 0 0) (in 4) (succ 6 8) (pred 4))\n(node 6 5 2 (0 0 0 0) (in 5) (succ 0 7) (pred 5))\n(node 7 5 2 (0 0 0 1) (in 5) (succ 8) (pred 6))\n(node 8 5 2 (0 0 1) (in 4) (succ 9) (pred 5 7))\n(node 9 5 2 (0 0 2) (in 4) (succ 0) (pred 8))\n(entry 0 0)\n(entry 1 1)\n(entry 5 3)\n(returns)\n)\n" } ∷
    record { text = "(module 0\n(line 1\n(for COUNT framed)\n(next plain COUNT COUNT)\n)\n(line 999\n(next plain COUNTER)\n)\n(line 65534\n(return)\n(for J dispatched)\n(next plain J COUNT *)\n(for COUNT framed)\n)\n(line 65535\n(next plain *)\n)\n)\n"; writes = "(graph 0 8\n(node 0 1 0 (0) (in) (succ 1) (pred))\n(node 1 1 0 (1) (in) (succ 1 2) (pred 0 1))\n(node 2 999 1 (0) (in) (succ 3) (pred 1))\n(node 3 65534 2 (0) (in) (succ) (pred 2))\n(node 4 65534 2 (1) (in) (succ 5) (pred))\n(node 5 65534 2 (2) (in) (succ 5 6) (pred 4 5))\n(node 6 65534 2 (3) (in) (succ 7) (pred 5))\n(node 7 65535 3 (0) (in) (succ 7) (pred 6 7))\n(entry 1 0)\n(entry 999 2)\n(entry 65534 3)\n(entry 65535 7)\n(returns)\n)\n" } ∷
    record { text = "(module 0\n(line 30\n(gosub 65535)\n(return)\n)\n(line 65535\n)\n)\n"; writes = "(graph 0 2\n(node 0 30 0 (0) (in) (succ) (pred))\n(node 1 30 0 (1) (in) (succ) (pred))\n(entry 30 0)\n(returns 1)\n(back 0 1)\n)\n" } ∷
    record { text = "(module 1\n(line 65534\n(ongosub 65534 65534)\n(next plain *)\n(run)\n(next orphan *)\n(rcomp\n(stmts\n(return)\n(run)\n)\n(stmts\n)\n)\n(return)\n(gosub 65534)\n(for A1 static)\n(plain)\n)\n)\n"; writes = "(graph 0 11\n(node 0 65534 0 (0) (in) (succ 0 1) (pred 0 2 6 8))\n(node 1 65534 0 (1) (in) (succ 2) (pred 0 5 7))\n(node 2 65534 0 (2) (in) (succ 0) (pred 1))\n(node 3 65534 0 (3) (in) (succ 4) (pred))\n(node 4 65534 0 (4) (in) (succ 5 7) (pred 3))\n(node 5 65534 0 (4 0) (in 4) (succ 1 9) (pred 4))\n(node 6 65534 0 (4 1) (in 4) (succ 0) (pred))\n(node 7 65534 0 (5) (in) (succ 1 9) (pred 4))\n(node 8 65534 0 (6) (in) (succ 0) (pred))\n(node 9 65534 0 (7) (in) (succ 10) (pred 5 7))\n(node 10 65534 0 (8) (in) (succ) (pred 9))\n(entry 65534 0)\n(returns 1 9)\n(back 0 1)\n(back 8 9)\n)\n" } ∷
    record { text = "(module 0\n(line 0\n(rcomp\n(stmts\n(until)\n)\n(stmts\n(if\n(stmts\n(repeat)\n(rcomp\n(to 5)\n(stmts\n)\n)\n)\n)\n(for LOOPVAR1$ dispatched)\n)\n)\n(next orphan *)\n(repeat)\n)\n(line 5\n(next plain LOOPVAR1$)\n(for LOOPVAR1$ static)\n)\n(line 100\n)\n)\n"; writes = "(graph 0 10\n(node 0 0 0 (0) (in) (succ 1 2) (pred))\n(node 1 0 0 (0 0) (in 0) (succ) (pred 0))\n(node 2 0 0 (0 1) (in 0) (succ 3 5) (pred 0))\n(node 3 0 0 (0 1 0) (in 2) (succ 4) (pred 2))\n(node 4 0 0 (0 1 1) (in 2) (succ 8 5) (pred 3))\n(node 5 0 0 (0 2) (in 0) (succ 6) (pred 2 4))\n(node 6 0 0 (1) (in) (succ 6 7) (pred 5 6))\n(node 7 0 0 (2) (in) (succ 8) (pred 6))\n(node 8 5 1 (0) (in) (succ 9) (pred 4 7))\n(node 9 5 1 (1) (in) (succ) (pred 8))\n(entry 0 0)\n(entry 5 8)\n(returns)\n)\n" } ∷
    record { text = "(module 1\n(line 40\n(for A1B2C3D4 static)\n(return)\n(gosub 40)\n(next plain *)\n(any)\n)\n)\n"; writes = "(graph 0 5\n(node 0 40 0 (0) (in) (succ 1) (pred 2 4))\n(node 1 40 0 (1) (in) (succ 3) (pred 0 3))\n(node 2 40 0 (2) (in) (succ 0) (pred))\n(node 3 40 0 (3) (in) (succ 1 4) (pred 1))\n(node 4 40 0 (4) (in) (succ 0) (pred 3))\n(entry 40 0)\n(returns 3)\n(back 2 3)\n)\n" } ∷
    record { text = "(module 0\n(line 0\n(gosub 0)\n(until)\n(gosub 0)\n(endloop)\n(return)\n)\n(line 100\n(gosub 0)\n)\n(line 65534\n(next plain NO%)\n(for NOTES% static)\n(exit)\n)\n)\n"; writes = "(graph 0 9\n(node 0 0 0 (0) (in) (succ 0) (pred 0 2 5))\n(node 1 0 0 (1) (in) (succ) (pred))\n(node 2 0 0 (2) (in) (succ 0) (pred))\n(node 3 0 0 (3) (in) (succ) (pred))\n(node 4 0 0 (4) (in) (succ) (pred))\n(node 5 100 1 (0) (in) (succ 0) (pred))\n(node 6 65534 2 (0) (in) (succ 7) (pred))\n(node 7 65534 2 (1) (in) (succ 8) (pred 6))\n(node 8 65534 2 (2) (in) (succ) (pred 7))\n(entry 0 0)\n(entry 100 5)\n(entry 65534 6)\n(returns 1 3 6)\n(back 0 1)\n(back 2 3)\n(back 5 6)\n)\n" } ∷
    record { text = "(module 0\n(line 0\n(doif)\n(else)\n(exitif)\n(doif)\n(else)\n)\n)\n"; writes = "(graph 0 5\n(node 0 0 0 (0) (in) (succ 1 2) (pred))\n(node 1 0 0 (1) (in) (succ) (pred 0))\n(node 2 0 0 (2) (in) (succ 3) (pred 0))\n(node 3 0 0 (3) (in) (succ 4) (pred 2))\n(node 4 0 0 (4) (in) (succ) (pred 3))\n(entry 0 0)\n(returns)\n)\n" } ∷
    record { text = "(module 0\n(line 1\n(return)\n(gosub 1)\n(ongosub 1 1)\n(for J dispatched)\n(next orphan J)\n)\n)\n"; writes = "(graph 0 5\n(node 0 1 0 (0) (in) (succ 2 3) (pred 1 2))\n(node 1 1 0 (1) (in) (succ 0) (pred))\n(node 2 1 0 (2) (in) (succ 0 3) (pred 0))\n(node 3 1 0 (3) (in) (succ 4) (pred 0 2))\n(node 4 1 0 (4) (in) (succ 4) (pred 3 4))\n(entry 1 0)\n(returns 2 3)\n(back 1 2)\n(back 2 3)\n)\n" } ∷
    record { text = "(module 1\n(line 1\n(for COUNT framed)\n(for CO2 static)\n(ongosub 1 1 20)\n(for CO framed)\n)\n(line 20\n)\n(line 40\n(for CO static)\n(next orphan COUNTERS COUNTER I CO)\n(next plain COUNTER)\n(any)\n(for CO static)\n)\n)\n"; writes = "(graph 0 9\n(node 0 1 0 (0) (in) (succ 1) (pred 2 7))\n(node 1 1 0 (1) (in) (succ 2) (pred 0))\n(node 2 1 0 (2) (in) (succ 0 4 3) (pred 1))\n(node 3 1 0 (3) (in) (succ 4) (pred 2))\n(node 4 40 2 (0) (in) (succ 5) (pred 2 3 7))\n(node 5 40 2 (1) (in) (succ 5 6) (pred 4 5))\n(node 6 40 2 (2) (in) (succ 7) (pred 5))\n(node 7 40 2 (3) (in) (succ 0 4) (pred 6))\n(node 8 40 2 (4) (in) (succ) (pred))\n(entry 1 0)\n(entry 20 4)\n(entry 40 4)\n(returns 3)\n(back 2 3)\n)\n" } ∷
    record { text = "(module 0\n(line 10\n(return)\n(gosub 10)\n)\n)\n"; writes = "(graph 0 2\n(node 0 10 0 (0) (in) (succ) (pred 1))\n(node 1 10 0 (1) (in) (succ 0) (pred))\n(entry 10 0)\n(returns)\n)\n" } ∷
    record { text = "(module 1\n(line 1\n(plain)\n(else)\n)\n(line 5\n)\n(line 20\n(rcomp\n(to 50)\n)\n(plain)\n(rcomp\n(stmts\n)\n(stmts\n)\n)\n)\n)\n"; writes = "(graph 0 5\n(node 0 1 0 (0) (in) (succ 1) (pred))\n(node 1 1 0 (1) (in) (succ) (pred 0))\n(node 2 20 2 (0) (in) (succ 3) (pred))\n(node 3 20 2 (1) (in) (succ 4) (pred 2))\n(node 4 20 2 (2) (in) (succ) (pred 3))\n(entry 1 0)\n(entry 5 2)\n(entry 20 2)\n(returns)\n)\n" } ∷
    record { text = "(module 0\n(line 30\n(any)\n(done)\n(run)\n(goto 30)\n(run 30)\n(loop)\n)\n)\n"; writes = "(graph 0 6\n(node 0 30 0 (0) (in) (succ 0) (pred 0 2 3 4))\n(node 1 30 0 (1) (in) (succ 2) (pred))\n(node 2 30 0 (2) (in) (succ 0) (pred 1))\n(node 3 30 0 (3) (in) (succ 0) (pred))\n(node 4 30 0 (4) (in) (succ 0) (pred))\n(node 5 30 0 (5) (in) (succ) (pred))\n(entry 30 0)\n(returns)\n)\n" } ∷
    record { text = "(module 0\n(line 5\n(gosub 40)\n(for LO static)\n(ongosub 40 40)\n(next plain N% * * N%)\n)\n(line 30\n(run)\n(for LO framed)\n(loop)\n(next plain *)\n(endloop)\n)\n(line 40\n(next orphan N% LOOPVAR1 *)\n(for LO static)\n(return)\n)\n(line 65534\n)\n)\n"; writes = "(graph 0 12\n(node 0 5 0 (0) (in) (succ 9) (pred 4))\n(node 1 5 0 (1) (in) (succ 2) (pred 11))\n(node 2 5 0 (2) (in) (succ 9 3) (pred 1 3))\n(node 3 5 0 (3) (in) (succ 2 4) (pred 2 11))\n(node 4 30 1 (0) (in) (succ 0) (pred 3))\n(node 5 30 1 (1) (in) (succ 6) (pred))\n(node 6 30 1 (2) (in) (succ 7) (pred 5 7))\n(node 7 30 1 (3) (in) (succ 6 8) (pred 6 8))\n(node 8 30 1 (4) (in) (succ 7) (pred 7))\n(node 9 40 2 (0) (in) (succ 10) (pred 0 2))\n(node 10 40 2 (1) (in) (succ 11) (pred 9))\n(node 11 40 2 (2) (in) (succ 1 3) (pred 10))\n(entry 5 0)\n(entry 30 4)\n(entry 40 9)\n(returns 1 3)\n(back 0 1)\n(back 2 3)\n)\n" } ∷
    record { text = "(module 1\n(line 100\n(next orphan A1B2)\n(return)\n(ongosub 100 100)\n(any)\n)\n)\n"; writes = "(graph 0 4\n(node 0 100 0 (0) (in) (succ 1) (pred 2 3))\n(node 1 100 0 (1) (in) (succ 3) (pred 0))\n(node 2 100 0 (2) (in) (succ 0 3) (pred))\n(node 3 100 0 (3) (in) (succ 0) (pred 1 2))\n(entry 100 0)\n(returns 3)\n(back 2 3)\n)\n" } ∷
    record { text = "(module 1\n(line 1\n(exitif)\n(any)\n)\n)\n"; writes = "(graph 0 2\n(node 0 1 0 (0) (in) (succ 1) (pred 1))\n(node 1 1 0 (1) (in) (succ 0) (pred 0))\n(entry 1 0)\n(returns)\n)\n" } ∷
    record { text = "(module 0\n(line 1\n(rcomp\n(stmts\n(plain)\n)\n)\n(if\n(stmts\n)\n)\n)\n(line 10\n(ifelse\n(to 10)\n(to 1)\n)\n)\n(line 100\n)\n(line 65535\n(for ACDEFGH static)\n(next plain *)\n(if\n(stmts\n(ifelse\n(to 10)\n(stmts\n)\n)\n)\n)\n)\n)\n"; writes = "(graph 0 8\n(node 0 1 0 (0) (in) (succ 1 2) (pred 3))\n(node 1 1 0 (0 0) (in 0) (succ 2) (pred 0))\n(node 2 1 0 (1) (in) (succ 3) (pred 0 1))\n(node 3 10 1 (0) (in) (succ 3 0) (pred 2 3 7))\n(node 4 65535 3 (0) (in) (succ 5) (pred))\n(node 5 65535 3 (1) (in) (succ 5 6) (pred 4 5))\n(node 6 65535 3 (2) (in) (succ 7) (pred 5))\n(node 7 65535 3 (2 0) (in 6) (succ 3) (pred 6))\n(entry 1 0)\n(entry 10 3)\n(entry 100 4)\n(entry 65535 4)\n(returns)\n)\n" } ∷
    record { text = "(module 0\n(line 65534\n)\n)\n"; writes = "(graph 0 0\n(returns)\n)\n" } ∷
    record { text = "(module 0\n(line 0\n(for ABCDEFGH static)\n)\n(line 50\n(return)\n(next plain *)\n(for ABCDEFG static)\n)\n)\n"; writes = "(graph 0 4\n(node 0 0 0 (0) (in) (succ 1) (pred))\n(node 1 50 1 (0) (in) (succ) (pred 0 2))\n(node 2 50 1 (1) (in) (succ 1 3) (pred))\n(node 3 50 1 (2) (in) (succ) (pred 2))\n(entry 0 0)\n(entry 50 1)\n(returns)\n)\n" } ∷
    record { text = "(module 1\n(line 1\n(any)\n(done)\n)\n(line 20\n(else)\n(else)\n)\n)\n"; writes = "(graph 0 4\n(node 0 1 0 (0) (in) (succ 0 2) (pred 0))\n(node 1 1 0 (1) (in) (succ 2) (pred))\n(node 2 20 1 (0) (in) (succ) (pred 0 1))\n(node 3 20 1 (1) (in) (succ) (pred))\n(entry 1 0)\n(entry 20 2)\n(returns)\n)\n" } ∷
    record { text = "(module 0\n(line 5\n(gosub 5)\n)\n)\n"; writes = "(graph 0 1\n(node 0 5 0 (0) (in) (succ 0) (pred 0))\n(entry 5 0)\n(returns)\n)\n" } ∷
    record { text = "(module 1\n(line 40\n(plain)\n(for AB% framed)\n(for AB% static)\n(next plain ABCDEFGH%)\n)\n(line 999\n(exitif)\n(gosub 40)\n(any)\n(return)\n)\n)\n"; writes = "(graph 0 8\n(node 0 40 0 (0) (in) (succ 1) (pred 5 6))\n(node 1 40 0 (1) (in) (succ 2) (pred 0))\n(node 2 40 0 (2) (in) (succ 3) (pred 1))\n(node 3 40 0 (3) (in) (succ 3 4) (pred 2 3))\n(node 4 999 1 (0) (in) (succ 5) (pred 3 6))\n(node 5 999 1 (1) (in) (succ 0) (pred 4))\n(node 6 999 1 (2) (in) (succ 0 4) (pred 7))\n(node 7 999 1 (3) (in) (succ 6) (pred))\n(entry 40 0)\n(entry 999 4)\n(returns 6)\n(back 5 6)\n)\n" } ∷
    record { text = "(module 1\n(line 10\n(clr)\n(exitif)\n(loop)\n)\n(line 40\n(any)\n)\n(line 50\n(clr)\n(loop)\n(next plain * N N NOTES%)\n(clr)\n(ongosub 40 10 40)\n(until)\n(exitif)\n)\n)\n"; writes = "(graph 0 11\n(node 0 10 0 (0) (in) (succ 1) (pred 3 8))\n(node 1 10 0 (1) (in) (succ 2) (pred 0))\n(node 2 10 0 (2) (in) (succ 3) (pred 1))\n(node 3 40 1 (0) (in) (succ 0 3 4) (pred 2 3 8))\n(node 4 50 2 (0) (in) (succ 5) (pred 3))\n(node 5 50 2 (1) (in) (succ 6) (pred 4))\n(node 6 50 2 (2) (in) (succ 7) (pred 5 9))\n(node 7 50 2 (3) (in) (succ 8) (pred 6))\n(node 8 50 2 (4) (in) (succ 3 0 9) (pred 7))\n(node 9 50 2 (5) (in) (succ 6 10) (pred 8))\n(node 10 50 2 (6) (in) (succ) (pred 9))\n(entry 10 0)\n(entry 40 3)\n(entry 50 4)\n(returns 9)\n(back 8 9)\n)\n" } ∷
    record { text = "(module 1\n(line 1\n(gosub 100)\n(exit)\n)\n(line 100\n(exitif)\n(ifelse\n(to 1)\n(stmts\n(stop)\n(exitif)\n(ifelse\n(stmts\n(loop)\n)\n(stmts\n)\n)\n)\n)\n(return)\n(any)\n)\n(line 65534\n)\n(line 65535\n)\n)\n"; writes = "(graph 0 10\n(node 0 1 0 (0) (in) (succ 2) (pred 3 9))\n(node 1 1 0 (1) (in) (succ) (pred 8))\n(node 2 100 1 (0) (in) (succ 3) (pred 0 9))\n(node 3 100 1 (1) (in) (succ 0 4) (pred 2))\n(node 4 100 1 (1 0) (in 3) (succ) (pred 3))\n(node 5 100 1 (1 1) (in 3) (succ 6) (pred))\n(node 6 100 1 (1 2) (in 3) (succ 7 8) (pred 5))\n(node 7 100 1 (1 2 0) (in 6) (succ 8) (pred 6))\n(node 8 100 1 (2) (in) (succ 1) (pred 6 7))\n(node 9 100 1 (3) (in) (succ 0 2) (pred))\n(entry 1 0)\n(entry 100 2)\n(returns 1)\n(back 0 1)\n)\n" } ∷
    record { text = "(module 0\n(line 100\n(for CO1 static)\n(next plain CO)\n(return)\n(gosub 100)\n)\n)\n"; writes = "(graph 0 4\n(node 0 100 0 (0) (in) (succ 1) (pred 3))\n(node 1 100 0 (1) (in) (succ 1 2) (pred 0 1))\n(node 2 100 0 (2) (in) (succ) (pred 1))\n(node 3 100 0 (3) (in) (succ 0) (pred))\n(entry 100 0)\n(returns)\n)\n" } ∷
    record { text = "(module 0\n(line 0\n(repeat)\n)\n(line 1\n(exit)\n(loop)\n)\n(line 50\n(exitif)\n(exit)\n)\n(line 65534\n(exit)\n(repeat)\n)\n(line 65535\n(loop)\n(endloop)\n)\n)\n"; writes = "(graph 0 9\n(node 0 0 0 (0) (in) (succ 1) (pred))\n(node 1 1 1 (0) (in) (succ) (pred 0))\n(node 2 1 1 (1) (in) (succ 3) (pred))\n(node 3 50 2 (0) (in) (succ 4) (pred 2))\n(node 4 50 2 (1) (in) (succ) (pred 3))\n(node 5 65534 3 (0) (in) (succ) (pred))\n(node 6 65534 3 (1) (in) (succ 7) (pred))\n(node 7 65535 4 (0) (in) (succ 8) (pred 6))\n(node 8 65535 4 (1) (in) (succ 8) (pred 7 8))\n(entry 0 0)\n(entry 1 1)\n(entry 50 3)\n(entry 65534 5)\n(entry 65535 7)\n(returns)\n)\n" } ∷
    record { text = "(module 0\n(line 999\n(gosub 999)\n(return)\n(return)\n)\n)\n"; writes = "(graph 0 3\n(node 0 999 0 (0) (in) (succ 0) (pred 0))\n(node 1 999 0 (1) (in) (succ 1) (pred 1))\n(node 2 999 0 (2) (in) (succ) (pred))\n(entry 999 0)\n(returns 1)\n(back 0 1)\n)\n" } ∷
    record { text = "(module 0\n(line 20\n(for COUNT static)\n(for COUNT dispatched)\n(next plain CO2)\n(gosub 20)\n(next orphan COUNT)\n(return)\n)\n)\n"; writes = "(graph 0 6\n(node 0 20 0 (0) (in) (succ 1) (pred 3))\n(node 1 20 0 (1) (in) (succ 2) (pred 0))\n(node 2 20 0 (2) (in) (succ 2 3) (pred 1 2 4))\n(node 3 20 0 (3) (in) (succ 0) (pred 2))\n(node 4 20 0 (4) (in) (succ 5 2) (pred 5))\n(node 5 20 0 (5) (in) (succ 4) (pred 4))\n(entry 20 0)\n(returns 4)\n(back 3 4)\n)\n" } ∷
    record { text = "(module 0\n(line 100\n(rcomp\n(to 100)\n(stmts\n(for LOOPVAR2 framed)\n(return)\n)\n)\n(for LOOPVAR2 dispatched)\n(done)\n(plain)\n)\n(line 999\n(gosub 999)\n(next orphan LOOPVAR2)\n(return)\n)\n)\n"; writes = "(graph 0 9\n(node 0 100 0 (0) (in) (succ 0 1) (pred 0))\n(node 1 100 0 (0 0) (in 0) (succ 2) (pred 0))\n(node 2 100 0 (0 1) (in 0) (succ) (pred 1))\n(node 3 100 0 (1) (in) (succ 4) (pred))\n(node 4 100 0 (2) (in) (succ 5) (pred 3 7))\n(node 5 100 0 (3) (in) (succ 6) (pred 4))\n(node 6 999 1 (0) (in) (succ 6) (pred 5 6))\n(node 7 999 1 (1) (in) (succ 4 8) (pred 8))\n(node 8 999 1 (2) (in) (succ 7) (pred 7))\n(entry 100 0)\n(entry 999 6)\n(returns 7)\n(back 6 7)\n)\n" } ∷
    record { text = "(module 0\n(line 0\n(ongoto 0 5 1 999)\n)\n(line 1\n(if\n(stmts\n(clr)\n(ongoto 65534 1 40)\n(run)\n)\n)\n)\n(line 5\n(ongoto 65534)\n(any)\n)\n(line 40\n(goto 100)\n(if\n(to 65534)\n)\n)\n(line 100\n(run 65534)\n)\n(line 65534\n(any)\n)\n)\n"; writes = "(graph 0 11\n(node 0 0 0 (0) (in) (succ 0 5 1) (pred 0 4 6 10))\n(node 1 1 1 (0) (in) (succ 2 5) (pred 0 3 6 10))\n(node 2 1 1 (0 0) (in 1) (succ 3) (pred 1))\n(node 3 1 1 (0 1) (in 1) (succ 10 1 7 4) (pred 2))\n(node 4 1 1 (0 2) (in 1) (succ 0) (pred 3))\n(node 5 5 2 (0) (in) (succ 10 6) (pred 0 1 6 10))\n(node 6 5 2 (1) (in) (succ 0 1 5 7 9 10) (pred 5))\n(node 7 40 3 (0) (in) (succ 9) (pred 3 6 10))\n(node 8 40 3 (1) (in) (succ 10 9) (pred))\n(node 9 100 4 (0) (in) (succ 10) (pred 6 7 8 10))\n(node 10 65534 5 (0) (in) (succ 0 1 5 7 9 10) (pred 3 5 6 8 9 10))\n(entry 0 0)\n(entry 1 1)\n(entry 5 5)\n(entry 40 7)\n(entry 100 9)\n(entry 65534 10)\n(returns)\n)\n" } ∷
    record { text = "(module 1\n(line 5\n(loop)\n)\n(line 30\n(for ABCDEFGH% static)\n(gosub 30)\n(any)\n(else)\n(return)\n)\n)\n"; writes = "(graph 0 6\n(node 0 5 0 (0) (in) (succ 1) (pred 3))\n(node 1 30 1 (0) (in) (succ 2) (pred 0 2 3))\n(node 2 30 1 (1) (in) (succ 1) (pred 1))\n(node 3 30 1 (2) (in) (succ 0 1) (pred 5))\n(node 4 30 1 (3) (in) (succ) (pred))\n(node 5 30 1 (4) (in) (succ 3) (pred))\n(entry 5 0)\n(entry 30 1)\n(returns 3)\n(back 2 3)\n)\n" } ∷
    record { text = "(module 1\n(line 5\n(doif)\n(return)\n(ongosub 5 5)\n(plain)\n)\n)\n"; writes = "(graph 0 4\n(node 0 5 0 (0) (in) (succ 1) (pred 2))\n(node 1 5 0 (1) (in) (succ 3) (pred 0))\n(node 2 5 0 (2) (in) (succ 0 3) (pred))\n(node 3 5 0 (3) (in) (succ) (pred 1 2))\n(entry 5 0)\n(returns 3)\n(back 2 3)\n)\n" } ∷
    record { text = "(module 1\n(line 0\n(return)\n)\n(line 1\n)\n(line 10\n(for CO1 dispatched)\n(if\n(to 50)\n)\n)\n(line 50\n)\n(line 65535\n(stop)\n(return)\n(rcomp\n(stmts\n(else)\n(plain)\n)\n)\n(plain)\n(exit)\n(next orphan COUNTER)\n)\n)\n"; writes = "(graph 0 11\n(node 0 0 0 (0) (in) (succ) (pred))\n(node 1 10 2 (0) (in) (succ 2) (pred))\n(node 2 10 2 (1) (in) (succ 3) (pred 1 10))\n(node 3 65535 4 (0) (in) (succ) (pred 2))\n(node 4 65535 4 (1) (in) (succ) (pred))\n(node 5 65535 4 (2) (in) (succ 6 8) (pred))\n(node 6 65535 4 (2 0) (in 5) (succ) (pred 5))\n(node 7 65535 4 (2 1) (in 5) (succ 8) (pred))\n(node 8 65535 4 (3) (in) (succ 9) (pred 5 7))\n(node 9 65535 4 (4) (in) (succ) (pred 8))\n(node 10 65535 4 (5) (in) (succ 2) (pred))\n(entry 0 0)\n(entry 1 1)\n(entry 10 1)\n(entry 50 3)\n(entry 65535 3)\n(returns)\n)\n" } ∷
    record { text = "(module 1\n(line 40\n(gosub 40)\n(gosub 40)\n(return)\n(any)\n)\n)\n"; writes = "(graph 0 4\n(node 0 40 0 (0) (in) (succ 0) (pred 0 1 3))\n(node 1 40 0 (1) (in) (succ 0) (pred 2))\n(node 2 40 0 (2) (in) (succ 1 2) (pred 2))\n(node 3 40 0 (3) (in) (succ 0) (pred))\n(entry 40 0)\n(returns 1 2)\n(back 0 1)\n(back 1 2)\n)\n" } ∷
    record { text = "(module 0\n(line 5\n(loop)\n(loop)\n(exit)\n)\n(line 100\n(plain)\n(for I static)\n(return)\n(any)\n(for X static)\n)\n(line 999\n(next plain X)\n)\n)\n"; writes = "(graph 0 9\n(node 0 5 0 (0) (in) (succ 1) (pred 6))\n(node 1 5 0 (1) (in) (succ 2) (pred 0))\n(node 2 5 0 (2) (in) (succ) (pred 1))\n(node 3 100 1 (0) (in) (succ 4) (pred 6))\n(node 4 100 1 (1) (in) (succ 5) (pred 3))\n(node 5 100 1 (2) (in) (succ) (pred 4))\n(node 6 100 1 (3) (in) (succ 0 3 8) (pred))\n(node 7 100 1 (4) (in) (succ 8) (pred))\n(node 8 999 2 (0) (in) (succ 8) (pred 6 7 8))\n(entry 5 0)\n(entry 100 3)\n(entry 999 8)\n(returns)\n)\n" } ∷
    record { text = "(module 0\n(line 20\n)\n(line 30\n(rcomp\n(stmts\n(if\n(stmts\n(for COUNTER% dispatched)\n(for COUNT static)\n)\n)\n)\n(stmts\n(next plain COUNTERS$)\n)\n)\n(if\n(to 20)\n)\n(rcomp\n(stmts\n)\n(to 65535)\n)\n(for COUNT static)\n)\n(line 65534\n(gosub 65534)\n(return)\n)\n(line 65535\n(next plain COUNTER)\n)\n)\n"; writes = "(graph 0 11\n(node 0 30 1 (0) (in) (succ 1 4) (pred 5))\n(node 1 30 1 (0 0) (in 0) (succ 2 5) (pred 0))\n(node 2 30 1 (0 0 0) (in 1) (succ 3) (pred 1))\n(node 3 30 1 (0 0 1) (in 1) (succ 5) (pred 2))\n(node 4 30 1 (0 1) (in 0) (succ 5) (pred 0))\n(node 5 30 1 (1) (in) (succ 0 6) (pred 1 3 4))\n(node 6 30 1 (2) (in) (succ 7 10) (pred 5))\n(node 7 30 1 (3) (in) (succ 8) (pred 6))\n(node 8 65534 2 (0) (in) (succ 8) (pred 7 8 10))\n(node 9 65534 2 (1) (in) (succ 9) (pred 9))\n(node 10 65535 3 (0) (in) (succ 8) (pred 6))\n(entry 20 0)\n(entry 30 0)\n(entry 65534 8)\n(entry 65535 10)\n(returns 9)\n(back 8 9)\n)\n" } ∷
    record { text = "(module 0\n(line 65535\n)\n)\n"; writes = "(graph 0 0\n(returns)\n)\n" } ∷
    record { text = "(module 0\n(line 0\n)\n(line 5\n(done)\n)\n(line 10\n(endloop)\n(doif)\n(gosub 999)\n)\n(line 40\n(else)\n(plain)\n(doif)\n(else)\n(doif)\n)\n(line 999\n(return)\n)\n)\n"; writes = "(graph 0 10\n(node 0 5 1 (0) (in) (succ 1) (pred))\n(node 1 10 2 (0) (in) (succ) (pred 0))\n(node 2 10 2 (1) (in) (succ 3 5) (pred))\n(node 3 10 2 (2) (in) (succ 9) (pred 2))\n(node 4 40 3 (0) (in) (succ) (pred 9))\n(node 5 40 3 (1) (in) (succ 6) (pred 2))\n(node 6 40 3 (2) (in) (succ 7 8) (pred 5))\n(node 7 40 3 (3) (in) (succ) (pred 6))\n(node 8 40 3 (4) (in) (succ 9) (pred 6))\n(node 9 999 4 (0) (in) (succ 4) (pred 3 8))\n(entry 0 0)\n(entry 5 0)\n(entry 10 1)\n(entry 40 4)\n(entry 999 9)\n(returns 4)\n(back 3 4)\n)\n" } ∷
    record { text = "(module 0\n(line 1\n(clr)\n(run)\n(doif)\n(next orphan LOOPVAR2)\n)\n(line 10\n(gosub 100)\n(for LOOPVAR1 dispatched)\n(exitif)\n)\n(line 20\n(ifelse\n(stmts\n(endloop)\n(doif)\n)\n(stmts\n)\n)\n)\n(line 100\n(repeat)\n(done)\n)\n(line 999\n)\n)\n"; writes = "(graph 0 12\n(node 0 1 0 (0) (in) (succ 1) (pred 1))\n(node 1 1 0 (1) (in) (succ 0) (pred 0))\n(node 2 1 0 (2) (in) (succ 3) (pred))\n(node 3 1 0 (3) (in) (succ 4 6) (pred 2))\n(node 4 10 1 (0) (in) (succ 10) (pred 3))\n(node 5 10 1 (1) (in) (succ 6) (pred))\n(node 6 10 1 (2) (in) (succ 7) (pred 3 5))\n(node 7 20 2 (0) (in) (succ 8 10) (pred 6))\n(node 8 20 2 (0 0) (in 7) (succ) (pred 7))\n(node 9 20 2 (0 1) (in 7) (succ 10) (pred))\n(node 10 100 3 (0) (in) (succ 11) (pred 4 7 9))\n(node 11 100 3 (1) (in) (succ) (pred 10))\n(entry 1 0)\n(entry 10 4)\n(entry 20 7)\n(entry 100 10)\n(returns 5)\n(back 4 5)\n)\n" } ∷
    record { text = "(module 1\n(line 5\n(repeat)\n(gosub 5)\n(ongosub 65535 5)\n(plain)\n)\n(line 100\n(return)\n(return)\n(return)\n(gosub 5)\n)\n(line 65535\n)\n)\n"; writes = "(graph 0 8\n(node 0 5 0 (0) (in) (succ 1) (pred 1 2 7))\n(node 1 5 0 (1) (in) (succ 0) (pred 0))\n(node 2 5 0 (2) (in) (succ 0 3) (pred 4 5 6))\n(node 3 5 0 (3) (in) (succ 4) (pred 2 4 5 6))\n(node 4 100 1 (0) (in) (succ 2 3) (pred 3))\n(node 5 100 1 (1) (in) (succ 2 3) (pred))\n(node 6 100 1 (2) (in) (succ 2 3) (pred))\n(node 7 100 1 (3) (in) (succ 0) (pred))\n(entry 5 0)\n(entry 100 4)\n(returns 2 3)\n(back 1 2)\n(back 2 3)\n)\n" } ∷
    record { text = "(module 0\n(line 999\n(next plain *)\n(for LOOPVAR1 static)\n(next orphan L)\n(for L dispatched)\n)\n)\n"; writes = "(graph 0 4\n(node 0 999 0 (0) (in) (succ 1) (pred))\n(node 1 999 0 (1) (in) (succ 2) (pred 0))\n(node 2 999 0 (2) (in) (succ 3) (pred 1))\n(node 3 999 0 (3) (in) (succ) (pred 2))\n(entry 999 0)\n(returns)\n)\n" } ∷
    record { text = "(module 0\n(line 10\n(rcomp\n(stmts\n(if\n(to 20)\n)\n(return)\n(gosub 50)\n)\n)\n(next plain CO2 LOOPVAR1$ CO CO2)\n)\n(line 20\n(if\n(stmts\n(clr)\n(for CO2 framed)\n(if\n(to 40)\n)\n)\n)\n(ongoto)\n)\n(line 30\n)\n(line 40\n)\n(line 50\n)\n(line 65535\n)\n)\n"; writes = "(graph 0 10\n(node 0 10 0 (0) (in) (succ 1 4) (pred))\n(node 1 10 0 (0 0) (in 0) (succ 5 2) (pred 0))\n(node 2 10 0 (0 1) (in 0) (succ) (pred 1))\n(node 3 10 0 (0 2) (in 0) (succ) (pred))\n(node 4 10 0 (1) (in) (succ 5) (pred 0))\n(node 5 20 1 (0) (in) (succ 6 9) (pred 1 4))\n(node 6 20 1 (0 0) (in 5) (succ 7) (pred 5))\n(node 7 20 1 (0 1) (in 5) (succ 8) (pred 6))\n(node 8 20 1 (0 2) (in 5) (succ 9) (pred 7))\n(node 9 20 1 (1) (in) (succ) (pred 5 8))\n(entry 10 0)\n(entry 20 5)\n(returns 4)\n(back 3 4)\n)\n" } ∷
    record { text = "(module 0\n(line 30\n(goto 30)\n(if\n(stmts\n)\n)\n(for AC% framed)\n(if\n(to 30)\n)\n(rcomp\n(stmts\n(ongosub 30)\n(ifelse\n(to 30)\n(stmts\n(goto 30)\n)\n)\n(ongoto 30)\n)\n(to 40)\n)\n)\n)\n"; writes = "(graph 0 9\n(node 0 30 0 (0) (in) (succ 0) (pred 0 3 5 6 7 8))\n(node 1 30 0 (1) (in) (succ 2) (pred))\n(node 2 30 0 (2) (in) (succ 3) (pred 1))\n(node 3 30 0 (3) (in) (succ 0 4) (pred 2))\n(node 4 30 0 (4) (in) (succ 5) (pred 3))\n(node 5 30 0 (4 0) (in 4) (succ 0 6) (pred 4))\n(node 6 30 0 (4 1) (in 4) (succ 0 7) (pred 5))\n(node 7 30 0 (4 1 0) (in 6) (succ 0) (pred 6))\n(node 8 30 0 (4 2) (in 4) (succ 0) (pred))\n(entry 30 0)\n(returns 6)\n(back 5 6)\n)\n" } ∷
    record { text = "(module 0\n(line 20\n(goto 30)\n(return)\n)\n(line 30\n)\n(line 100\n(done)\n(run 100)\n)\n(line 65535\n(gosub 20)\n(gosub 65535)\n)\n)\n"; writes = "(graph 0 6\n(node 0 20 0 (0) (in) (succ 2) (pred 4))\n(node 1 20 0 (1) (in) (succ) (pred))\n(node 2 100 2 (0) (in) (succ 3) (pred 0 3))\n(node 3 100 2 (1) (in) (succ 2) (pred 2))\n(node 4 65535 3 (0) (in) (succ 0) (pred 5))\n(node 5 65535 3 (1) (in) (succ 4) (pred))\n(entry 20 0)\n(entry 30 2)\n(entry 100 2)\n(entry 65535 4)\n(returns 5)\n(back 4 5)\n)\n" } ∷
    record { text = "(module 1\n(line 20\n)\n(line 30\n(for ABCDEFGH% static)\n(if\n(stmts\n(gosub 20)\n)\n)\n(next plain AB%)\n(if\n(to 65535)\n)\n(return)\n)\n(line 50\n(plain)\n)\n(line 65534\n(next orphan *)\n(clr)\n(for AB% static)\n)\n(line 65535\n)\n)\n"; writes = "(graph 0 10\n(node 0 30 1 (0) (in) (succ 1) (pred 2))\n(node 1 30 1 (1) (in) (succ 2 3) (pred 0 3))\n(node 2 30 1 (1 0) (in 1) (succ 0) (pred 1))\n(node 3 30 1 (2) (in) (succ 1 4) (pred 1 5))\n(node 4 30 1 (3) (in) (succ 5) (pred 3))\n(node 5 30 1 (4) (in) (succ 3) (pred 4))\n(node 6 50 2 (0) (in) (succ 7) (pred))\n(node 7 65534 3 (0) (in) (succ 8) (pred 6))\n(node 8 65534 3 (1) (in) (succ 9) (pred 7))\n(node 9 65534 3 (2) (in) (succ) (pred 8))\n(entry 20 0)\n(entry 30 0)\n(entry 50 6)\n(entry 65534 7)\n(returns 3)\n(back 2 3)\n)\n" } ∷
    []

right-table : T (right table)
unfolding opened right table
right-table = tt
