-- Random listings with the original's graphs. Assumes nothing.
use Rattle.std.specs.Prelude.{List, [], ◌∷◌, true, false, T}
use Rattle.vectors.specs.Vector.{Vector, right, opened}

table : List Vector
table =
    record { text = "(module 1\n(line 1\n(done)\n(gosub 20)\n(done)\n(plain)\n(plain)\n)\n(line 20\n(else)\n(else)\n)\n)\n"; writes = "(graph 0 7\n(node 0 1 0 (0) (in) (succ 1) (pred))\n(node 1 1 0 (1) (in) (succ 5) (pred 0))\n(node 2 1 0 (2) (in) (succ 3) (pred))\n(node 3 1 0 (3) (in) (succ 4) (pred 2))\n(node 4 1 0 (4) (in) (succ 5) (pred 3))\n(node 5 20 1 (0) (in) (succ) (pred 1 4))\n(node 6 20 1 (1) (in) (succ) (pred))\n(entry 1 0)\n(entry 20 5)\n(returns 2)\n(back 1 2)\n)\n" } ∷
    record { text = "(module 0\n(line 1\n(ongosub 1 40 65535)\n(gosub 1)\n(plain)\n)\n(line 40\n(for Z99% dispatched)\n(plain)\n(ifelse\n(stmts\n)\n(stmts\n)\n)\n(gosub 40)\n)\n(line 65535\n)\n)\n"; writes = "(graph 0 7\n(node 0 1 0 (0) (in) (succ 0 3 1) (pred 0 1))\n(node 1 1 0 (1) (in) (succ 0) (pred 0))\n(node 2 1 0 (2) (in) (succ 3) (pred))\n(node 3 40 1 (0) (in) (succ 4) (pred 0 2 6))\n(node 4 40 1 (1) (in) (succ 5) (pred 3))\n(node 5 40 1 (2) (in) (succ 6) (pred 4))\n(node 6 40 1 (3) (in) (succ 3) (pred 5))\n(entry 1 0)\n(entry 40 3)\n(returns 1 2)\n(back 0 1)\n(back 1 2)\n)\n" } ∷
    record { text = "(module 0\n(line 100\n(for COUNT static)\n(next plain CO2)\n)\n)\n"; writes = "(graph 0 2\n(node 0 100 0 (0) (in) (succ 1) (pred))\n(node 1 100 0 (1) (in) (succ 1) (pred 0 1))\n(entry 100 0)\n(returns)\n)\n" } ∷
    record { text = "(module 1\n(line 0\n(gosub 100)\n(for A1B2% dispatched)\n)\n(line 100\n(for A1B2% dispatched)\n(any)\n)\n)\n"; writes = "(graph 0 4\n(node 0 0 0 (0) (in) (succ 2) (pred 3))\n(node 1 0 0 (1) (in) (succ 2) (pred))\n(node 2 100 1 (0) (in) (succ 3) (pred 0 1 3))\n(node 3 100 1 (1) (in) (succ 0 2) (pred 2))\n(entry 0 0)\n(entry 100 2)\n(returns 1)\n(back 0 1)\n)\n" } ∷
    record { text = "(module 0\n(line 999\n(else)\n(else)\n)\n)\n"; writes = "(graph 0 2\n(node 0 999 0 (0) (in) (succ) (pred))\n(node 1 999 0 (1) (in) (succ) (pred))\n(entry 999 0)\n(returns)\n)\n" } ∷
    record { text = "(module 1\n(line 1\n(plain)\n(for COUNTER% dispatched)\n(for COUNT% framed)\n)\n(line 20\n(else)\n(done)\n)\n(line 50\n(else)\n(doif)\n)\n(line 999\n(ifelse\n(stmts\n(done)\n)\n(stmts\n)\n)\n(done)\n(else)\n(exit)\n)\n(line 65535\n)\n)\n"; writes = "(graph 0 12\n(node 0 1 0 (0) (in) (succ 1) (pred))\n(node 1 1 0 (1) (in) (succ 2) (pred 0))\n(node 2 1 0 (2) (in) (succ 3) (pred 1))\n(node 3 20 1 (0) (in) (succ) (pred 2))\n(node 4 20 1 (1) (in) (succ 5) (pred))\n(node 5 50 2 (0) (in) (succ) (pred 4))\n(node 6 50 2 (1) (in) (succ 7 9) (pred))\n(node 7 999 3 (0) (in) (succ 8 9) (pred 6))\n(node 8 999 3 (0 0) (in 7) (succ 9) (pred 7))\n(node 9 999 3 (1) (in) (succ 10) (pred 6 7 8))\n(node 10 999 3 (2) (in) (succ) (pred 9))\n(node 11 999 3 (3) (in) (succ) (pred))\n(entry 1 0)\n(entry 20 3)\n(entry 50 5)\n(entry 999 7)\n(returns)\n)\n" } ∷
    record { text = "(module 1\n(line 5\n)\n(line 10\n)\n(line 20\n(return)\n(for COUNTER% dispatched)\n)\n(line 30\n(next plain Z9)\n(for Z99% dispatched)\n)\n(line 100\n(ongosub)\n(for Z9 framed)\n(any)\n(any)\n(if\n(stmts\n(return)\n)\n)\n)\n)\n"; writes = "(graph 0 10\n(node 0 20 2 (0) (in) (succ 5) (pred 6 7))\n(node 1 20 2 (1) (in) (succ 2) (pred))\n(node 2 30 3 (0) (in) (succ 3) (pred 1 6 7))\n(node 3 30 3 (1) (in) (succ 4) (pred 2))\n(node 4 100 4 (0) (in) (succ 5) (pred 3 6 7))\n(node 5 100 4 (1) (in) (succ 6) (pred 0 4 9))\n(node 6 100 4 (2) (in) (succ 0 2 4) (pred 5))\n(node 7 100 4 (3) (in) (succ 0 2 4) (pred))\n(node 8 100 4 (4) (in) (succ 9) (pred))\n(node 9 100 4 (4 0) (in 8) (succ 5) (pred 8))\n(entry 5 0)\n(entry 10 0)\n(entry 20 0)\n(entry 30 2)\n(entry 100 4)\n(returns 5)\n(back 4 5)\n)\n" } ∷
    record { text = "(module 1\n(line 30\n(run 65535)\n(any)\n(return)\n)\n(line 40\n(for COUNTERS$ static)\n(gosub 30)\n)\n(line 999\n(next orphan COUNTERS$)\n(until)\n(any)\n)\n(line 65535\n(for COUNTERS$ static)\n(next orphan *)\n(next plain *)\n)\n)\n"; writes = "(graph 0 11\n(node 0 30 0 (0) (in) (succ 8) (pred 1 4 7))\n(node 1 30 0 (1) (in) (succ 0 3 5 8) (pred))\n(node 2 30 0 (2) (in) (succ 5) (pred))\n(node 3 40 1 (0) (in) (succ 4) (pred 1 7))\n(node 4 40 1 (1) (in) (succ 0) (pred 3 5))\n(node 5 999 2 (0) (in) (succ 4 6) (pred 1 2 7))\n(node 6 999 2 (1) (in) (succ) (pred 5))\n(node 7 999 2 (2) (in) (succ 0 3 5 8) (pred))\n(node 8 65535 3 (0) (in) (succ 9) (pred 0 1 7))\n(node 9 65535 3 (1) (in) (succ 9 10) (pred 8 9))\n(node 10 65535 3 (2) (in) (succ) (pred 9))\n(entry 30 0)\n(entry 40 3)\n(entry 999 5)\n(entry 65535 8)\n(returns 5)\n(back 4 5)\n)\n" } ∷
    record { text = "(module 0\n(line 30\n(for K static)\n(next plain *)\n)\n)\n"; writes = "(graph 0 2\n(node 0 30 0 (0) (in) (succ 1) (pred))\n(node 1 30 0 (1) (in) (succ 1) (pred 0 1))\n(entry 30 0)\n(returns)\n)\n" } ∷
    record { text = "(module 0\n(line 0\n(until)\n(if\n(stmts\n)\n)\n(rcomp\n(stmts\n(if\n(stmts\n)\n)\n(loop)\n(until)\n)\n(stmts\n)\n)\n(plain)\n(if\n(stmts\n)\n)\n(repeat)\n(return)\n)\n(line 65534\n(gosub 0)\n(gosub 0)\n)\n)\n"; writes = "(graph 0 12\n(node 0 0 0 (0) (in) (succ) (pred 10 11))\n(node 1 0 0 (1) (in) (succ 2) (pred))\n(node 2 0 0 (2) (in) (succ 3 6) (pred 1))\n(node 3 0 0 (2 0) (in 2) (succ 4) (pred 2))\n(node 4 0 0 (2 1) (in 2) (succ 5) (pred 3))\n(node 5 0 0 (2 2) (in 2) (succ 5 6) (pred 4 5))\n(node 6 0 0 (3) (in) (succ 7) (pred 2 5))\n(node 7 0 0 (4) (in) (succ 8) (pred 6))\n(node 8 0 0 (5) (in) (succ 9) (pred 7))\n(node 9 0 0 (6) (in) (succ) (pred 8))\n(node 10 65534 1 (0) (in) (succ 0) (pred))\n(node 11 65534 1 (1) (in) (succ 0) (pred))\n(entry 0 0)\n(entry 65534 10)\n(returns 11)\n(back 10 11)\n)\n" } ∷
    record { text = "(module 0\n(line 0\n)\n(line 1\n(for NO% framed)\n)\n(line 5\n(if\n(stmts\n)\n)\n(next orphan *)\n(clr)\n)\n(line 65535\n(next plain NOTES% * * *)\n(return)\n)\n)\n"; writes = "(graph 0 6\n(node 0 1 1 (0) (in) (succ 1) (pred))\n(node 1 5 2 (0) (in) (succ 2) (pred 0 2))\n(node 2 5 2 (1) (in) (succ 1 3) (pred 1))\n(node 3 5 2 (2) (in) (succ 4) (pred 2))\n(node 4 65535 3 (0) (in) (succ 5) (pred 3))\n(node 5 65535 3 (1) (in) (succ) (pred 4))\n(entry 0 0)\n(entry 1 0)\n(entry 5 1)\n(entry 65535 4)\n(returns)\n)\n" } ∷
    record { text = "(module 1\n(line 65534\n(ongosub 65534 65534)\n(return)\n(gosub 65534)\n(any)\n)\n)\n"; writes = "(graph 0 4\n(node 0 65534 0 (0) (in) (succ 0 1) (pred 0 2 3))\n(node 1 65534 0 (1) (in) (succ 1 3) (pred 0 1))\n(node 2 65534 0 (2) (in) (succ 0) (pred))\n(node 3 65534 0 (3) (in) (succ 0) (pred 1))\n(entry 65534 0)\n(returns 1 3)\n(back 0 1)\n(back 2 3)\n)\n" } ∷
    record { text = "(module 1\n(line 0\n(return)\n(for NOTES% dispatched)\n(return)\n)\n(line 5\n(ongosub 50 0 1)\n(return)\n)\n(line 50\n(gosub 50)\n(next orphan NOTE%)\n(plain)\n)\n(line 65534\n(gosub 65534)\n)\n)\n"; writes = "(graph 0 9\n(node 0 0 0 (0) (in) (succ 4 6) (pred 3))\n(node 1 0 0 (1) (in) (succ 2) (pred))\n(node 2 0 0 (2) (in) (succ 4 6) (pred 1 6))\n(node 3 5 1 (0) (in) (succ 5 0 4) (pred))\n(node 4 5 1 (1) (in) (succ 4 6) (pred 0 2 3 4))\n(node 5 50 2 (0) (in) (succ 5) (pred 3 5))\n(node 6 50 2 (1) (in) (succ 2 7) (pred 0 2 4))\n(node 7 50 2 (2) (in) (succ 8) (pred 6))\n(node 8 65534 3 (0) (in) (succ 8) (pred 7 8))\n(entry 0 0)\n(entry 5 3)\n(entry 50 5)\n(entry 65534 8)\n(returns 4 6)\n(back 3 4)\n(back 5 6)\n)\n" } ∷
    record { text = "(module 1\n(line 0\n(loop)\n(endloop)\n)\n(line 20\n(next plain N%)\n(repeat)\n)\n(line 30\n(exit)\n(until)\n(endloop)\n(endloop)\n)\n(line 40\n(for N% static)\n(any)\n)\n)\n"; writes = "(graph 0 10\n(node 0 0 0 (0) (in) (succ 1) (pred 9))\n(node 1 0 0 (1) (in) (succ 1) (pred 0 1))\n(node 2 20 1 (0) (in) (succ 3) (pred 9))\n(node 3 20 1 (1) (in) (succ 4) (pred 2))\n(node 4 30 2 (0) (in) (succ 6) (pred 3 5 9))\n(node 5 30 2 (1) (in) (succ 4 6) (pred))\n(node 6 30 2 (2) (in) (succ) (pred 4 5))\n(node 7 30 2 (3) (in) (succ) (pred))\n(node 8 40 3 (0) (in) (succ 9) (pred 9))\n(node 9 40 3 (1) (in) (succ 0 2 4 8) (pred 8))\n(entry 0 0)\n(entry 20 2)\n(entry 30 4)\n(entry 40 8)\n(returns)\n)\n" } ∷
    record { text = "(module 0\n(line 0\n(until)\n(goto 0)\n(for N% static)\n(done)\n(ongosub 0 40 0)\n(rcomp\n(stmts\n(run 0)\n(goto 40)\n(gosub 40)\n)\n(stmts\n)\n)\n)\n(line 40\n(next plain *)\n)\n)\n"; writes = "(graph 0 10\n(node 0 0 0 (0) (in) (succ) (pred 1 4 6))\n(node 1 0 0 (1) (in) (succ 0) (pred))\n(node 2 0 0 (2) (in) (succ 3) (pred))\n(node 3 0 0 (3) (in) (succ 4) (pred 2 9))\n(node 4 0 0 (4) (in) (succ 0 9 5) (pred 3))\n(node 5 0 0 (5) (in) (succ 6 9) (pred 4))\n(node 6 0 0 (5 0) (in 5) (succ 0) (pred 5))\n(node 7 0 0 (5 1) (in 5) (succ 9) (pred))\n(node 8 0 0 (5 2) (in 5) (succ 9) (pred))\n(node 9 40 1 (0) (in) (succ 3) (pred 4 5 7 8))\n(entry 0 0)\n(entry 40 9)\n(returns 5 9)\n(back 4 5)\n(back 8 9)\n)\n" } ∷
    record { text = "(module 0\n(line 10\n(return)\n(next orphan CO1)\n)\n(line 100\n(next orphan *)\n)\n(line 65534\n(gosub 10)\n(ongoto 100 65534)\n(for COUNT dispatched)\n(gosub 65534)\n)\n)\n"; writes = "(graph 0 7\n(node 0 10 0 (0) (in) (succ 4) (pred 3))\n(node 1 10 0 (1) (in) (succ 2 6) (pred))\n(node 2 100 1 (0) (in) (succ 3 6) (pred 1 4))\n(node 3 65534 2 (0) (in) (succ 0) (pred 2 4 6))\n(node 4 65534 2 (1) (in) (succ 2 3 5) (pred 0))\n(node 5 65534 2 (2) (in) (succ 6) (pred 4))\n(node 6 65534 2 (3) (in) (succ 3) (pred 1 2 5))\n(entry 10 0)\n(entry 100 2)\n(entry 65534 3)\n(returns 4)\n(back 3 4)\n)\n" } ∷
    record { text = "(module 0\n(line 10\n(return)\n(until)\n(gosub 10)\n)\n)\n"; writes = "(graph 0 3\n(node 0 10 0 (0) (in) (succ) (pred 2))\n(node 1 10 0 (1) (in) (succ) (pred))\n(node 2 10 0 (2) (in) (succ 0) (pred))\n(entry 10 0)\n(returns)\n)\n" } ∷
    record { text = "(module 1\n(line 100\n(for Z9 static)\n)\n(line 65534\n(ongoto 65534 100 65534 30)\n(else)\n(any)\n(run 65534)\n(next plain *)\n(next orphan ACDEFGH *)\n(until)\n)\n)\n"; writes = "(graph 0 8\n(node 0 100 0 (0) (in) (succ 1) (pred 1 3))\n(node 1 65534 1 (0) (in) (succ 1 0 2) (pred 0 1 3 4 5))\n(node 2 65534 1 (1) (in) (succ) (pred 1))\n(node 3 65534 1 (2) (in) (succ 0 1) (pred))\n(node 4 65534 1 (3) (in) (succ 1) (pred))\n(node 5 65534 1 (4) (in) (succ 1 6) (pred))\n(node 6 65534 1 (5) (in) (succ 7) (pred 5))\n(node 7 65534 1 (6) (in) (succ) (pred 6))\n(entry 100 0)\n(entry 65534 1)\n(returns)\n)\n" } ∷
    record { text = "(module 0\n(line 20\n(if\n(stmts\n)\n)\n(gosub 20)\n(return)\n)\n(line 50\n(goto 20)\n(ongosub 20 20)\n)\n)\n"; writes = "(graph 0 5\n(node 0 20 0 (0) (in) (succ 1) (pred 1 3 4))\n(node 1 20 0 (1) (in) (succ 0) (pred 0))\n(node 2 20 0 (2) (in) (succ 2) (pred 2))\n(node 3 50 1 (0) (in) (succ 0) (pred))\n(node 4 50 1 (1) (in) (succ 0) (pred))\n(entry 20 0)\n(entry 50 3)\n(returns 2)\n(back 1 2)\n)\n" } ∷
    record { text = "(module 0\n(line 50\n(else)\n(rcomp\n(stmts\n(loop)\n(rcomp\n(to 50)\n(stmts\n(doif)\n(exitif)\n(done)\n)\n)\n)\n(stmts\n)\n)\n(any)\n)\n(line 100\n(clr)\n(ongosub 65535 50 100 65535)\n)\n(line 65535\n(return)\n)\n)\n"; writes = "(graph 0 11\n(node 0 50 0 (0) (in) (succ) (pred 3 7 9))\n(node 1 50 0 (1) (in) (succ 2 7) (pred))\n(node 2 50 0 (1 0) (in 1) (succ 3) (pred 1))\n(node 3 50 0 (1 1) (in 1) (succ 0 4) (pred 2))\n(node 4 50 0 (1 1 0) (in 3) (succ 5 7) (pred 3))\n(node 5 50 0 (1 1 1) (in 3) (succ 6) (pred 4))\n(node 6 50 0 (1 1 2) (in 3) (succ 7) (pred 5))\n(node 7 50 0 (2) (in) (succ 0 8 10) (pred 1 4 6))\n(node 8 100 1 (0) (in) (succ 9) (pred 7 9))\n(node 9 100 1 (1) (in) (succ 10 0 8) (pred 8))\n(node 10 65535 2 (0) (in) (succ 10) (pred 7 9 10))\n(entry 50 0)\n(entry 100 8)\n(entry 65535 10)\n(returns 10)\n(back 9 10)\n)\n" } ∷
    record { text = "(module 0\n(line 1\n(next plain *)\n(for A1 static)\n)\n(line 10\n(next plain A1B2 A2B2)\n)\n(line 40\n)\n(line 65534\n(until)\n(any)\n(if\n(stmts\n(goto 1)\n(ongoto 40 40)\n)\n)\n)\n)\n"; writes = "(graph 0 8\n(node 0 1 0 (0) (in) (succ 1) (pred 4 6))\n(node 1 1 0 (1) (in) (succ 2) (pred 0))\n(node 2 10 1 (0) (in) (succ 2 3) (pred 1 2 4))\n(node 3 65534 3 (0) (in) (succ) (pred 2 4 7))\n(node 4 65534 3 (1) (in) (succ 0 2 3) (pred))\n(node 5 65534 3 (2) (in) (succ 6) (pred))\n(node 6 65534 3 (2 0) (in 5) (succ 0) (pred 5))\n(node 7 65534 3 (2 1) (in 5) (succ 3) (pred))\n(entry 1 0)\n(entry 10 2)\n(entry 40 3)\n(entry 65534 3)\n(returns)\n)\n" } ∷
    record { text = "(module 0\n(line 10\n(run)\n)\n(line 40\n(return)\n)\n(line 100\n(gosub 10)\n(rcomp\n(stmts\n(plain)\n(if\n(to 100)\n)\n)\n)\n(ongosub 40 40)\n)\n(line 999\n(next plain *)\n(rcomp\n(stmts\n)\n)\n(ongosub 10 10)\n(for A1B2% static)\n)\n)\n"; writes = "(graph 0 11\n(node 0 10 0 (0) (in) (succ 0) (pred 0 2 9))\n(node 1 40 1 (0) (in) (succ 7) (pred 6))\n(node 2 100 2 (0) (in) (succ 0) (pred 5))\n(node 3 100 2 (1) (in) (succ 4 6) (pred))\n(node 4 100 2 (1 0) (in 3) (succ 5) (pred 3))\n(node 5 100 2 (1 1) (in 3) (succ 2 6) (pred 4))\n(node 6 100 2 (2) (in) (succ 1 7) (pred 3 5))\n(node 7 999 3 (0) (in) (succ 8) (pred 1 6))\n(node 8 999 3 (1) (in) (succ 9) (pred 7))\n(node 9 999 3 (2) (in) (succ 0 10) (pred 8))\n(node 10 999 3 (3) (in) (succ) (pred 9))\n(entry 10 0)\n(entry 40 1)\n(entry 100 2)\n(entry 999 7)\n(returns 3 7 10)\n(back 2 3)\n(back 6 7)\n(back 9 10)\n)\n" } ∷
    record { text = "(module 1\n(line 100\n(run 0)\n(goto 100)\n)\n(line 999\n)\n(line 65534\n(run)\n(run 65534)\n(any)\n)\n)\n"; writes = "(graph 0 5\n(node 0 100 0 (0) (in) (succ) (pred 1 2 4))\n(node 1 100 0 (1) (in) (succ 0) (pred))\n(node 2 65534 2 (0) (in) (succ 0) (pred 3 4))\n(node 3 65534 2 (1) (in) (succ 2) (pred))\n(node 4 65534 2 (2) (in) (succ 0 2) (pred))\n(entry 100 0)\n(entry 999 2)\n(entry 65534 2)\n(returns)\n)\n" } ∷
    record { text = "(module 1\n(line 1\n(ifelse\n(stmts\n)\n(stmts\n)\n)\n(ongosub 1 1 1)\n(plain)\n(ongosub)\n(return)\n(gosub 1)\n)\n)\n"; writes = "(graph 0 6\n(node 0 1 0 (0) (in) (succ 1) (pred 1 5))\n(node 1 1 0 (1) (in) (succ 0 2) (pred 0))\n(node 2 1 0 (2) (in) (succ 3) (pred 1 4))\n(node 3 1 0 (3) (in) (succ 4) (pred 2))\n(node 4 1 0 (4) (in) (succ 2 4) (pred 3 4))\n(node 5 1 0 (5) (in) (succ 0) (pred))\n(entry 1 0)\n(returns 2 4)\n(back 1 2)\n(back 3 4)\n)\n" } ∷
    record { text = "(module 0\n(line 40\n(loop)\n(for N static)\n(else)\n(rcomp\n(stmts\n(run 5)\n(if\n(stmts\n(next orphan N% N% * *)\n(return)\n)\n)\n(ifelse\n(stmts\n(ifelse\n(stmts\n)\n(stmts\n)\n)\n)\n(stmts\n)\n)\n)\n(stmts\n)\n)\n)\n(line 50\n(next plain N)\n)\n)\n"; writes = "(graph 0 11\n(node 0 40 0 (0) (in) (succ 1) (pred))\n(node 1 40 0 (1) (in) (succ 2) (pred 0))\n(node 2 40 0 (2) (in) (succ) (pred 1 6))\n(node 3 40 0 (3) (in) (succ 4 10) (pred))\n(node 4 40 0 (3 0) (in 3) (succ) (pred 3))\n(node 5 40 0 (3 1) (in 3) (succ 6 8) (pred))\n(node 6 40 0 (3 1 0) (in 5) (succ 2 7) (pred 5))\n(node 7 40 0 (3 1 1) (in 5) (succ) (pred 6))\n(node 8 40 0 (3 2) (in 3) (succ 9 10) (pred 5))\n(node 9 40 0 (3 2 0) (in 8) (succ 10) (pred 8))\n(node 10 50 1 (0) (in) (succ) (pred 3 8 9))\n(entry 40 0)\n(entry 50 10)\n(returns)\n)\n" } ∷
    record { text = "(module 0\n(line 1\n(for COUNTER dispatched)\n(plain)\n(endloop)\n(gosub 1)\n(return)\n(gosub 1)\n)\n)\n"; writes = "(graph 0 6\n(node 0 1 0 (0) (in) (succ 1) (pred 3 5))\n(node 1 1 0 (1) (in) (succ 2) (pred 0))\n(node 2 1 0 (2) (in) (succ) (pred 1))\n(node 3 1 0 (3) (in) (succ 0) (pred))\n(node 4 1 0 (4) (in) (succ) (pred))\n(node 5 1 0 (5) (in) (succ 0) (pred))\n(entry 1 0)\n(returns 4)\n(back 3 4)\n)\n" } ∷
    record { text = "(module 0\n(line 40\n(doif)\n)\n(line 50\n)\n(line 999\n(doif)\n(stop)\n(ongosub 50)\n)\n(line 65534\n(next orphan *)\n(else)\n(for J% dispatched)\n)\n(line 65535\n(return)\n(doif)\n(for I$ dispatched)\n(repeat)\n)\n)\n"; writes = "(graph 0 11\n(node 0 40 0 (0) (in) (succ 1) (pred))\n(node 1 999 2 (0) (in) (succ 2 6) (pred 0 3))\n(node 2 999 2 (1) (in) (succ) (pred 1))\n(node 3 999 2 (2) (in) (succ 1 4) (pred))\n(node 4 65534 3 (0) (in) (succ 5 7 10) (pred 3 7))\n(node 5 65534 3 (1) (in) (succ) (pred 4))\n(node 6 65534 3 (2) (in) (succ 7) (pred 1))\n(node 7 65535 4 (0) (in) (succ 4) (pred 4 6))\n(node 8 65535 4 (1) (in) (succ 9) (pred))\n(node 9 65535 4 (2) (in) (succ 10) (pred 8))\n(node 10 65535 4 (3) (in) (succ) (pred 4 9))\n(entry 40 0)\n(entry 50 1)\n(entry 999 1)\n(entry 65534 4)\n(entry 65535 7)\n(returns 4)\n(back 3 4)\n)\n" } ∷
    record { text = "(module 1\n(line 0\n(goto 40)\n(clr)\n(for N framed)\n(return)\n(gosub 0)\n)\n(line 40\n(any)\n(if\n(to 40)\n)\n)\n(line 999\n(done)\n(exitif)\n(plain)\n(if\n(stmts\n)\n)\n(goto 0)\n)\n)\n"; writes = "(graph 0 12\n(node 0 0 0 (0) (in) (succ 5) (pred 4 5 11))\n(node 1 0 0 (1) (in) (succ 2) (pred))\n(node 2 0 0 (2) (in) (succ 3) (pred 1))\n(node 3 0 0 (3) (in) (succ 5) (pred 2))\n(node 4 0 0 (4) (in) (succ 0) (pred))\n(node 5 40 1 (0) (in) (succ 0 5 7) (pred 0 3 5 6))\n(node 6 40 1 (1) (in) (succ 5 7) (pred))\n(node 7 999 2 (0) (in) (succ 8) (pred 5 6))\n(node 8 999 2 (1) (in) (succ 9) (pred 7))\n(node 9 999 2 (2) (in) (succ 10) (pred 8))\n(node 10 999 2 (3) (in) (succ 11) (pred 9))\n(node 11 999 2 (4) (in) (succ 0) (pred 10))\n(entry 0 0)\n(entry 40 5)\n(entry 999 7)\n(returns 5)\n(back 4 5)\n)\n" } ∷
    record { text = "(module 1\n(line 1\n(clr)\n(ongoto 40 40 40 20)\n(next orphan *)\n(for ABCDEFGH static)\n(next plain *)\n(for ACDEFGH dispatched)\n(gosub 40)\n)\n(line 40\n(return)\n(run 1)\n(run)\n(plain)\n)\n)\n"; writes = "(graph 0 11\n(node 0 1 0 (0) (in) (succ 1) (pred 8 9))\n(node 1 1 0 (1) (in) (succ 7 2) (pred 0))\n(node 2 1 0 (2) (in) (succ 3 6) (pred 1))\n(node 3 1 0 (3) (in) (succ 4) (pred 2))\n(node 4 1 0 (4) (in) (succ 4 5) (pred 3 4))\n(node 5 1 0 (5) (in) (succ 6) (pred 4))\n(node 6 1 0 (6) (in) (succ 7) (pred 2 5))\n(node 7 40 1 (0) (in) (succ 7) (pred 1 6 7))\n(node 8 40 1 (1) (in) (succ 0) (pred))\n(node 9 40 1 (2) (in) (succ 0) (pred))\n(node 10 40 1 (3) (in) (succ) (pred))\n(entry 1 0)\n(entry 40 7)\n(returns 7)\n(back 6 7)\n)\n" } ∷
    record { text = "(module 0\n(line 30\n(plain)\n(return)\n(ongosub 30 30)\n(else)\n(goto 30)\n(else)\n(return)\n)\n)\n"; writes = "(graph 0 7\n(node 0 30 0 (0) (in) (succ 1) (pred 2 4))\n(node 1 30 0 (1) (in) (succ 3) (pred 0))\n(node 2 30 0 (2) (in) (succ 0 3) (pred))\n(node 3 30 0 (3) (in) (succ) (pred 1 2))\n(node 4 30 0 (4) (in) (succ 0) (pred))\n(node 5 30 0 (5) (in) (succ) (pred))\n(node 6 30 0 (6) (in) (succ) (pred))\n(entry 30 0)\n(returns 3)\n(back 2 3)\n)\n" } ∷
    record { text = "(module 0\n(line 20\n(return)\n)\n)\n"; writes = "(graph 0 1\n(node 0 20 0 (0) (in) (succ) (pred))\n(entry 20 0)\n(returns)\n)\n" } ∷
    record { text = "(module 1\n(line 20\n(if\n(to 999)\n)\n(any)\n)\n(line 999\n(ongoto 20)\n(return)\n(for LOOPVAR1 dispatched)\n(next orphan LOOPVAR1)\n(goto 65534)\n(until)\n)\n)\n"; writes = "(graph 0 8\n(node 0 20 0 (0) (in) (succ 2 1) (pred 1 2))\n(node 1 20 0 (1) (in) (succ 0 2) (pred 0))\n(node 2 999 1 (0) (in) (succ 0 3) (pred 0 1))\n(node 3 999 1 (1) (in) (succ) (pred 2))\n(node 4 999 1 (2) (in) (succ 5) (pred))\n(node 5 999 1 (3) (in) (succ 5 6) (pred 4 5))\n(node 6 999 1 (4) (in) (succ) (pred 5))\n(node 7 999 1 (5) (in) (succ) (pred))\n(entry 20 0)\n(entry 999 2)\n(returns)\n)\n" } ∷
    record { text = "(module 0\n(line 5\n(gosub 100)\n(gosub 100)\n(return)\n)\n(line 100\n(for N% framed)\n)\n)\n"; writes = "(graph 0 4\n(node 0 5 0 (0) (in) (succ 3) (pred))\n(node 1 5 0 (1) (in) (succ 3) (pred))\n(node 2 5 0 (2) (in) (succ) (pred))\n(node 3 100 1 (0) (in) (succ) (pred 0 1))\n(entry 5 0)\n(entry 100 3)\n(returns 1 2)\n(back 0 1)\n(back 1 2)\n)\n" } ∷
    record { text = "(module 1\n(line 0\n(gosub 0)\n(done)\n(ongosub 0)\n(next plain AB%)\n(gosub 0)\n(return)\n(plain)\n)\n(line 999\n(for ABCDEFGH% static)\n)\n)\n"; writes = "(graph 0 8\n(node 0 0 0 (0) (in) (succ 0) (pred 0 2 4))\n(node 1 0 0 (1) (in) (succ 2) (pred 5))\n(node 2 0 0 (2) (in) (succ 0 3) (pred 1))\n(node 3 0 0 (3) (in) (succ 4) (pred 2 5))\n(node 4 0 0 (4) (in) (succ 0) (pred 3))\n(node 5 0 0 (5) (in) (succ 1 3 5) (pred 5))\n(node 6 0 0 (6) (in) (succ 7) (pred))\n(node 7 999 1 (0) (in) (succ) (pred 6))\n(entry 0 0)\n(entry 999 7)\n(returns 1 3 5)\n(back 0 1)\n(back 2 3)\n(back 4 5)\n)\n" } ∷
    record { text = "(module 0\n(line 50\n(next plain I$)\n(plain)\n(any)\n(ongoto)\n(return)\n(return)\n(plain)\n)\n(line 65535\n(for I$ static)\n)\n)\n"; writes = "(graph 0 8\n(node 0 50 0 (0) (in) (succ 1) (pred 2))\n(node 1 50 0 (1) (in) (succ 2) (pred 0))\n(node 2 50 0 (2) (in) (succ 0 7) (pred 1))\n(node 3 50 0 (3) (in) (succ 4) (pred))\n(node 4 50 0 (4) (in) (succ) (pred 3))\n(node 5 50 0 (5) (in) (succ) (pred))\n(node 6 50 0 (6) (in) (succ 7) (pred))\n(node 7 65535 1 (0) (in) (succ) (pred 2 6))\n(entry 50 0)\n(entry 65535 7)\n(returns)\n)\n" } ∷
    record { text = "(module 1\n(line 40\n(ifelse\n(to 10)\n(stmts\n(repeat)\n)\n)\n)\n(line 999\n(ongosub 999 999)\n(return)\n(any)\n)\n)\n"; writes = "(graph 0 5\n(node 0 40 0 (0) (in) (succ 1) (pred 4))\n(node 1 40 0 (0 0) (in 0) (succ 2) (pred 0))\n(node 2 999 1 (0) (in) (succ 2 3) (pred 1 2 4))\n(node 3 999 1 (1) (in) (succ 3) (pred 2 3))\n(node 4 999 1 (2) (in) (succ 0 2) (pred))\n(entry 40 0)\n(entry 999 2)\n(returns 3)\n(back 2 3)\n)\n" } ∷
    record { text = "(module 0\n(line 0\n(for J static)\n(else)\n(for CO2 dispatched)\n)\n(line 40\n(next orphan * COUNTER COUNTER)\n(for I static)\n(until)\n(next orphan * COUNT)\n(exit)\n(next plain *)\n(plain)\n)\n)\n"; writes = "(graph 0 10\n(node 0 0 0 (0) (in) (succ 1) (pred))\n(node 1 0 0 (1) (in) (succ) (pred 0 8))\n(node 2 0 0 (2) (in) (succ 3) (pred))\n(node 3 40 1 (0) (in) (succ 3 4) (pred 2 3 6))\n(node 4 40 1 (1) (in) (succ 5) (pred 3))\n(node 5 40 1 (2) (in) (succ) (pred 4 6))\n(node 6 40 1 (3) (in) (succ 5 7 3) (pred))\n(node 7 40 1 (4) (in) (succ) (pred 6))\n(node 8 40 1 (5) (in) (succ 1 9) (pred))\n(node 9 40 1 (6) (in) (succ) (pred 8))\n(entry 0 0)\n(entry 40 3)\n(returns)\n)\n" } ∷
    record { text = "(module 1\n(line 20\n(if\n(stmts\n(exitif)\n)\n)\n(exitif)\n(until)\n)\n(line 40\n(any)\n)\n)\n"; writes = "(graph 0 5\n(node 0 20 0 (0) (in) (succ 1 2) (pred 4))\n(node 1 20 0 (0 0) (in 0) (succ 2) (pred 0))\n(node 2 20 0 (1) (in) (succ 3) (pred 0 1))\n(node 3 20 0 (2) (in) (succ) (pred 2))\n(node 4 40 1 (0) (in) (succ 0 4) (pred 4))\n(entry 20 0)\n(entry 40 4)\n(returns)\n)\n" } ∷
    record { text = "(module 0\n(line 999\n(next orphan J)\n(gosub 999)\n(for J dispatched)\n)\n(line 65534\n(next orphan J J)\n(stop)\n)\n)\n"; writes = "(graph 0 5\n(node 0 999 0 (0) (in) (succ 1 3) (pred 1))\n(node 1 999 0 (1) (in) (succ 0) (pred 0))\n(node 2 999 0 (2) (in) (succ 3) (pred))\n(node 3 65534 1 (0) (in) (succ 3 4) (pred 0 2 3))\n(node 4 65534 1 (1) (in) (succ) (pred 3))\n(entry 999 0)\n(entry 65534 3)\n(returns 2)\n(back 1 2)\n)\n" } ∷
    record { text = "(module 1\n(line 10\n(return)\n)\n(line 50\n(return)\n(plain)\n)\n)\n"; writes = "(graph 0 3\n(node 0 10 0 (0) (in) (succ) (pred))\n(node 1 50 1 (0) (in) (succ) (pred))\n(node 2 50 1 (1) (in) (succ) (pred))\n(entry 10 0)\n(entry 50 1)\n(returns)\n)\n" } ∷
    record { text = "(module 0\n(line 40\n)\n)\n"; writes = "(graph 0 0\n(returns)\n)\n" } ∷
    record { text = "(module 0\n(line 10\n(for A1B2 static)\n(clr)\n(run)\n(repeat)\n(clr)\n(for A1B2C3D4 dispatched)\n(if\n(to 10)\n)\n(next plain *)\n)\n)\n"; writes = "(graph 0 8\n(node 0 10 0 (0) (in) (succ 1) (pred 2 6))\n(node 1 10 0 (1) (in) (succ 2) (pred 0))\n(node 2 10 0 (2) (in) (succ 0) (pred 1))\n(node 3 10 0 (3) (in) (succ 4) (pred))\n(node 4 10 0 (4) (in) (succ 5) (pred 3))\n(node 5 10 0 (5) (in) (succ 6) (pred 4))\n(node 6 10 0 (6) (in) (succ 0 7) (pred 5 7))\n(node 7 10 0 (7) (in) (succ 6) (pred 6))\n(entry 10 0)\n(returns)\n)\n" } ∷
    record { text = "(module 0\n(line 5\n(any)\n(gosub 5)\n(for J static)\n(else)\n(next plain J)\n)\n)\n"; writes = "(graph 0 5\n(node 0 5 0 (0) (in) (succ 0) (pred 0 1))\n(node 1 5 0 (1) (in) (succ 0) (pred))\n(node 2 5 0 (2) (in) (succ 3) (pred))\n(node 3 5 0 (3) (in) (succ) (pred 2 4))\n(node 4 5 0 (4) (in) (succ 3) (pred))\n(entry 5 0)\n(returns 2)\n(back 1 2)\n)\n" } ∷
    record { text = "(module 0\n(line 30\n(ongoto 65535 30)\n(exit)\n(return)\n)\n(line 100\n(gosub 30)\n(any)\n(for J static)\n(run 100)\n)\n(line 65535\n(next plain J)\n)\n)\n"; writes = "(graph 0 8\n(node 0 30 0 (0) (in) (succ 7 0 1) (pred 0 3 4))\n(node 1 30 0 (1) (in) (succ) (pred 0))\n(node 2 30 0 (2) (in) (succ) (pred))\n(node 3 100 1 (0) (in) (succ 0) (pred 4 6))\n(node 4 100 1 (1) (in) (succ 0 3 7) (pred))\n(node 5 100 1 (2) (in) (succ 6) (pred))\n(node 6 100 1 (3) (in) (succ 3) (pred 5 7))\n(node 7 65535 2 (0) (in) (succ 6) (pred 0 4))\n(entry 30 0)\n(entry 100 3)\n(entry 65535 7)\n(returns 4)\n(back 3 4)\n)\n" } ∷
    record { text = "(module 0\n(line 1\n(for NOTES% static)\n)\n(line 10\n(loop)\n(exitif)\n(repeat)\n(exitif)\n(loop)\n(return)\n(loop)\n)\n(line 100\n(plain)\n(next plain NOTE%)\n(loop)\n(repeat)\n)\n)\n"; writes = "(graph 0 12\n(node 0 1 0 (0) (in) (succ 1) (pred))\n(node 1 10 1 (0) (in) (succ 2) (pred 0 9))\n(node 2 10 1 (1) (in) (succ 3) (pred 1))\n(node 3 10 1 (2) (in) (succ 4) (pred 2))\n(node 4 10 1 (3) (in) (succ 5) (pred 3))\n(node 5 10 1 (4) (in) (succ 6) (pred 4))\n(node 6 10 1 (5) (in) (succ) (pred 5))\n(node 7 10 1 (6) (in) (succ 8) (pred))\n(node 8 100 2 (0) (in) (succ 9) (pred 7))\n(node 9 100 2 (1) (in) (succ 1 10) (pred 8))\n(node 10 100 2 (2) (in) (succ 11) (pred 9))\n(node 11 100 2 (3) (in) (succ) (pred 10))\n(entry 1 0)\n(entry 10 1)\n(entry 100 8)\n(returns)\n)\n" } ∷
    record { text = "(module 1\n(line 100\n(goto 100)\n(gosub 100)\n(return)\n(plain)\n)\n)\n"; writes = "(graph 0 4\n(node 0 100 0 (0) (in) (succ 0) (pred 0 1))\n(node 1 100 0 (1) (in) (succ 0) (pred))\n(node 2 100 0 (2) (in) (succ 2) (pred 2))\n(node 3 100 0 (3) (in) (succ) (pred))\n(entry 100 0)\n(returns 2)\n(back 1 2)\n)\n" } ∷
    record { text = "(module 1\n(line 1\n(ifelse\n(stmts\n)\n(stmts\n(ifelse\n(stmts\n)\n(stmts\n(gosub 1)\n(if\n(stmts\n(if\n(to 20)\n)\n(gosub 5)\n(return)\n)\n)\n)\n)\n)\n)\n(return)\n(return)\n(if\n(stmts\n)\n)\n(plain)\n)\n(line 20\n)\n)\n"; writes = "(graph 0 11\n(node 0 1 0 (0) (in) (succ 7 1) (pred 2))\n(node 1 1 0 (0 0) (in 0) (succ 7 2) (pred 0))\n(node 2 1 0 (0 0 0) (in 1) (succ 0) (pred 1))\n(node 3 1 0 (0 0 1) (in 1) (succ 4 7) (pred 6 7 8))\n(node 4 1 0 (0 0 1 0) (in 3) (succ 5) (pred 3))\n(node 5 1 0 (0 0 1 1) (in 3) (succ) (pred 4))\n(node 6 1 0 (0 0 1 2) (in 3) (succ 3 6) (pred 6 7 8))\n(node 7 1 0 (1) (in) (succ 3 6) (pred 0 1 3))\n(node 8 1 0 (2) (in) (succ 3 6) (pred))\n(node 9 1 0 (3) (in) (succ 10) (pred))\n(node 10 1 0 (4) (in) (succ) (pred 9))\n(entry 1 0)\n(returns 3 6)\n(back 2 3)\n(back 5 6)\n)\n" } ∷
    record { text = "(module 0\n(line 30\n(goto 100)\n(return)\n(for I$ framed)\n(for A1B2C3D4 static)\n(if\n(stmts\n(exitif)\n(loop)\n)\n)\n)\n(line 40\n(if\n(stmts\n)\n)\n(if\n(stmts\n(run 100)\n)\n)\n)\n(line 100\n(next plain A1B2)\n)\n(line 65535\n)\n)\n"; writes = "(graph 0 11\n(node 0 30 0 (0) (in) (succ 10) (pred))\n(node 1 30 0 (1) (in) (succ) (pred))\n(node 2 30 0 (2) (in) (succ 3) (pred))\n(node 3 30 0 (3) (in) (succ 4) (pred 2))\n(node 4 30 0 (4) (in) (succ 5 7) (pred 3 10))\n(node 5 30 0 (4 0) (in 4) (succ 6) (pred 4))\n(node 6 30 0 (4 1) (in 4) (succ 7) (pred 5))\n(node 7 40 1 (0) (in) (succ 8) (pred 4 6))\n(node 8 40 1 (1) (in) (succ 9 10) (pred 7))\n(node 9 40 1 (1 0) (in 8) (succ 10) (pred 8))\n(node 10 100 2 (0) (in) (succ 4) (pred 0 8 9))\n(entry 30 0)\n(entry 40 7)\n(entry 100 10)\n(returns)\n)\n" } ∷
    record { text = "(module 0\n(line 0\n(next plain N%)\n(for N% static)\n)\n)\n"; writes = "(graph 0 2\n(node 0 0 0 (0) (in) (succ 1) (pred))\n(node 1 0 0 (1) (in) (succ) (pred 0))\n(entry 0 0)\n(returns)\n)\n" } ∷
    record { text = "(module 1\n(line 5\n(next plain *)\n(if\n(stmts\n(goto 65535)\n(if\n(stmts\n)\n)\n(next orphan COUNTER)\n)\n)\n(if\n(stmts\n)\n)\n(return)\n(gosub 65535)\n(return)\n(plain)\n)\n(line 65535\n(for COUNT dispatched)\n)\n)\n"; writes = "(graph 0 11\n(node 0 5 0 (0) (in) (succ 1) (pred))\n(node 1 5 0 (1) (in) (succ 2 5) (pred 0))\n(node 2 5 0 (1 0) (in 1) (succ 10) (pred 1))\n(node 3 5 0 (1 1) (in 1) (succ 4) (pred))\n(node 4 5 0 (1 2) (in 1) (succ 5) (pred 3))\n(node 5 5 0 (2) (in) (succ 6) (pred 1 4))\n(node 6 5 0 (3) (in) (succ 8) (pred 5))\n(node 7 5 0 (4) (in) (succ 10) (pred))\n(node 8 5 0 (5) (in) (succ 8) (pred 6 8))\n(node 9 5 0 (6) (in) (succ 10) (pred))\n(node 10 65535 1 (0) (in) (succ) (pred 2 7 9))\n(entry 5 0)\n(entry 65535 10)\n(returns 8)\n(back 7 8)\n)\n" } ∷
    record { text = "(module 0\n(line 1\n(gosub 65535)\n(return)\n(gosub 1)\n)\n)\n"; writes = "(graph 0 3\n(node 0 1 0 (0) (in) (succ) (pred 2))\n(node 1 1 0 (1) (in) (succ) (pred))\n(node 2 1 0 (2) (in) (succ 0) (pred))\n(entry 1 0)\n(returns 1)\n(back 0 1)\n)\n" } ∷
    record { text = "(module 1\n(line 5\n(until)\n(run)\n)\n(line 20\n(loop)\n)\n(line 65535\n(until)\n(plain)\n)\n)\n"; writes = "(graph 0 5\n(node 0 5 0 (0) (in) (succ) (pred 1))\n(node 1 5 0 (1) (in) (succ 0) (pred))\n(node 2 20 1 (0) (in) (succ 3) (pred))\n(node 3 65535 2 (0) (in) (succ 3 4) (pred 2 3))\n(node 4 65535 2 (1) (in) (succ) (pred 3))\n(entry 5 0)\n(entry 20 2)\n(entry 65535 3)\n(returns)\n)\n" } ∷
    record { text = "(module 1\n(line 30\n(next plain LOOPVAR1 LOOPVAR1 LOOPVAR1 *)\n(return)\n(rcomp\n(stmts\n)\n)\n(next plain LOOPVAR1)\n(return)\n(next plain LOOPVAR1$)\n(plain)\n)\n)\n"; writes = "(graph 0 7\n(node 0 30 0 (0) (in) (succ 1) (pred))\n(node 1 30 0 (1) (in) (succ) (pred 0))\n(node 2 30 0 (2) (in) (succ 3) (pred))\n(node 3 30 0 (3) (in) (succ 4) (pred 2))\n(node 4 30 0 (4) (in) (succ) (pred 3))\n(node 5 30 0 (5) (in) (succ 6) (pred))\n(node 6 30 0 (6) (in) (succ) (pred 5))\n(entry 30 0)\n(returns)\n)\n" } ∷
    record { text = "(module 0\n(line 0\n(clr)\n(goto 0)\n(any)\n(run 0)\n(ongoto 0)\n(if\n(stmts\n(goto 0)\n)\n)\n(next orphan COUNTERS)\n(clr)\n(clr)\n(for COUNT dispatched)\n)\n)\n"; writes = "(graph 0 11\n(node 0 0 0 (0) (in) (succ 1) (pred 1 2 3 4 6))\n(node 1 0 0 (1) (in) (succ 0) (pred 0))\n(node 2 0 0 (2) (in) (succ 0) (pred))\n(node 3 0 0 (3) (in) (succ 0) (pred))\n(node 4 0 0 (4) (in) (succ 0 5) (pred))\n(node 5 0 0 (5) (in) (succ 6 7) (pred 4))\n(node 6 0 0 (5 0) (in 5) (succ 0) (pred 5))\n(node 7 0 0 (6) (in) (succ 8) (pred 5))\n(node 8 0 0 (7) (in) (succ 9) (pred 7))\n(node 9 0 0 (8) (in) (succ 10) (pred 8))\n(node 10 0 0 (9) (in) (succ) (pred 9))\n(entry 0 0)\n(returns)\n)\n" } ∷
    record { text = "(module 1\n(line 65534\n(for N% framed)\n(gosub 65534)\n(gosub 65534)\n(return)\n(plain)\n)\n)\n"; writes = "(graph 0 5\n(node 0 65534 0 (0) (in) (succ 1) (pred 1 2))\n(node 1 65534 0 (1) (in) (succ 0) (pred 0))\n(node 2 65534 0 (2) (in) (succ 0) (pred 3))\n(node 3 65534 0 (3) (in) (succ 2 3) (pred 3))\n(node 4 65534 0 (4) (in) (succ) (pred))\n(entry 65534 0)\n(returns 2 3)\n(back 1 2)\n(back 2 3)\n)\n" } ∷
    record { text = "(module 0\n(line 50\n(endloop)\n)\n(line 100\n(repeat)\n(endloop)\n(ongoto 100 50)\n(loop)\n)\n(line 999\n(repeat)\n(for Z$ static)\n(next plain Z$)\n(exit)\n)\n(line 65534\n)\n)\n"; writes = "(graph 0 9\n(node 0 50 0 (0) (in) (succ) (pred 3))\n(node 1 100 1 (0) (in) (succ 2) (pred 3))\n(node 2 100 1 (1) (in) (succ 2) (pred 1 2))\n(node 3 100 1 (2) (in) (succ 1 0 4) (pred))\n(node 4 100 1 (3) (in) (succ 5) (pred 3))\n(node 5 999 2 (0) (in) (succ 6) (pred 4))\n(node 6 999 2 (1) (in) (succ 7) (pred 5))\n(node 7 999 2 (2) (in) (succ 7 8) (pred 6 7))\n(node 8 999 2 (3) (in) (succ) (pred 7))\n(entry 50 0)\n(entry 100 1)\n(entry 999 5)\n(returns)\n)\n" } ∷
    record { text = "(module 0\n(line 1\n(ongosub 1 1)\n(return)\n(ongosub 1 1)\n)\n)\n"; writes = "(graph 0 3\n(node 0 1 0 (0) (in) (succ 0 1) (pred 0 2))\n(node 1 1 0 (1) (in) (succ 1) (pred 0 1))\n(node 2 1 0 (2) (in) (succ 0) (pred))\n(entry 1 0)\n(returns 1)\n(back 0 1)\n)\n" } ∷
    record { text = "(module 0\n(line 65535\n(next plain CO)\n(for COUNT static)\n)\n)\n"; writes = "(graph 0 2\n(node 0 65535 0 (0) (in) (succ 1) (pred))\n(node 1 65535 0 (1) (in) (succ) (pred 0))\n(entry 65535 0)\n(returns)\n)\n" } ∷
    record { text = "(module 1\n(line 30\n(plain)\n(plain)\n(plain)\n)\n)\n"; writes = "(graph 0 3\n(node 0 30 0 (0) (in) (succ 1) (pred))\n(node 1 30 0 (1) (in) (succ 2) (pred 0))\n(node 2 30 0 (2) (in) (succ) (pred 1))\n(entry 30 0)\n(returns)\n)\n" } ∷
    record { text = "(module 0\n(line 20\n(exitif)\n(if\n(to 20)\n)\n(return)\n(gosub 20)\n(return)\n(if\n(stmts\n(next plain * Z99%)\n(next orphan *)\n)\n)\n)\n)\n"; writes = "(graph 0 8\n(node 0 20 0 (0) (in) (succ 1) (pred 1 3))\n(node 1 20 0 (1) (in) (succ 0 2) (pred 0))\n(node 2 20 0 (2) (in) (succ 4) (pred 1))\n(node 3 20 0 (3) (in) (succ 0) (pred))\n(node 4 20 0 (4) (in) (succ) (pred 2))\n(node 5 20 0 (5) (in) (succ 6) (pred))\n(node 6 20 0 (5 0) (in 5) (succ 7) (pred 5))\n(node 7 20 0 (5 1) (in 5) (succ) (pred 6))\n(entry 20 0)\n(returns 4)\n(back 3 4)\n)\n" } ∷
    []

right-table : T (right table)
unfolding opened right table
right-table = tt
