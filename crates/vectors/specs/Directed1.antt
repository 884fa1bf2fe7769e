-- Directed listings with the original's graphs. Assumes nothing.
use Rattle.std.specs.Prelude.{List, [], ◌∷◌, true, false, T}
use Rattle.vectors.specs.Vector.{Vector, right, opened}

table : List Vector
table =
    record { text = "(module 0\n)\n"; writes = "(graph 0 0\n(returns)\n)\n" } ∷
    record { text = "(module 0\n(line 10\n)\n(line 20\n(plain)\n)\n(line 30\n)\n)\n"; writes = "(graph 0 1\n(node 0 20 1 (0) (in) (succ) (pred))\n(entry 10 0)\n(entry 20 0)\n(returns)\n)\n" } ∷
    record { text = "(module 0\n(line 10\n(for I static)\n(next plain J)\n(next plain *)\n)\n)\n"; writes = "(graph 0 3\n(node 0 10 0 (0) (in) (succ 1) (pred))\n(node 1 10 0 (1) (in) (succ 2) (pred 0 2))\n(node 2 10 0 (2) (in) (succ 1) (pred 1))\n(entry 10 0)\n(returns)\n)\n" } ∷
    record { text = "(module 0\n(line 10\n(exit)\n(plain)\n)\n)\n"; writes = "(graph 0 2\n(node 0 10 0 (0) (in) (succ) (pred))\n(node 1 10 0 (1) (in) (succ) (pred))\n(entry 10 0)\n(returns)\n)\n" } ∷
    record { text = "(module 0\n(line 10\n(until)\n(plain)\n)\n)\n"; writes = "(graph 0 2\n(node 0 10 0 (0) (in) (succ) (pred))\n(node 1 10 0 (1) (in) (succ) (pred))\n(entry 10 0)\n(returns)\n)\n" } ∷
    record { text = "(module 0\n(line 10\n(endloop)\n(plain)\n)\n)\n"; writes = "(graph 0 2\n(node 0 10 0 (0) (in) (succ) (pred))\n(node 1 10 0 (1) (in) (succ) (pred))\n(entry 10 0)\n(returns)\n)\n" } ∷
    record { text = "(module 0\n(line 10\n(else)\n(plain)\n)\n)\n"; writes = "(graph 0 2\n(node 0 10 0 (0) (in) (succ) (pred))\n(node 1 10 0 (1) (in) (succ) (pred))\n(entry 10 0)\n(returns)\n)\n" } ∷
    record { text = "(module 0\n(line 10\n(exitif)\n(plain)\n)\n)\n"; writes = "(graph 0 2\n(node 0 10 0 (0) (in) (succ 1) (pred))\n(node 1 10 0 (1) (in) (succ) (pred 0))\n(entry 10 0)\n(returns)\n)\n" } ∷
    record { text = "(module 0\n(line 10\n(done)\n(plain)\n)\n)\n"; writes = "(graph 0 2\n(node 0 10 0 (0) (in) (succ 1) (pred))\n(node 1 10 0 (1) (in) (succ) (pred 0))\n(entry 10 0)\n(returns)\n)\n" } ∷
    record { text = "(module 0\n(line 10\n(repeat)\n(exit)\n(until)\n(stop)\n)\n)\n"; writes = "(graph 0 4\n(node 0 10 0 (0) (in) (succ 1) (pred))\n(node 1 10 0 (1) (in) (succ 3) (pred 0 2))\n(node 2 10 0 (2) (in) (succ 1 3) (pred))\n(node 3 10 0 (3) (in) (succ) (pred 1 2))\n(entry 10 0)\n(returns)\n)\n" } ∷
    record { text = "(module 0\n(line 10\n(loop)\n(exitif)\n(endloop)\n(stop)\n)\n)\n"; writes = "(graph 0 4\n(node 0 10 0 (0) (in) (succ 1) (pred))\n(node 1 10 0 (1) (in) (succ 2 3) (pred 0 2))\n(node 2 10 0 (2) (in) (succ 1) (pred 1))\n(node 3 10 0 (3) (in) (succ) (pred 1))\n(entry 10 0)\n(returns)\n)\n" } ∷
    record { text = "(module 0\n(line 10\n(doif)\n(plain)\n(else)\n(plain)\n(done)\n(stop)\n)\n)\n"; writes = "(graph 0 6\n(node 0 10 0 (0) (in) (succ 1 3) (pred))\n(node 1 10 0 (1) (in) (succ 2) (pred 0))\n(node 2 10 0 (2) (in) (succ 5) (pred 1))\n(node 3 10 0 (3) (in) (succ 4) (pred 0))\n(node 4 10 0 (4) (in) (succ 5) (pred 3))\n(node 5 10 0 (5) (in) (succ) (pred 2 4))\n(entry 10 0)\n(returns)\n)\n" } ∷
    record { text = "(module 0\n(line 10\n(for I static)\n(for J static)\n(for I static)\n(next plain J)\n(stop)\n)\n)\n"; writes = "(graph 0 5\n(node 0 10 0 (0) (in) (succ 1) (pred))\n(node 1 10 0 (1) (in) (succ 2) (pred 0))\n(node 2 10 0 (2) (in) (succ 3) (pred 1))\n(node 3 10 0 (3) (in) (succ 4) (pred 2))\n(node 4 10 0 (4) (in) (succ) (pred 3))\n(entry 10 0)\n(returns)\n)\n" } ∷
    record { text = "(module 0\n(line 10\n(for I dispatched)\n(next plain I)\n(plain)\n(next orphan I)\n(stop)\n)\n)\n"; writes = "(graph 0 5\n(node 0 10 0 (0) (in) (succ 1) (pred))\n(node 1 10 0 (1) (in) (succ 1 2) (pred 0 1 3))\n(node 2 10 0 (2) (in) (succ 3) (pred 1))\n(node 3 10 0 (3) (in) (succ 4 1) (pred 2))\n(node 4 10 0 (4) (in) (succ) (pred 3))\n(entry 10 0)\n(returns)\n)\n" } ∷
    record { text = "(module 0\n(line 10\n(ifelse\n(stmts\n(gosub 50)\n)\n(stmts\n(gosub 50)\n(plain)\n)\n)\n(stop)\n)\n(line 50\n(return)\n)\n)\n"; writes = "(graph 0 6\n(node 0 10 0 (0) (in) (succ 1 2) (pred))\n(node 1 10 0 (0 0) (in 0) (succ 5) (pred 0))\n(node 2 10 0 (0 1) (in 0) (succ 5) (pred 0))\n(node 3 10 0 (0 2) (in 0) (succ 4) (pred 5))\n(node 4 10 0 (1) (in) (succ) (pred 3 5))\n(node 5 50 1 (0) (in) (succ 3 4) (pred 1 2))\n(entry 10 0)\n(entry 50 5)\n(returns 4 3)\n(back 1 4)\n(back 2 3)\n)\n" } ∷
    record { text = "(module 1\n(line 10\n(ifelse\n(stmts\n(gosub 50)\n)\n(stmts\n(gosub 50)\n(plain)\n)\n)\n(stop)\n)\n(line 50\n(return)\n)\n)\n"; writes = "(graph 0 6\n(node 0 10 0 (0) (in) (succ 1 2) (pred))\n(node 1 10 0 (0 0) (in 0) (succ 5) (pred 0))\n(node 2 10 0 (0 1) (in 0) (succ 5) (pred 0))\n(node 3 10 0 (0 2) (in 0) (succ 4) (pred 5))\n(node 4 10 0 (1) (in) (succ) (pred 3 5))\n(node 5 50 1 (0) (in) (succ 4 3) (pred 1 2))\n(entry 10 0)\n(entry 50 5)\n(returns 4 3)\n(back 1 4)\n(back 2 3)\n)\n" } ∷
    record { text = "(module 0\n(line 10\n(gosub 10)\n)\n)\n"; writes = "(graph 0 1\n(node 0 10 0 (0) (in) (succ 0) (pred 0))\n(entry 10 0)\n(returns)\n)\n" } ∷
    record { text = "(module 0\n(line 10\n(gosub 100)\n(plain)\n)\n(line 20\n(stop)\n)\n(line 100\n(if\n(to 20)\n)\n(return)\n)\n)\n"; writes = "(graph 0 5\n(node 0 10 0 (0) (in) (succ 3) (pred))\n(node 1 10 0 (1) (in) (succ 2) (pred 4))\n(node 2 20 1 (0) (in) (succ) (pred 1 3))\n(node 3 100 2 (0) (in) (succ 2 4) (pred 0))\n(node 4 100 2 (1) (in) (succ 1) (pred 3))\n(entry 10 0)\n(entry 20 2)\n(entry 100 3)\n(returns 1)\n(back 0 1)\n)\n" } ∷
    record { text = "(module 0\n(line 10\n(for COUNT static)\n(next plain COUNTER)\n(stop)\n)\n)\n"; writes = "(graph 0 3\n(node 0 10 0 (0) (in) (succ 1) (pred))\n(node 1 10 0 (1) (in) (succ 1 2) (pred 0 1))\n(node 2 10 0 (2) (in) (succ) (pred 1))\n(entry 10 0)\n(returns)\n)\n" } ∷
    record { text = "(module 0\n(line 10\n(for COUNT static)\n(next plain COUNTER)\n)\n)\n"; writes = "(graph 0 2\n(node 0 10 0 (0) (in) (succ 1) (pred))\n(node 1 10 0 (1) (in) (succ 1) (pred 0 1))\n(entry 10 0)\n(returns)\n)\n" } ∷
    record { text = "(module 0\n(line 10\n(for COUNT static)\n(next plain COUNTER%)\n(stop)\n)\n)\n"; writes = "(graph 0 3\n(node 0 10 0 (0) (in) (succ 1) (pred))\n(node 1 10 0 (1) (in) (succ 2) (pred 0))\n(node 2 10 0 (2) (in) (succ) (pred 1))\n(entry 10 0)\n(returns)\n)\n" } ∷
    record { text = "(module 0\n(line 10\n(for COUNT% static)\n(next plain CO%)\n(stop)\n)\n)\n"; writes = "(graph 0 3\n(node 0 10 0 (0) (in) (succ 1) (pred))\n(node 1 10 0 (1) (in) (succ 1 2) (pred 0 1))\n(node 2 10 0 (2) (in) (succ) (pred 1))\n(entry 10 0)\n(returns)\n)\n" } ∷
    record { text = "(module 0\n(line 10\n(for AB% static)\n(next plain AC%)\n(stop)\n)\n)\n"; writes = "(graph 0 3\n(node 0 10 0 (0) (in) (succ 1) (pred))\n(node 1 10 0 (1) (in) (succ 2) (pred 0))\n(node 2 10 0 (2) (in) (succ) (pred 1))\n(entry 10 0)\n(returns)\n)\n" } ∷
    record { text = "(module 0\n(line 10\n(for A static)\n(next plain AB)\n(stop)\n)\n)\n"; writes = "(graph 0 3\n(node 0 10 0 (0) (in) (succ 1) (pred))\n(node 1 10 0 (1) (in) (succ 2) (pred 0))\n(node 2 10 0 (2) (in) (succ) (pred 1))\n(entry 10 0)\n(returns)\n)\n" } ∷
    record { text = "(module 0\n(line 10\n(for A1B2 static)\n(next plain A2B2)\n(stop)\n)\n)\n"; writes = "(graph 0 3\n(node 0 10 0 (0) (in) (succ 1) (pred))\n(node 1 10 0 (1) (in) (succ 2) (pred 0))\n(node 2 10 0 (2) (in) (succ) (pred 1))\n(entry 10 0)\n(returns)\n)\n" } ∷
    record { text = "(module 0\n(line 10\n(for COUNTERS$ static)\n(next plain CO1$)\n(stop)\n)\n)\n"; writes = "(graph 0 3\n(node 0 10 0 (0) (in) (succ 1) (pred))\n(node 1 10 0 (1) (in) (succ 1 2) (pred 0 1))\n(node 2 10 0 (2) (in) (succ) (pred 1))\n(entry 10 0)\n(returns)\n)\n" } ∷
    record { text = "(module 0\n(line 10\n(for COUNT static)\n(for J static)\n(for COUNTER static)\n(next plain J)\n(stop)\n)\n)\n"; writes = "(graph 0 5\n(node 0 10 0 (0) (in) (succ 1) (pred))\n(node 1 10 0 (1) (in) (succ 2) (pred 0))\n(node 2 10 0 (2) (in) (succ 3) (pred 1))\n(node 3 10 0 (3) (in) (succ 4) (pred 2))\n(node 4 10 0 (4) (in) (succ) (pred 3))\n(entry 10 0)\n(returns)\n)\n" } ∷
    record { text = "(module 0\n(line 10\n(for COUNT dispatched)\n(next plain *)\n(plain)\n(next orphan COUNTER)\n(stop)\n)\n)\n"; writes = "(graph 0 5\n(node 0 10 0 (0) (in) (succ 1) (pred))\n(node 1 10 0 (1) (in) (succ 1 2) (pred 0 1 3))\n(node 2 10 0 (2) (in) (succ 3) (pred 1))\n(node 3 10 0 (3) (in) (succ 4 1) (pred 2))\n(node 4 10 0 (4) (in) (succ) (pred 3))\n(entry 10 0)\n(returns)\n)\n" } ∷
    record { text = "(module 0\n(line 10\n(if\n(stmts\n(ifelse\n(stmts\n(plain)\n)\n(stmts\n(plain)\n)\n)\n)\n)\n)\n)\n"; writes = "(graph 0 4\n(node 0 10 0 (0) (in) (succ 1) (pred))\n(node 1 10 0 (0 0) (in 0) (succ 2 3) (pred 0))\n(node 2 10 0 (0 0 0) (in 1) (succ) (pred 1))\n(node 3 10 0 (0 0 1) (in 1) (succ) (pred 1))\n(entry 10 0)\n(returns)\n)\n" } ∷
    record { text = "(module 0\n(line 10\n(doif)\n(plain)\n(done)\n)\n)\n"; writes = "(graph 0 3\n(node 0 10 0 (0) (in) (succ 1) (pred))\n(node 1 10 0 (1) (in) (succ 2) (pred 0))\n(node 2 10 0 (2) (in) (succ) (pred 1))\n(entry 10 0)\n(returns)\n)\n" } ∷
    record { text = "(module 0\n(line 10\n(rcomp\n(to 10)\n(stmts\n(plain)\n)\n)\n)\n)\n"; writes = "(graph 0 2\n(node 0 10 0 (0) (in) (succ 0 1) (pred 0))\n(node 1 10 0 (0 0) (in 0) (succ) (pred 0))\n(entry 10 0)\n(returns)\n)\n" } ∷
    record { text = "(module 0\n(line 10\n(ifelse\n(to 10)\n(to 10)\n)\n(plain)\n)\n)\n"; writes = "(graph 0 2\n(node 0 10 0 (0) (in) (succ 0) (pred 0))\n(node 1 10 0 (1) (in) (succ) (pred))\n(entry 10 0)\n(returns)\n)\n" } ∷
    record { text = "(module 0\n(line 10\n(if\n(stmts\n(plain)\n)\n)\n)\n(line 20\n(if\n(stmts\n(plain)\n(plain)\n)\n)\n(plain)\n)\n)\n"; writes = "(graph 0 6\n(node 0 10 0 (0) (in) (succ 1 2) (pred))\n(node 1 10 0 (0 0) (in 0) (succ 2) (pred 0))\n(node 2 20 1 (0) (in) (succ 3 5) (pred 0 1))\n(node 3 20 1 (0 0) (in 2) (succ 4) (pred 2))\n(node 4 20 1 (0 1) (in 2) (succ 5) (pred 3))\n(node 5 20 1 (1) (in) (succ) (pred 2 4))\n(entry 10 0)\n(entry 20 2)\n(returns)\n)\n" } ∷
    record { text = "(module 0\n(line 10\n(plain)\n(ifelse\n(stmts\n(for I static)\n(repeat)\n(plain)\n)\n(stmts\n(until)\n(next plain I)\n)\n)\n(plain)\n)\n)\n"; writes = "(graph 0 8\n(node 0 10 0 (0) (in) (succ 1) (pred))\n(node 1 10 0 (1) (in) (succ 2 5) (pred 0))\n(node 2 10 0 (1 0) (in 1) (succ 3) (pred 1))\n(node 3 10 0 (1 1) (in 1) (succ 4) (pred 2 6))\n(node 4 10 0 (1 2) (in 1) (succ 7) (pred 3 5))\n(node 5 10 0 (1 3) (in 1) (succ 4 6) (pred 1))\n(node 6 10 0 (1 4) (in 1) (succ 3 7) (pred 5))\n(node 7 10 0 (2) (in) (succ) (pred 4 6))\n(entry 10 0)\n(returns)\n)\n" } ∷
    record { text = "(module 0\n(line 10\n(if\n(stmts\n(plain)\n(if\n(stmts\n(plain)\n)\n)\n(plain)\n)\n)\n(plain)\n)\n)\n"; writes = "(graph 0 6\n(node 0 10 0 (0) (in) (succ 1 5) (pred))\n(node 1 10 0 (0 0) (in 0) (succ 2) (pred 0))\n(node 2 10 0 (0 1) (in 0) (succ 3 4) (pred 1))\n(node 3 10 0 (0 1 0) (in 2) (succ 4) (pred 2))\n(node 4 10 0 (0 2) (in 0) (succ 5) (pred 2 3))\n(node 5 10 0 (1) (in) (succ) (pred 0 4))\n(entry 10 0)\n(returns)\n)\n" } ∷
    record { text = "(module 0\n(line 10\n(rcomp\n(stmts\n(ifelse\n(stmts\n(if\n(stmts\n(stop)\n)\n)\n)\n(to 10)\n)\n(plain)\n)\n(stmts\n(rcomp\n(stmts\n(plain)\n)\n)\n)\n)\n)\n)\n"; writes = "(graph 0 7\n(node 0 10 0 (0) (in) (succ 1 5) (pred 1))\n(node 1 10 0 (0 0) (in 0) (succ 2 0) (pred 0))\n(node 2 10 0 (0 0 0) (in 1) (succ 3 4) (pred 1))\n(node 3 10 0 (0 0 0 0) (in 2) (succ) (pred 2))\n(node 4 10 0 (0 1) (in 0) (succ) (pred 2))\n(node 5 10 0 (0 2) (in 0) (succ 6) (pred 0))\n(node 6 10 0 (0 2 0) (in 5) (succ) (pred 5))\n(entry 10 0)\n(returns)\n)\n" } ∷
    record { text = "(module 0\n(line 10\n(plain)\n(plain)\n(plain)\n(plain)\n(plain)\n(plain)\n(plain)\n(plain)\n(plain)\n(plain)\n(if\n(stmts\n(plain)\n)\n)\n)\n)\n"; writes = "(graph 0 12\n(node 0 10 0 (0) (in) (succ 1) (pred))\n(node 1 10 0 (1) (in) (succ 2) (pred 0))\n(node 2 10 0 (2) (in) (succ 3) (pred 1))\n(node 3 10 0 (3) (in) (succ 4) (pred 2))\n(node 4 10 0 (4) (in) (succ 5) (pred 3))\n(node 5 10 0 (5) (in) (succ 6) (pred 4))\n(node 6 10 0 (6) (in) (succ 7) (pred 5))\n(node 7 10 0 (7) (in) (succ 8) (pred 6))\n(node 8 10 0 (8) (in) (succ 9) (pred 7))\n(node 9 10 0 (9) (in) (succ 10) (pred 8))\n(node 10 10 0 (10) (in) (succ 11) (pred 9))\n(node 11 10 0 (10 0) (in 10) (succ) (pred 10))\n(entry 10 0)\n(returns)\n)\n" } ∷
    record { text = "(module 0\n(line 10\n(for CO1 static)\n(for CP static)\n(for CO2 static)\n(next plain CPU COUNT)\n(next plain CO)\n(stop)\n)\n)\n"; writes = "(graph 0 6\n(node 0 10 0 (0) (in) (succ 1) (pred))\n(node 1 10 0 (1) (in) (succ 2) (pred 0))\n(node 2 10 0 (2) (in) (succ 3) (pred 1))\n(node 3 10 0 (3) (in) (succ 3 4) (pred 2 3))\n(node 4 10 0 (4) (in) (succ 5) (pred 3))\n(node 5 10 0 (5) (in) (succ) (pred 4))\n(entry 10 0)\n(returns)\n)\n" } ∷
    record { text = "(module 0\n(line 10\n(for COUNT static)\n(for COUNT% static)\n(for COUNT$ static)\n(next plain COUNTER)\n(next plain COUNTER% COUNTER$)\n(stop)\n)\n)\n"; writes = "(graph 0 6\n(node 0 10 0 (0) (in) (succ 1) (pred))\n(node 1 10 0 (1) (in) (succ 2) (pred 0 3))\n(node 2 10 0 (2) (in) (succ 3) (pred 1))\n(node 3 10 0 (3) (in) (succ 1 4) (pred 2))\n(node 4 10 0 (4) (in) (succ 5) (pred 3))\n(node 5 10 0 (5) (in) (succ) (pred 4))\n(entry 10 0)\n(returns)\n)\n" } ∷
    record { text = "(module 0\n(line 10\n(for C static)\n(for CO static)\n(for C% static)\n(next plain COUNTER)\n(next plain C)\n(next plain C%)\n(stop)\n)\n)\n"; writes = "(graph 0 7\n(node 0 10 0 (0) (in) (succ 1) (pred))\n(node 1 10 0 (1) (in) (succ 2) (pred 0 4))\n(node 2 10 0 (2) (in) (succ 3) (pred 1 3))\n(node 3 10 0 (3) (in) (succ 2 4) (pred 2))\n(node 4 10 0 (4) (in) (succ 1 5) (pred 3))\n(node 5 10 0 (5) (in) (succ 6) (pred 4))\n(node 6 10 0 (6) (in) (succ) (pred 5))\n(entry 10 0)\n(returns)\n)\n" } ∷
    record { text = "(module 0\n(line 10\n(for COUNT dispatched)\n(for CP dispatched)\n(for COUNTER% dispatched)\n(for CO dispatched)\n(next orphan COUNTERS)\n(next orphan CO1%)\n(next orphan C)\n(stop)\n)\n)\n"; writes = "(graph 0 8\n(node 0 10 0 (0) (in) (succ 1) (pred))\n(node 1 10 0 (1) (in) (succ 2) (pred 0 4))\n(node 2 10 0 (2) (in) (succ 3) (pred 1))\n(node 3 10 0 (3) (in) (succ 4) (pred 2 5))\n(node 4 10 0 (4) (in) (succ 4 5 1) (pred 3 4))\n(node 5 10 0 (5) (in) (succ 6 3) (pred 4))\n(node 6 10 0 (6) (in) (succ 7) (pred 5))\n(node 7 10 0 (7) (in) (succ) (pred 6))\n(entry 10 0)\n(returns)\n)\n" } ∷
    record { text = "(module 0\n(line 10\n(next orphan LOOPVAR2 LO$)\n(plain)\n(for LOOPVAR1 dispatched)\n(stop)\n)\n(line 20\n(for LOOPVAR1$ dispatched)\n(goto 10)\n)\n)\n"; writes = "(graph 0 6\n(node 0 10 0 (0) (in) (succ 1 3 5) (pred 5))\n(node 1 10 0 (1) (in) (succ 2) (pred 0))\n(node 2 10 0 (2) (in) (succ 3) (pred 1))\n(node 3 10 0 (3) (in) (succ) (pred 0 2))\n(node 4 20 1 (0) (in) (succ 5) (pred))\n(node 5 20 1 (1) (in) (succ 0) (pred 0 4))\n(entry 10 0)\n(entry 20 4)\n(returns)\n)\n" } ∷
    record { text = "(module 0\n(line 10\n(for COUNT dispatched)\n(return)\n)\n(line 20\n(gosub 30)\n(stop)\n)\n(line 30\n(next orphan COUNTER)\n(stop)\n)\n)\n"; writes = "(graph 0 6\n(node 0 10 0 (0) (in) (succ 1) (pred))\n(node 1 10 0 (1) (in) (succ 3) (pred 0 4))\n(node 2 20 1 (0) (in) (succ 4) (pred))\n(node 3 20 1 (1) (in) (succ) (pred 1))\n(node 4 30 2 (0) (in) (succ 1 5) (pred 2))\n(node 5 30 2 (1) (in) (succ) (pred 4))\n(entry 10 0)\n(entry 20 2)\n(entry 30 4)\n(returns 3)\n(back 2 3)\n)\n" } ∷
    record { text = "(module 0\n(line 10\n(for COUNT dispatched)\n(return)\n)\n(line 20\n(gosub 30)\n(stop)\n)\n(line 30\n(next orphan COUNTER%)\n(stop)\n)\n)\n"; writes = "(graph 0 6\n(node 0 10 0 (0) (in) (succ 1) (pred))\n(node 1 10 0 (1) (in) (succ) (pred 0))\n(node 2 20 1 (0) (in) (succ 4) (pred))\n(node 3 20 1 (1) (in) (succ) (pred))\n(node 4 30 2 (0) (in) (succ 5) (pred 2))\n(node 5 30 2 (1) (in) (succ) (pred 4))\n(entry 10 0)\n(entry 20 2)\n(entry 30 4)\n(returns 3)\n(back 2 3)\n)\n" } ∷
    record { text = "(module 1\n(line 10\n(for A1 static)\n(if\n(stmts\n(next plain A1B2)\n(plain)\n)\n)\n(next plain A1B2C3D4)\n(stop)\n)\n)\n"; writes = "(graph 0 6\n(node 0 10 0 (0) (in) (succ 1) (pred))\n(node 1 10 0 (1) (in) (succ 2 4) (pred 0 2))\n(node 2 10 0 (1 0) (in 1) (succ 1 3) (pred 1))\n(node 3 10 0 (1 1) (in 1) (succ 4) (pred 2))\n(node 4 10 0 (2) (in) (succ 5) (pred 1 3))\n(node 5 10 0 (3) (in) (succ) (pred 4))\n(entry 10 0)\n(returns)\n)\n" } ∷
    record { text = "(module 0\n(line 10\n(for Z9$ static)\n(for Z static)\n(for Z9999999$ static)\n(next plain Z9Z$)\n(next plain *)\n(stop)\n)\n)\n"; writes = "(graph 0 6\n(node 0 10 0 (0) (in) (succ 1) (pred))\n(node 1 10 0 (1) (in) (succ 2) (pred 0))\n(node 2 10 0 (2) (in) (succ 3) (pred 1))\n(node 3 10 0 (3) (in) (succ 3 4) (pred 2 3))\n(node 4 10 0 (4) (in) (succ 5) (pred 3))\n(node 5 10 0 (5) (in) (succ) (pred 4))\n(entry 10 0)\n(returns)\n)\n" } ∷
    record { text = "(module 0\n(line 10\n(for COUNT static)\n(plain)\n)\n)\n"; writes = "(graph 0 2\n(node 0 10 0 (0) (in) (succ 1) (pred))\n(node 1 10 0 (1) (in) (succ) (pred 0))\n(entry 10 0)\n(returns)\n)\n" } ∷
    record { text = "(module 0\n(line 10\n(for COUNT dispatched)\n(for COUNTER$ static)\n(for C static)\n(next orphan CO1)\n(next plain CO2$ *)\n(plain)\n)\n)\n"; writes = "(graph 0 6\n(node 0 10 0 (0) (in) (succ 1) (pred))\n(node 1 10 0 (1) (in) (succ 2) (pred 0 3))\n(node 2 10 0 (2) (in) (succ 3) (pred 1))\n(node 3 10 0 (3) (in) (succ 1 4) (pred 2))\n(node 4 10 0 (4) (in) (succ 5) (pred 3))\n(node 5 10 0 (5) (in) (succ) (pred 4))\n(entry 10 0)\n(returns)\n)\n" } ∷
    record { text = "(module 0\n(line 10\n(gosub 99)\n(plain)\n(return)\n)\n)\n"; writes = "(graph 0 3\n(node 0 10 0 (0) (in) (succ) (pred))\n(node 1 10 0 (1) (in) (succ 2) (pred))\n(node 2 10 0 (2) (in) (succ) (pred 1))\n(entry 10 0)\n(returns 1)\n(back 0 1)\n)\n" } ∷
    record { text = "(module 1\n(line 10\n(gosub 99)\n(plain)\n(return)\n)\n)\n"; writes = "(graph 0 3\n(node 0 10 0 (0) (in) (succ) (pred))\n(node 1 10 0 (1) (in) (succ 2) (pred 2))\n(node 2 10 0 (2) (in) (succ 1) (pred 1))\n(entry 10 0)\n(returns 1)\n(back 0 1)\n)\n" } ∷
    record { text = "(module 0\n(line 10\n(ongosub)\n(plain)\n(return)\n)\n)\n"; writes = "(graph 0 3\n(node 0 10 0 (0) (in) (succ 1) (pred))\n(node 1 10 0 (1) (in) (succ 2) (pred 0))\n(node 2 10 0 (2) (in) (succ) (pred 1))\n(entry 10 0)\n(returns 1)\n(back 0 1)\n)\n" } ∷
    record { text = "(module 1\n(line 10\n(ongosub)\n(return)\n(plain)\n)\n)\n"; writes = "(graph 0 3\n(node 0 10 0 (0) (in) (succ 1) (pred))\n(node 1 10 0 (1) (in) (succ 1) (pred 0 1))\n(node 2 10 0 (2) (in) (succ) (pred))\n(entry 10 0)\n(returns 1)\n(back 0 1)\n)\n" } ∷
    record { text = "(module 0\n(line 10\n(ongosub 99 98 99)\n(return)\n)\n)\n"; writes = "(graph 0 2\n(node 0 10 0 (0) (in) (succ 1) (pred))\n(node 1 10 0 (1) (in) (succ) (pred 0))\n(entry 10 0)\n(returns 1)\n(back 0 1)\n)\n" } ∷
    record { text = "(module 1\n(line 10\n(ongosub 20 99)\n(gosub 20)\n(plain)\n)\n(line 20\n(return)\n)\n)\n"; writes = "(graph 0 4\n(node 0 10 0 (0) (in) (succ 3 1) (pred))\n(node 1 10 0 (1) (in) (succ 3) (pred 0 3))\n(node 2 10 0 (2) (in) (succ 3) (pred 3))\n(node 3 20 1 (0) (in) (succ 1 2) (pred 0 1 2))\n(entry 10 0)\n(entry 20 3)\n(returns 1 2)\n(back 0 1)\n(back 1 2)\n)\n" } ∷
    record { text = "(module 0\n(line 10\n(ongosub 20 20 10)\n(stop)\n)\n(line 20\n(return)\n)\n)\n"; writes = "(graph 0 3\n(node 0 10 0 (0) (in) (succ 2 0 1) (pred 0))\n(node 1 10 0 (1) (in) (succ) (pred 0 2))\n(node 2 20 1 (0) (in) (succ 1) (pred 0))\n(entry 10 0)\n(entry 20 2)\n(returns 1)\n(back 0 1)\n)\n" } ∷
    record { text = "(module 0\n(line 10\n(ongoto 20 20)\n(stop)\n)\n(line 20\n(return)\n)\n)\n"; writes = "(graph 0 3\n(node 0 10 0 (0) (in) (succ 2 1) (pred))\n(node 1 10 0 (1) (in) (succ) (pred 0))\n(node 2 20 1 (0) (in) (succ) (pred 0))\n(entry 10 0)\n(entry 20 2)\n(returns)\n)\n" } ∷
    record { text = "(module 1\n(line 10\n(ongoto 20)\n(plain)\n)\n(line 20\n(return)\n)\n)\n"; writes = "(graph 0 3\n(node 0 10 0 (0) (in) (succ 2 1) (pred))\n(node 1 10 0 (1) (in) (succ 2) (pred 0))\n(node 2 20 1 (0) (in) (succ) (pred 0 1))\n(entry 10 0)\n(entry 20 2)\n(returns)\n)\n" } ∷
    record { text = "(module 0\n(line 10\n(for I dispatched)\n(for J static)\n(next orphan I)\n(next plain *)\n(stop)\n)\n)\n"; writes = "(graph 0 5\n(node 0 10 0 (0) (in) (succ 1) (pred))\n(node 1 10 0 (1) (in) (succ 2) (pred 0 2))\n(node 2 10 0 (2) (in) (succ 1 3) (pred 1))\n(node 3 10 0 (3) (in) (succ 4) (pred 2))\n(node 4 10 0 (4) (in) (succ) (pred 3))\n(entry 10 0)\n(returns)\n)\n" } ∷
    record { text = "(module 0\n(line 10\n(next orphan I)\n(plain)\n(for I dispatched)\n(stop)\n)\n)\n"; writes = "(graph 0 4\n(node 0 10 0 (0) (in) (succ 1 3) (pred))\n(node 1 10 0 (1) (in) (succ 2) (pred 0))\n(node 2 10 0 (2) (in) (succ 3) (pred 1))\n(node 3 10 0 (3) (in) (succ) (pred 0 2))\n(entry 10 0)\n(returns)\n)\n" } ∷
    record { text = "(module 0\n(line 10\n(for I dispatched)\n(for J dispatched)\n(next orphan * *)\n(next orphan *)\n(stop)\n)\n)\n"; writes = "(graph 0 5\n(node 0 10 0 (0) (in) (succ 1) (pred))\n(node 1 10 0 (1) (in) (succ 2) (pred 0 2 3))\n(node 2 10 0 (2) (in) (succ 2 1 3) (pred 1 2 3))\n(node 3 10 0 (3) (in) (succ 4 1 2) (pred 2))\n(node 4 10 0 (4) (in) (succ) (pred 3))\n(entry 10 0)\n(returns)\n)\n" } ∷
    []

right-table : T (right table)
unfolding opened right table
right-table = tt
