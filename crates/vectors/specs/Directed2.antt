-- Directed listings with the original's graphs. Assumes nothing.
use Rattle.std.specs.Prelude.{List, [], ◌∷◌, true, false, T}
use Rattle.vectors.specs.Vector.{Vector, right, opened}

table : List Vector
table =
    record { text = "(module 0\n(line 10\n(for J dispatched)\n(for I dispatched)\n(plain)\n(next orphan I J *)\n(stop)\n)\n)\n"; writes = "(graph 0 5\n(node 0 10 0 (0) (in) (succ 1) (pred))\n(node 1 10 0 (1) (in) (succ 2) (pred 0 3))\n(node 2 10 0 (2) (in) (succ 3) (pred 1 3))\n(node 3 10 0 (3) (in) (succ 2 1 4) (pred 2))\n(node 4 10 0 (4) (in) (succ) (pred 3))\n(entry 10 0)\n(returns)\n)\n" } ∷
    record { text = "(module 0\n(line 10\n(for I% dispatched)\n(for I dispatched)\n(for I$ dispatched)\n(next orphan I)\n(next orphan I%)\n)\n)\n"; writes = "(graph 0 5\n(node 0 10 0 (0) (in) (succ 1) (pred))\n(node 1 10 0 (1) (in) (succ 2) (pred 0 4))\n(node 2 10 0 (2) (in) (succ 3) (pred 1 3))\n(node 3 10 0 (3) (in) (succ 2 4) (pred 2))\n(node 4 10 0 (4) (in) (succ 1) (pred 3))\n(entry 10 0)\n(returns)\n)\n" } ∷
    record { text = "(module 0\n(line 10\n(for I dispatched)\n(next orphan)\n(next plain)\n(stop)\n)\n)\n"; writes = "(graph 0 4\n(node 0 10 0 (0) (in) (succ 1) (pred))\n(node 1 10 0 (1) (in) (succ 2) (pred 0))\n(node 2 10 0 (2) (in) (succ 3) (pred 1))\n(node 3 10 0 (3) (in) (succ) (pred 2))\n(entry 10 0)\n(returns)\n)\n" } ∷
    record { text = "(module 0\n(line 10\n(for I framed)\n(for J static)\n(plain)\n(next orphan I J)\n(stop)\n)\n)\n"; writes = "(graph 0 5\n(node 0 10 0 (0) (in) (succ 1) (pred))\n(node 1 10 0 (1) (in) (succ 2) (pred 0 3))\n(node 2 10 0 (2) (in) (succ 3) (pred 1))\n(node 3 10 0 (3) (in) (succ 1 4) (pred 2))\n(node 4 10 0 (4) (in) (succ) (pred 3))\n(entry 10 0)\n(returns)\n)\n" } ∷
    record { text = "(module 0\n(line 10\n(for ABCDEFGH dispatched)\n(for ABCDEFG dispatched)\n(next orphan ABCDEFGH)\n(next orphan ABCDEFG%)\n(stop)\n)\n)\n"; writes = "(graph 0 5\n(node 0 10 0 (0) (in) (succ 1) (pred))\n(node 1 10 0 (1) (in) (succ 2) (pred 0 2))\n(node 2 10 0 (2) (in) (succ 2 3 1) (pred 1 2))\n(node 3 10 0 (3) (in) (succ 4) (pred 2))\n(node 4 10 0 (4) (in) (succ) (pred 3))\n(entry 10 0)\n(returns)\n)\n" } ∷
    record { text = "(module 0\n(line 10\n(next orphan I)\n)\n(line 20\n(for I dispatched)\n(plain)\n(for I dispatched)\n(goto 10)\n)\n(line 30\n(for I dispatched)\n)\n)\n"; writes = "(graph 0 6\n(node 0 10 0 (0) (in) (succ 1 2 4) (pred 4))\n(node 1 20 1 (0) (in) (succ 2) (pred 0))\n(node 2 20 1 (1) (in) (succ 3) (pred 0 1))\n(node 3 20 1 (2) (in) (succ 4) (pred 2))\n(node 4 20 1 (3) (in) (succ 0) (pred 0 3))\n(node 5 30 2 (0) (in) (succ) (pred))\n(entry 10 0)\n(entry 20 1)\n(entry 30 5)\n(returns)\n)\n" } ∷
    record { text = "(module 0\n(line 10\n(ifelse\n(stmts\n(for I dispatched)\n)\n(stmts\n(next orphan I)\n(plain)\n)\n)\n)\n)\n"; writes = "(graph 0 4\n(node 0 10 0 (0) (in) (succ 1 2) (pred))\n(node 1 10 0 (0 0) (in 0) (succ) (pred 0))\n(node 2 10 0 (0 1) (in 0) (succ 3) (pred 0))\n(node 3 10 0 (0 2) (in 0) (succ) (pred 2))\n(entry 10 0)\n(returns)\n)\n" } ∷
    record { text = "(module 0\n(line 10\n(ifelse\n(stmts\n(for I static)\n)\n(stmts\n(next plain *)\n(plain)\n)\n)\n)\n)\n"; writes = "(graph 0 4\n(node 0 10 0 (0) (in) (succ 1 2) (pred))\n(node 1 10 0 (0 0) (in 0) (succ) (pred 0))\n(node 2 10 0 (0 1) (in 0) (succ 3) (pred 0))\n(node 3 10 0 (0 2) (in 0) (succ) (pred 2))\n(entry 10 0)\n(returns)\n)\n" } ∷
    record { text = "(module 0\n(line 10\n(for I static)\n(for J static)\n(ifelse\n(stmts\n(for I static)\n)\n(stmts\n(next plain J)\n(next plain I)\n(next plain *)\n)\n)\n)\n)\n"; writes = "(graph 0 7\n(node 0 10 0 (0) (in) (succ 1) (pred))\n(node 1 10 0 (1) (in) (succ 2) (pred 0))\n(node 2 10 0 (2) (in) (succ 3 4) (pred 1))\n(node 3 10 0 (2 0) (in 2) (succ) (pred 2))\n(node 4 10 0 (2 1) (in 2) (succ 5) (pred 2))\n(node 5 10 0 (2 2) (in 2) (succ 6) (pred 4))\n(node 6 10 0 (2 3) (in 2) (succ) (pred 5))\n(entry 10 0)\n(returns)\n)\n" } ∷
    record { text = "(module 0\n(line 10\n(for I static)\n(for J static)\n(ifelse\n(stmts\n(for J static)\n)\n(stmts\n(next plain *)\n(next plain *)\n(plain)\n)\n)\n)\n)\n"; writes = "(graph 0 7\n(node 0 10 0 (0) (in) (succ 1) (pred))\n(node 1 10 0 (1) (in) (succ 2) (pred 0 5))\n(node 2 10 0 (2) (in) (succ 3 4) (pred 1))\n(node 3 10 0 (2 0) (in 2) (succ) (pred 2))\n(node 4 10 0 (2 1) (in 2) (succ 5) (pred 2))\n(node 5 10 0 (2 2) (in 2) (succ 1 6) (pred 4))\n(node 6 10 0 (2 3) (in 2) (succ) (pred 5))\n(entry 10 0)\n(returns)\n)\n" } ∷
    record { text = "(module 0\n(line 10\n(ifelse\n(stmts\n(repeat)\n)\n(stmts\n(exitif)\n(until)\n(plain)\n)\n)\n)\n)\n"; writes = "(graph 0 5\n(node 0 10 0 (0) (in) (succ 1 2) (pred))\n(node 1 10 0 (0 0) (in 0) (succ) (pred 0))\n(node 2 10 0 (0 1) (in 0) (succ 3 4) (pred 0))\n(node 3 10 0 (0 2) (in 0) (succ 4) (pred 2))\n(node 4 10 0 (0 3) (in 0) (succ) (pred 2 3))\n(entry 10 0)\n(returns)\n)\n" } ∷
    record { text = "(module 0\n(line 10\n(repeat)\n(ifelse\n(stmts\n(loop)\n)\n(stmts\n(exit)\n(endloop)\n(until)\n(plain)\n)\n)\n)\n)\n"; writes = "(graph 0 7\n(node 0 10 0 (0) (in) (succ 1) (pred))\n(node 1 10 0 (1) (in) (succ 2 3) (pred 0 5))\n(node 2 10 0 (1 0) (in 1) (succ) (pred 1))\n(node 3 10 0 (1 1) (in 1) (succ 5) (pred 1))\n(node 4 10 0 (1 2) (in 1) (succ) (pred))\n(node 5 10 0 (1 3) (in 1) (succ 1 6) (pred 3))\n(node 6 10 0 (1 4) (in 1) (succ) (pred 5))\n(entry 10 0)\n(returns)\n)\n" } ∷
    record { text = "(module 0\n(line 10\n(loop)\n(ifelse\n(stmts\n(repeat)\n)\n(stmts\n(until)\n(endloop)\n(plain)\n)\n)\n)\n)\n"; writes = "(graph 0 6\n(node 0 10 0 (0) (in) (succ 1) (pred))\n(node 1 10 0 (1) (in) (succ 2 3) (pred 0 4))\n(node 2 10 0 (1 0) (in 1) (succ) (pred 1))\n(node 3 10 0 (1 1) (in 1) (succ 4) (pred 1))\n(node 4 10 0 (1 2) (in 1) (succ 1) (pred 3))\n(node 5 10 0 (1 3) (in 1) (succ) (pred))\n(entry 10 0)\n(returns)\n)\n" } ∷
    record { text = "(module 0\n(line 10\n(for I dispatched)\n)\n)\n"; writes = "(graph 0 1\n(node 0 10 0 (0) (in) (succ) (pred))\n(entry 10 0)\n(returns)\n)\n" } ∷
    record { text = "(module 0\n(line 10\n(repeat)\n)\n)\n"; writes = "(graph 0 1\n(node 0 10 0 (0) (in) (succ) (pred))\n(entry 10 0)\n(returns)\n)\n" } ∷
    record { text = "(module 0\n(line 10\n(doif)\n)\n)\n"; writes = "(graph 0 1\n(node 0 10 0 (0) (in) (succ) (pred))\n(entry 10 0)\n(returns)\n)\n" } ∷
    record { text = "(module 0\n(line 10\n(loop)\n(exit)\n(exitif)\n(until)\n(stop)\n)\n)\n"; writes = "(graph 0 5\n(node 0 10 0 (0) (in) (succ 1) (pred))\n(node 1 10 0 (1) (in) (succ 4) (pred 0 3))\n(node 2 10 0 (2) (in) (succ 3 4) (pred))\n(node 3 10 0 (3) (in) (succ 1 4) (pred 2))\n(node 4 10 0 (4) (in) (succ) (pred 1 2 3))\n(entry 10 0)\n(returns)\n)\n" } ∷
    record { text = "(module 0\n(line 10\n(repeat)\n(exit)\n(exitif)\n(endloop)\n(stop)\n)\n)\n"; writes = "(graph 0 5\n(node 0 10 0 (0) (in) (succ 1) (pred))\n(node 1 10 0 (1) (in) (succ 4) (pred 0 3))\n(node 2 10 0 (2) (in) (succ 3 4) (pred))\n(node 3 10 0 (3) (in) (succ 1) (pred 2))\n(node 4 10 0 (4) (in) (succ) (pred 1 2))\n(entry 10 0)\n(returns)\n)\n" } ∷
    record { text = "(module 0\n(line 10\n(repeat)\n(loop)\n(exit)\n(endloop)\n(exit)\n(until)\n(stop)\n)\n)\n"; writes = "(graph 0 7\n(node 0 10 0 (0) (in) (succ 1) (pred))\n(node 1 10 0 (1) (in) (succ 2) (pred 0 5))\n(node 2 10 0 (2) (in) (succ 4) (pred 1 3))\n(node 3 10 0 (3) (in) (succ 2) (pred))\n(node 4 10 0 (4) (in) (succ 6) (pred 2))\n(node 5 10 0 (5) (in) (succ 1 6) (pred))\n(node 6 10 0 (6) (in) (succ) (pred 4 5))\n(entry 10 0)\n(returns)\n)\n" } ∷
    record { text = "(module 0\n(line 10\n(loop)\n(exit)\n(endloop)\n)\n)\n"; writes = "(graph 0 3\n(node 0 10 0 (0) (in) (succ 1) (pred))\n(node 1 10 0 (1) (in) (succ) (pred 0 2))\n(node 2 10 0 (2) (in) (succ 1) (pred))\n(entry 10 0)\n(returns)\n)\n" } ∷
    record { text = "(module 0\n(line 10\n(repeat)\n(exitif)\n(until)\n)\n)\n"; writes = "(graph 0 3\n(node 0 10 0 (0) (in) (succ 1) (pred))\n(node 1 10 0 (1) (in) (succ 2) (pred 0 2))\n(node 2 10 0 (2) (in) (succ 1) (pred 1))\n(entry 10 0)\n(returns)\n)\n" } ∷
    record { text = "(module 0\n(line 10\n(loop)\n(exit)\n(plain)\n)\n)\n"; writes = "(graph 0 3\n(node 0 10 0 (0) (in) (succ 1) (pred))\n(node 1 10 0 (1) (in) (succ) (pred 0))\n(node 2 10 0 (2) (in) (succ) (pred))\n(entry 10 0)\n(returns)\n)\n" } ∷
    record { text = "(module 0\n(line 10\n(doif)\n(else)\n(else)\n(plain)\n(else)\n(plain)\n(done)\n(stop)\n)\n)\n"; writes = "(graph 0 8\n(node 0 10 0 (0) (in) (succ 1 2 3 5) (pred))\n(node 1 10 0 (1) (in) (succ 7) (pred 0))\n(node 2 10 0 (2) (in) (succ 7) (pred 0))\n(node 3 10 0 (3) (in) (succ 4) (pred 0))\n(node 4 10 0 (4) (in) (succ 7) (pred 3))\n(node 5 10 0 (5) (in) (succ 6) (pred 0))\n(node 6 10 0 (6) (in) (succ 7) (pred 5))\n(node 7 10 0 (7) (in) (succ) (pred 1 2 4 6))\n(entry 10 0)\n(returns)\n)\n" } ∷
    record { text = "(module 0\n(line 10\n(doif)\n(plain)\n(else)\n(plain)\n)\n)\n"; writes = "(graph 0 4\n(node 0 10 0 (0) (in) (succ 1 3) (pred))\n(node 1 10 0 (1) (in) (succ 2) (pred 0))\n(node 2 10 0 (2) (in) (succ) (pred 1))\n(node 3 10 0 (3) (in) (succ) (pred 0))\n(entry 10 0)\n(returns)\n)\n" } ∷
    record { text = "(module 0\n(line 10\n(doif)\n(plain)\n(done)\n)\n)\n"; writes = "(graph 0 3\n(node 0 10 0 (0) (in) (succ 1) (pred))\n(node 1 10 0 (1) (in) (succ 2) (pred 0))\n(node 2 10 0 (2) (in) (succ) (pred 1))\n(entry 10 0)\n(returns)\n)\n" } ∷
    record { text = "(module 0\n(line 10\n(doif)\n(plain)\n(done)\n(stop)\n)\n)\n"; writes = "(graph 0 4\n(node 0 10 0 (0) (in) (succ 1 3) (pred))\n(node 1 10 0 (1) (in) (succ 2) (pred 0))\n(node 2 10 0 (2) (in) (succ 3) (pred 1))\n(node 3 10 0 (3) (in) (succ) (pred 0 2))\n(entry 10 0)\n(returns)\n)\n" } ∷
    record { text = "(module 0\n(line 10\n(doif)\n(done)\n(stop)\n)\n)\n"; writes = "(graph 0 3\n(node 0 10 0 (0) (in) (succ 1 2) (pred))\n(node 1 10 0 (1) (in) (succ 2) (pred 0))\n(node 2 10 0 (2) (in) (succ) (pred 0 1))\n(entry 10 0)\n(returns)\n)\n" } ∷
    record { text = "(module 0\n(line 10\n(doif)\n(doif)\n(else)\n(plain)\n(done)\n(else)\n(done)\n(done)\n(stop)\n)\n)\n"; writes = "(graph 0 9\n(node 0 10 0 (0) (in) (succ 1 6) (pred))\n(node 1 10 0 (1) (in) (succ 2 3) (pred 0))\n(node 2 10 0 (2) (in) (succ 5) (pred 1))\n(node 3 10 0 (3) (in) (succ 4) (pred 1))\n(node 4 10 0 (4) (in) (succ 5) (pred 3))\n(node 5 10 0 (5) (in) (succ 7) (pred 2 4))\n(node 6 10 0 (6) (in) (succ 7) (pred 0))\n(node 7 10 0 (7) (in) (succ 8) (pred 5 6))\n(node 8 10 0 (8) (in) (succ) (pred 7))\n(entry 10 0)\n(returns)\n)\n" } ∷
    record { text = "(module 0\n(line 10\n(ifelse\n(stmts\n(doif)\n(else)\n)\n(stmts\n(plain)\n(done)\n(stop)\n)\n)\n)\n)\n"; writes = "(graph 0 6\n(node 0 10 0 (0) (in) (succ 1 3) (pred))\n(node 1 10 0 (0 0) (in 0) (succ 2) (pred 0))\n(node 2 10 0 (0 1) (in 0) (succ 5) (pred 1))\n(node 3 10 0 (0 2) (in 0) (succ 4) (pred 0))\n(node 4 10 0 (0 3) (in 0) (succ 5) (pred 3))\n(node 5 10 0 (0 4) (in 0) (succ) (pred 2 4))\n(entry 10 0)\n(returns)\n)\n" } ∷
    record { text = "(module 0\n(line 10\n(doif)\n(ifelse\n(stmts\n(else)\n)\n(stmts\n(else)\n(plain)\n(done)\n(stop)\n)\n)\n)\n)\n"; writes = "(graph 0 7\n(node 0 10 0 (0) (in) (succ 1 4) (pred))\n(node 1 10 0 (1) (in) (succ 2 3) (pred 0))\n(node 2 10 0 (1 0) (in 1) (succ 6) (pred 1))\n(node 3 10 0 (1 1) (in 1) (succ 6) (pred 1))\n(node 4 10 0 (1 2) (in 1) (succ 5) (pred 0))\n(node 5 10 0 (1 3) (in 1) (succ 6) (pred 4))\n(node 6 10 0 (1 4) (in 1) (succ) (pred 2 3 5))\n(entry 10 0)\n(returns)\n)\n" } ∷
    record { text = "(module 0\n(line 10\n(doif)\n(else)\n)\n(line 20\n)\n(line 30\n(done)\n)\n(line 40\n(stop)\n)\n)\n"; writes = "(graph 0 4\n(node 0 10 0 (0) (in) (succ 1 2) (pred))\n(node 1 10 0 (1) (in) (succ 3) (pred 0))\n(node 2 30 2 (0) (in) (succ 3) (pred 0))\n(node 3 40 3 (0) (in) (succ) (pred 1 2))\n(entry 10 0)\n(entry 20 2)\n(entry 30 2)\n(entry 40 3)\n(returns)\n)\n" } ∷
    record { text = "(module 0\n(line 10\n(doif)\n(repeat)\n(else)\n(exit)\n(done)\n(until)\n(stop)\n)\n)\n"; writes = "(graph 0 7\n(node 0 10 0 (0) (in) (succ 1 3) (pred))\n(node 1 10 0 (1) (in) (succ 2) (pred 0))\n(node 2 10 0 (2) (in) (succ 5) (pred 1 5))\n(node 3 10 0 (3) (in) (succ 6) (pred 0))\n(node 4 10 0 (4) (in) (succ 5) (pred))\n(node 5 10 0 (5) (in) (succ 2 6) (pred 2 4))\n(node 6 10 0 (6) (in) (succ) (pred 3 5))\n(entry 10 0)\n(returns)\n)\n" } ∷
    record { text = "(module 0\n(line 10\n(ifelse\n(stmts\n(plain)\n(if\n(stmts\n(plain)\n(plain)\n)\n)\n)\n(stmts\n(plain)\n(plain)\n)\n)\n(stop)\n)\n)\n"; writes = "(graph 0 8\n(node 0 10 0 (0) (in) (succ 1 5) (pred))\n(node 1 10 0 (0 0) (in 0) (succ 2) (pred 0))\n(node 2 10 0 (0 1) (in 0) (succ 3 7) (pred 1))\n(node 3 10 0 (0 1 0) (in 2) (succ 4) (pred 2))\n(node 4 10 0 (0 1 1) (in 2) (succ 7) (pred 3))\n(node 5 10 0 (0 2) (in 0) (succ 6) (pred 0))\n(node 6 10 0 (0 3) (in 0) (succ 7) (pred 5))\n(node 7 10 0 (1) (in) (succ) (pred 2 4 6))\n(entry 10 0)\n(returns)\n)\n" } ∷
    record { text = "(module 0\n(line 10\n(ifelse\n(stmts\n)\n(stmts\n(plain)\n(plain)\n)\n)\n(stop)\n)\n)\n"; writes = "(graph 0 4\n(node 0 10 0 (0) (in) (succ 3 1) (pred))\n(node 1 10 0 (0 0) (in 0) (succ 2) (pred 0))\n(node 2 10 0 (0 1) (in 0) (succ 3) (pred 1))\n(node 3 10 0 (1) (in) (succ) (pred 0 2))\n(entry 10 0)\n(returns)\n)\n" } ∷
    record { text = "(module 0\n(line 10\n(ifelse\n(to 10)\n(stmts\n(plain)\n(stop)\n)\n)\n)\n)\n"; writes = "(graph 0 3\n(node 0 10 0 (0) (in) (succ 0 1) (pred 0))\n(node 1 10 0 (0 0) (in 0) (succ 2) (pred 0))\n(node 2 10 0 (0 1) (in 0) (succ) (pred 1))\n(entry 10 0)\n(returns)\n)\n" } ∷
    record { text = "(module 0\n(line 10\n(ifelse\n(stmts\n(plain)\n)\n(to 10)\n)\n(stop)\n)\n)\n"; writes = "(graph 0 3\n(node 0 10 0 (0) (in) (succ 1 0) (pred 0))\n(node 1 10 0 (0 0) (in 0) (succ 2) (pred 0))\n(node 2 10 0 (1) (in) (succ) (pred 1))\n(entry 10 0)\n(returns)\n)\n" } ∷
    record { text = "(module 0\n(line 10\n(ifelse\n(stmts\n)\n(stmts\n)\n)\n(stop)\n)\n)\n"; writes = "(graph 0 2\n(node 0 10 0 (0) (in) (succ 1) (pred))\n(node 1 10 0 (1) (in) (succ) (pred 0))\n(entry 10 0)\n(returns)\n)\n" } ∷
    record { text = "(module 0\n(line 10\n(ifelse\n(to 99)\n(to 99)\n)\n(stop)\n)\n)\n"; writes = "(graph 0 2\n(node 0 10 0 (0) (in) (succ) (pred))\n(node 1 10 0 (1) (in) (succ) (pred))\n(entry 10 0)\n(returns)\n)\n" } ∷
    record { text = "(module 0\n(line 10\n(rcomp\n(to 10)\n(stmts\n(plain)\n(stop)\n)\n)\n(plain)\n)\n)\n"; writes = "(graph 0 4\n(node 0 10 0 (0) (in) (succ 0 1) (pred 0))\n(node 1 10 0 (0 0) (in 0) (succ 2) (pred 0))\n(node 2 10 0 (0 1) (in 0) (succ) (pred 1))\n(node 3 10 0 (1) (in) (succ) (pred))\n(entry 10 0)\n(returns)\n)\n" } ∷
    record { text = "(module 0\n(line 10\n(rcomp\n(stmts\n(plain)\n(plain)\n)\n(stmts\n(stop)\n(plain)\n)\n)\n(plain)\n)\n)\n"; writes = "(graph 0 6\n(node 0 10 0 (0) (in) (succ 1 3) (pred))\n(node 1 10 0 (0 0) (in 0) (succ 2) (pred 0))\n(node 2 10 0 (0 1) (in 0) (succ 5) (pred 1))\n(node 3 10 0 (0 2) (in 0) (succ) (pred 0))\n(node 4 10 0 (0 3) (in 0) (succ 5) (pred))\n(node 5 10 0 (1) (in) (succ) (pred 2 4))\n(entry 10 0)\n(returns)\n)\n" } ∷
    record { text = "(module 0\n(line 10\n(rcomp\n(stmts\n(plain)\n)\n)\n(stop)\n)\n)\n"; writes = "(graph 0 3\n(node 0 10 0 (0) (in) (succ 1 2) (pred))\n(node 1 10 0 (0 0) (in 0) (succ 2) (pred 0))\n(node 2 10 0 (1) (in) (succ) (pred 0 1))\n(entry 10 0)\n(returns)\n)\n" } ∷
    record { text = "(module 0\n(line 10\n(rcomp\n(stmts\n)\n)\n(stop)\n)\n)\n"; writes = "(graph 0 2\n(node 0 10 0 (0) (in) (succ 1) (pred))\n(node 1 10 0 (1) (in) (succ) (pred 0))\n(entry 10 0)\n(returns)\n)\n" } ∷
    record { text = "(module 0\n(line 10\n(rcomp\n(to 10)\n)\n(stop)\n)\n)\n"; writes = "(graph 0 2\n(node 0 10 0 (0) (in) (succ 0 1) (pred 0))\n(node 1 10 0 (1) (in) (succ) (pred 0))\n(entry 10 0)\n(returns)\n)\n" } ∷
    record { text = "(module 0\n(line 10\n(rcomp\n(to 99)\n)\n)\n)\n"; writes = "(graph 0 1\n(node 0 10 0 (0) (in) (succ) (pred))\n(entry 10 0)\n(returns)\n)\n" } ∷
    record { text = "(module 0\n(line 10\n(if\n(stmts\n)\n)\n(stop)\n)\n)\n"; writes = "(graph 0 2\n(node 0 10 0 (0) (in) (succ 1) (pred))\n(node 1 10 0 (1) (in) (succ) (pred 0))\n(entry 10 0)\n(returns)\n)\n" } ∷
    record { text = "(module 0\n(line 10\n(if\n(to 99)\n)\n(stop)\n)\n)\n"; writes = "(graph 0 2\n(node 0 10 0 (0) (in) (succ 1) (pred))\n(node 1 10 0 (1) (in) (succ) (pred 0))\n(entry 10 0)\n(returns)\n)\n" } ∷
    record { text = "(module 0\n(line 10\n(if\n(stmts\n(ifelse\n(stmts\n(if\n(stmts\n(plain)\n)\n)\n)\n(stmts\n(rcomp\n(stmts\n(plain)\n)\n(stmts\n(plain)\n)\n)\n)\n)\n(plain)\n)\n)\n(stop)\n)\n)\n"; writes = "(graph 0 9\n(node 0 10 0 (0) (in) (succ 1 8) (pred))\n(node 1 10 0 (0 0) (in 0) (succ 2 4) (pred 0))\n(node 2 10 0 (0 0 0) (in 1) (succ 3 7) (pred 1))\n(node 3 10 0 (0 0 0 0) (in 2) (succ 7) (pred 2))\n(node 4 10 0 (0 0 1) (in 1) (succ 5 6) (pred 1))\n(node 5 10 0 (0 0 1 0) (in 4) (succ 7) (pred 4))\n(node 6 10 0 (0 0 1 1) (in 4) (succ 7) (pred 4))\n(node 7 10 0 (0 1) (in 0) (succ 8) (pred 2 3 5 6))\n(node 8 10 0 (1) (in) (succ) (pred 0 7))\n(entry 10 0)\n(returns)\n)\n" } ∷
    record { text = "(module 0\n(line 10\n)\n(line 20\n)\n(line 30\n(any)\n)\n(line 40\n)\n(line 50\n(plain)\n)\n(line 60\n)\n)\n"; writes = "(graph 0 2\n(node 0 30 2 (0) (in) (succ 0 1) (pred 0))\n(node 1 50 4 (0) (in) (succ) (pred 0))\n(entry 10 0)\n(entry 20 0)\n(entry 30 0)\n(entry 40 1)\n(entry 50 1)\n(returns)\n)\n" } ∷
    record { text = "(module 0\n(line 10\n)\n(line 20\n(run)\n(plain)\n)\n(line 30\n(run 10)\n)\n)\n"; writes = "(graph 0 3\n(node 0 20 1 (0) (in) (succ 0) (pred 0 2))\n(node 1 20 1 (1) (in) (succ 2) (pred))\n(node 2 30 2 (0) (in) (succ 0) (pred 1))\n(entry 10 0)\n(entry 20 0)\n(entry 30 2)\n(returns)\n)\n" } ∷
    record { text = "(module 0\n(line 10\n(run)\n)\n)\n"; writes = "(graph 0 1\n(node 0 10 0 (0) (in) (succ 0) (pred 0))\n(entry 10 0)\n(returns)\n)\n" } ∷
    record { text = "(module 0\n(line 10\n(run 20)\n)\n(line 20\n)\n)\n"; writes = "(graph 0 1\n(node 0 10 0 (0) (in) (succ) (pred))\n(entry 10 0)\n(returns)\n)\n" } ∷
    record { text = "(module 0\n(line 10\n)\n(line 20\n)\n)\n"; writes = "(graph 0 0\n(returns)\n)\n" } ∷
    record { text = "(module 1\n(line 10\n)\n(line 20\n(any)\n(goto 10)\n)\n(line 30\n)\n)\n"; writes = "(graph 0 2\n(node 0 20 1 (0) (in) (succ 0) (pred 0 1))\n(node 1 20 1 (1) (in) (succ 0) (pred))\n(entry 10 0)\n(entry 20 0)\n(returns)\n)\n" } ∷
    record { text = "(module 0\n(line 0\n(goto 65535)\n)\n(line 65535\n(goto 0)\n)\n)\n"; writes = "(graph 0 2\n(node 0 0 0 (0) (in) (succ 1) (pred 1))\n(node 1 65535 1 (0) (in) (succ 0) (pred 0))\n(entry 0 0)\n(entry 65535 1)\n(returns)\n)\n" } ∷
    record { text = "(module 0\n(line 10\n(gosub 40)\n(stop)\n)\n(line 20\n(return)\n)\n(line 40\n(run 20)\n)\n)\n"; writes = "(graph 0 4\n(node 0 10 0 (0) (in) (succ 3) (pred))\n(node 1 10 0 (1) (in) (succ) (pred 2))\n(node 2 20 1 (0) (in) (succ 1) (pred 3))\n(node 3 40 2 (0) (in) (succ 2) (pred 0))\n(entry 10 0)\n(entry 20 2)\n(entry 40 3)\n(returns 1)\n(back 0 1)\n)\n" } ∷
    record { text = "(module 0\n(line 10\n(gosub 20)\n(stop)\n)\n(line 20\n(clr)\n(return)\n)\n)\n"; writes = "(graph 0 4\n(node 0 10 0 (0) (in) (succ 2) (pred))\n(node 1 10 0 (1) (in) (succ) (pred 3))\n(node 2 20 1 (0) (in) (succ 3) (pred 0))\n(node 3 20 1 (1) (in) (succ 1) (pred 2))\n(entry 10 0)\n(entry 20 2)\n(returns 1)\n(back 0 1)\n)\n" } ∷
    record { text = "(module 0\n(line 10\n(gosub 20)\n(stop)\n)\n(line 20\n(any)\n)\n(line 30\n(return)\n)\n)\n"; writes = "(graph 0 4\n(node 0 10 0 (0) (in) (succ 2) (pred 2))\n(node 1 10 0 (1) (in) (succ) (pred 3))\n(node 2 20 1 (0) (in) (succ 0 2 3) (pred 0 2))\n(node 3 30 2 (0) (in) (succ 1) (pred 2))\n(entry 10 0)\n(entry 20 2)\n(entry 30 3)\n(returns 1)\n(back 0 1)\n)\n" } ∷
    record { text = "(module 0\n(line 10\n(gosub 20)\n(stop)\n)\n(line 20\n(gosub 99)\n(return)\n)\n)\n"; writes = "(graph 0 4\n(node 0 10 0 (0) (in) (succ 2) (pred))\n(node 1 10 0 (1) (in) (succ) (pred 3))\n(node 2 20 1 (0) (in) (succ) (pred 0))\n(node 3 20 1 (1) (in) (succ 1) (pred))\n(entry 10 0)\n(entry 20 2)\n(returns 1 3)\n(back 0 1)\n(back 2 3)\n)\n" } ∷
    record { text = "(module 0\n(line 10\n(gosub 20)\n(stop)\n)\n(line 20\n(gosub 30)\n(return)\n)\n(line 30\n(goto 30)\n)\n)\n"; writes = "(graph 0 5\n(node 0 10 0 (0) (in) (succ 2) (pred))\n(node 1 10 0 (1) (in) (succ) (pred 3))\n(node 2 20 1 (0) (in) (succ 4) (pred 0))\n(node 3 20 1 (1) (in) (succ 1) (pred))\n(node 4 30 2 (0) (in) (succ 4) (pred 2 4))\n(entry 10 0)\n(entry 20 2)\n(entry 30 4)\n(returns 1 3)\n(back 0 1)\n(back 2 3)\n)\n" } ∷
    record { text = "(module 0\n(line 10\n(gosub 20)\n(stop)\n)\n(line 20\n(gosub 30)\n)\n(line 30\n(return)\n)\n)\n"; writes = "(graph 0 4\n(node 0 10 0 (0) (in) (succ 2) (pred))\n(node 1 10 0 (1) (in) (succ) (pred 3))\n(node 2 20 1 (0) (in) (succ 3) (pred 0))\n(node 3 30 2 (0) (in) (succ 1 3) (pred 2 3))\n(entry 10 0)\n(entry 20 2)\n(entry 30 3)\n(returns 1 3)\n(back 0 1)\n(back 2 3)\n)\n" } ∷
    []

right-table : T (right table)
unfolding opened right table
right-table = tt
