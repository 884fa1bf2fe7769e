-- Reader rows with their answers by hand. Assumes nothing.
use Rattle.std.specs.Prelude.{List, [], ◌∷◌, true, false, T}
use Rattle.vectors.specs.Vector.{Vector, right, opened}

table : List Vector
table =
    record { text = "(module 0\n(line 10\n(plain)\n)\n)\n(module 0\n)\n"; writes = "(refused 2 5)\n" } ∷
    record { text = "(module 0\n(line 10\n(plain)\n)\n)\n"; writes = "(graph 0 1\n(node 0 10 0 (0) (in) (succ) (pred))\n(entry 10 0)\n(returns)\n)\n" } ∷
    record { text = "(module 0\n(line 10\n(if\n)\n)\n)\n"; writes = "(refused 2 3)\n" } ∷
    record { text = "(module 0\n(line 10\n(rcomp\n)\n)\n)\n"; writes = "(refused 2 3)\n" } ∷
    record { text = "(module 0\n(line 10\n(ifelse\n)\n)\n)\n"; writes = "(refused 2 3)\n" } ∷
    record { text = "(module 0\n(line 10\n(ifelse\n(to 10)\n)\n)\n)\n"; writes = "(refused 2 4)\n" } ∷
    record { text = "(module 0\n(line 10\n(ifelse\n(stmts\n)\n)\n)\n)\n"; writes = "(refused 2 5)\n" } ∷
    record { text = "(module 0\n(line 10\n(if\n(to 10)\n(to 10)\n)\n)\n)\n"; writes = "(refused 2 4)\n" } ∷
    record { text = "(module 0\n(line 10\n(if\n(stmts\n)\n(stmts\n)\n)\n)\n)\n"; writes = "(refused 2 5)\n" } ∷
    record { text = "(module 0\n(line 10\n(ifelse\n(to 10)\n(to 10)\n(to 10)\n)\n)\n)\n"; writes = "(refused 2 5)\n" } ∷
    record { text = "(module 0\n(line 10\n(rcomp\n(to 10)\n(to 10)\n(to 007)\n)\n)\n)\n"; writes = "(refused 2 5)\n" } ∷
    record { text = "(module 0\n(line 10\n(if\n(plain)\n)\n)\n)\n"; writes = "(refused 2 3)\n" } ∷
    record { text = "(module 0\n(line 10\n(if\n(goto 007)\n)\n)\n)\n"; writes = "(refused 2 3)\n" } ∷
    record { text = "(module 0\n(line 10\n(if\n(line 20\n)\n)\n)\n"; writes = "(refused 2 3)\n" } ∷
    record { text = "(module 0\n(line 10\n(if\n(to 007)\n)\n)\n)\n"; writes = "(refused 3 3)\n" } ∷
    record { text = "(module 0\n(line 10\n(if\n(to 65536)\n)\n)\n)\n"; writes = "(refused 3 3)\n" } ∷
    record { text = "(module 0\n(line 10\n(if\n(to x)\n)\n)\n)\n"; writes = "(refused 2 3)\n" } ∷
    record { text = "(module 0\n(line 10\n(if\n(to)\n)\n)\n)\n"; writes = "(refused 2 3)\n" } ∷
    record { text = "(module 0\n(line 10\n(if\n(to 1 2)\n)\n)\n)\n"; writes = "(refused 2 3)\n" } ∷
    record { text = "(module 0\n(line 10\n(if\n(stmts)\n)\n)\n)\n"; writes = "(refused 2 3)\n" } ∷
    record { text = "(module 0\n(line 10\n(if\n(stmts\n(to 10)\n)\n)\n)\n)\n"; writes = "(refused 2 4)\n" } ∷
    record { text = "(module 0\n(line 10\n(if\n(stmts\n(stmts\n)\n)\n)\n)\n)\n"; writes = "(refused 2 4)\n" } ∷
    record { text = "(module 0\n(plain)\n)\n"; writes = "(refused 2 1)\n" } ∷
    record { text = "(module 0\n(to 10)\n)\n"; writes = "(refused 2 1)\n" } ∷
    record { text = "(module 0\n(module 0\n)\n)\n"; writes = "(refused 2 1)\n" } ∷
    record { text = "(module 0\n(line 10\n(if\n(to 10)\n)\n)\n)\n"; writes = "(graph 0 1\n(node 0 10 0 (0) (in) (succ 0) (pred 0))\n(entry 10 0)\n(returns)\n)\n" } ∷
    record { text = "(module 0\n(line 10\n(if\n(stmts\n)\n)\n)\n)\n"; writes = "(graph 0 1\n(node 0 10 0 (0) (in) (succ) (pred))\n(entry 10 0)\n(returns)\n)\n" } ∷
    record { text = "(module 0\n(line 10\n(rcomp\n(to 10)\n)\n)\n)\n"; writes = "(graph 0 1\n(node 0 10 0 (0) (in) (succ 0) (pred 0))\n(entry 10 0)\n(returns)\n)\n" } ∷
    record { text = "(module 0\n(line 10\n(rcomp\n(stmts\n)\n)\n)\n)\n"; writes = "(graph 0 1\n(node 0 10 0 (0) (in) (succ) (pred))\n(entry 10 0)\n(returns)\n)\n" } ∷
    record { text = "(module 0\n(line 10\n(ifelse\n(to 10)\n(to 10)\n)\n)\n)\n"; writes = "(graph 0 1\n(node 0 10 0 (0) (in) (succ 0) (pred 0))\n(entry 10 0)\n(returns)\n)\n" } ∷
    record { text = "(module 0\n(line 10\n(ifelse\n(stmts\n)\n(to 10)\n)\n)\n)\n"; writes = "(graph 0 1\n(node 0 10 0 (0) (in) (succ 0) (pred 0))\n(entry 10 0)\n(returns)\n)\n" } ∷
    record { text = "(module 0\n(line 10\n(rcomp\n(to 10)\n(stmts\n)\n)\n)\n)\n"; writes = "(graph 0 1\n(node 0 10 0 (0) (in) (succ 0) (pred 0))\n(entry 10 0)\n(returns)\n)\n" } ∷
    record { text = "(module 0\n(line 10\n)\n(line\n)\n)\n"; writes = "(refused 2 3)\n" } ∷
    record { text = "(module 0\n(line 10\n)\n(line \n)\n)\n"; writes = "(refused 2 3)\n" } ∷
    record { text = "(module 0\n(line 10\n)\n(line x\n)\n)\n"; writes = "(refused 2 3)\n" } ∷
    record { text = "(module 0\n(line 10\n)\n(line 5 6\n)\n)\n"; writes = "(refused 2 3)\n" } ∷
    record { text = "(module 0\n(line 10\n)\n(line 007 1\n)\n)\n"; writes = "(refused 2 3)\n" } ∷
    record { text = "(module 0\n(line 10\n)\n(line 20)\n)\n)\n"; writes = "(refused 2 3)\n" } ∷
    record { text = "(module 0\n(line 10\n)\n(line  20\n)\n)\n"; writes = "(refused 2 3)\n" } ∷
    record { text = "(module 0\n(line 10\n)\n(line 20 \n)\n)\n"; writes = "(refused 2 3)\n" } ∷
    record { text = "(module 0\n(line 10\n)\n(line -1\n)\n)\n"; writes = "(refused 2 3)\n" } ∷
    record { text = "(module 0\n(line 10\n)\n(line 5x\n)\n)\n"; writes = "(refused 2 3)\n" } ∷
    record { text = "(module 0\n(line 10\n)\n(line 007\n)\n)\n"; writes = "(refused 3 3)\n" } ∷
    record { text = "(module 0\n(line 10\n)\n(line 65536\n)\n)\n"; writes = "(refused 3 3)\n" } ∷
    record { text = "(module 0\n(line 10\n)\n(line 010\n)\n)\n"; writes = "(refused 3 3)\n" } ∷
    record { text = "(module 0\n(line 10\n)\n(line 00\n)\n)\n"; writes = "(refused 3 3)\n" } ∷
    record { text = "(module 0\n(line 10\n)\n(line 10\n)\n)\n"; writes = "(refused 4 3)\n" } ∷
    record { text = "(module 0\n(line 10\n)\n(line 9\n)\n)\n"; writes = "(refused 4 3)\n" } ∷
    record { text = "(module 0\n(line 10\n)\n(line 0\n)\n)\n"; writes = "(refused 4 3)\n" } ∷
    record { text = "(module 0\n(line 10\n)\n(line 11\n)\n)\n"; writes = "(graph 0 0\n(returns)\n)\n" } ∷
    record { text = "(module 0\n(line 10\n)\n(line 65535\n)\n)\n"; writes = "(graph 0 0\n(returns)\n)\n" } ∷
    record { text = "(module 0\n(line 0\n)\n)\n"; writes = "(graph 0 0\n(returns)\n)\n" } ∷
    record { text = "(module 0\n(line 0\n)\n(line 0\n)\n)\n"; writes = "(refused 4 3)\n" } ∷
    record { text = "(module 0\n(line 10\n(if\n(stmts\n(if\n(stmts\n(if\n(stmts\n(if\n(stmts\n(if\n(stmts\n(if\n(stmts\n(if\n(stmts\n(if\n(stmts\n(if\n(stmts\n(if\n(stmts\n(if\n(stmts\n(if\n(stmts\n(if\n(stmts\n(if\n(stmts\n(if\n(stmts\n(if\n(stmts\n(plain)\n)\n)\n)\n)\n)\n)\n)\n)\n)\n)\n)\n)\n)\n)\n)\n)\n)\n)\n)\n)\n)\n)\n)\n)\n)\n)\n)\n)\n)\n)\n)\n)\n)\n)\n"; writes = "(graph 0 17\n(node 0 10 0 (0) (in) (succ 1) (pred))\n(node 1 10 0 (0 0) (in 0) (succ 2) (pred 0))\n(node 2 10 0 (0 0 0) (in 1) (succ 3) (pred 1))\n(node 3 10 0 (0 0 0 0) (in 2) (succ 4) (pred 2))\n(node 4 10 0 (0 0 0 0 0) (in 3) (succ 5) (pred 3))\n(node 5 10 0 (0 0 0 0 0 0) (in 4) (succ 6) (pred 4))\n(node 6 10 0 (0 0 0 0 0 0 0) (in 5) (succ 7) (pred 5))\n(node 7 10 0 (0 0 0 0 0 0 0 0) (in 6) (succ 8) (pred 6))\n(node 8 10 0 (0 0 0 0 0 0 0 0 0) (in 7) (succ 9) (pred 7))\n(node 9 10 0 (0 0 0 0 0 0 0 0 0 0) (in 8) (succ 10) (pred 8))\n(node 10 10 0 (0 0 0 0 0 0 0 0 0 0 0) (in 9) (succ 11) (pred 9))\n(node 11 10 0 (0 0 0 0 0 0 0 0 0 0 0 0) (in 10) (succ 12) (pred 10))\n(node 12 10 0 (0 0 0 0 0 0 0 0 0 0 0 0 0) (in 11) (succ 13) (pred 11))\n(node 13 10 0 (0 0 0 0 0 0 0 0 0 0 0 0 0 0) (in 12) (succ 14) (pred 12))\n(node 14 10 0 (0 0 0 0 0 0 0 0 0 0 0 0 0 0 0) (in 13) (succ 15) (pred 13))\n(node 15 10 0 (0 0 0 0 0 0 0 0 0 0 0 0 0 0 0 0) (in 14) (succ 16) (pred 14))\n(node 16 10 0 (0 0 0 0 0 0 0 0 0 0 0 0 0 0 0 0 0) (in 15) (succ) (pred 15))\n(entry 10 0)\n(returns)\n)\n" } ∷
    record { text = "(module 0\n(line 10\n(if\n(stmts\n(if\n(stmts\n(if\n(stmts\n(if\n(stmts\n(if\n(stmts\n(if\n(stmts\n(if\n(stmts\n(if\n(stmts\n(if\n(stmts\n(if\n(stmts\n(if\n(stmts\n(if\n(stmts\n(if\n(stmts\n(if\n(stmts\n(if\n(stmts\n(if\n(stmts\n(if\n(stmts\n(plain)\n)\n)\n)\n)\n)\n)\n)\n)\n)\n)\n)\n)\n)\n)\n)\n)\n)\n)\n)\n)\n)\n)\n)\n)\n)\n)\n)\n)\n)\n)\n)\n)\n)\n)\n)\n)\n"; writes = "(refused 7 36)\n" } ∷
    record { text = "(module 0\n(line 10\n(if\n(stmts\n(if\n(stmts\n(if\n(stmts\n(if\n(stmts\n(if\n(stmts\n(if\n(stmts\n(if\n(stmts\n(if\n(stmts\n(if\n(stmts\n(if\n(stmts\n(if\n(stmts\n(if\n(stmts\n(if\n(stmts\n(if\n(stmts\n(if\n(stmts\n(if\n(stmts\n(if\n(stmts\n)\n)\n)\n)\n)\n)\n)\n)\n)\n)\n)\n)\n)\n)\n)\n)\n)\n)\n)\n)\n)\n)\n)\n)\n)\n)\n)\n)\n)\n)\n)\n)\n)\n)\n)\n)\n"; writes = "(graph 0 17\n(node 0 10 0 (0) (in) (succ 1) (pred))\n(node 1 10 0 (0 0) (in 0) (succ 2) (pred 0))\n(node 2 10 0 (0 0 0) (in 1) (succ 3) (pred 1))\n(node 3 10 0 (0 0 0 0) (in 2) (succ 4) (pred 2))\n(node 4 10 0 (0 0 0 0 0) (in 3) (succ 5) (pred 3))\n(node 5 10 0 (0 0 0 0 0 0) (in 4) (succ 6) (pred 4))\n(node 6 10 0 (0 0 0 0 0 0 0) (in 5) (succ 7) (pred 5))\n(node 7 10 0 (0 0 0 0 0 0 0 0) (in 6) (succ 8) (pred 6))\n(node 8 10 0 (0 0 0 0 0 0 0 0 0) (in 7) (succ 9) (pred 7))\n(node 9 10 0 (0 0 0 0 0 0 0 0 0 0) (in 8) (succ 10) (pred 8))\n(node 10 10 0 (0 0 0 0 0 0 0 0 0 0 0) (in 9) (succ 11) (pred 9))\n(node 11 10 0 (0 0 0 0 0 0 0 0 0 0 0 0) (in 10) (succ 12) (pred 10))\n(node 12 10 0 (0 0 0 0 0 0 0 0 0 0 0 0 0) (in 11) (succ 13) (pred 11))\n(node 13 10 0 (0 0 0 0 0 0 0 0 0 0 0 0 0 0) (in 12) (succ 14) (pred 12))\n(node 14 10 0 (0 0 0 0 0 0 0 0 0 0 0 0 0 0 0) (in 13) (succ 15) (pred 13))\n(node 15 10 0 (0 0 0 0 0 0 0 0 0 0 0 0 0 0 0 0) (in 14) (succ 16) (pred 14))\n(node 16 10 0 (0 0 0 0 0 0 0 0 0 0 0 0 0 0 0 0 0) (in 15) (succ) (pred 15))\n(entry 10 0)\n(returns)\n)\n" } ∷
    record { text = "(module 0\n(line 10\n(if\n(stmts\n(if\n(stmts\n(if\n(stmts\n(if\n(stmts\n(if\n(stmts\n(if\n(stmts\n(if\n(stmts\n(if\n(stmts\n(if\n(stmts\n(if\n(stmts\n(if\n(stmts\n(if\n(stmts\n(if\n(stmts\n(if\n(stmts\n(if\n(stmts\n(if\n(stmts\n(if\n(to 10)\n)\n)\n)\n)\n)\n)\n)\n)\n)\n)\n)\n)\n)\n)\n)\n)\n)\n)\n)\n)\n)\n)\n)\n)\n)\n)\n)\n)\n)\n)\n)\n)\n)\n)\n)\n"; writes = "(graph 0 17\n(node 0 10 0 (0) (in) (succ 1) (pred 16))\n(node 1 10 0 (0 0) (in 0) (succ 2) (pred 0))\n(node 2 10 0 (0 0 0) (in 1) (succ 3) (pred 1))\n(node 3 10 0 (0 0 0 0) (in 2) (succ 4) (pred 2))\n(node 4 10 0 (0 0 0 0 0) (in 3) (succ 5) (pred 3))\n(node 5 10 0 (0 0 0 0 0 0) (in 4) (succ 6) (pred 4))\n(node 6 10 0 (0 0 0 0 0 0 0) (in 5) (succ 7) (pred 5))\n(node 7 10 0 (0 0 0 0 0 0 0 0) (in 6) (succ 8) (pred 6))\n(node 8 10 0 (0 0 0 0 0 0 0 0 0) (in 7) (succ 9) (pred 7))\n(node 9 10 0 (0 0 0 0 0 0 0 0 0 0) (in 8) (succ 10) (pred 8))\n(node 10 10 0 (0 0 0 0 0 0 0 0 0 0 0) (in 9) (succ 11) (pred 9))\n(node 11 10 0 (0 0 0 0 0 0 0 0 0 0 0 0) (in 10) (succ 12) (pred 10))\n(node 12 10 0 (0 0 0 0 0 0 0 0 0 0 0 0 0) (in 11) (succ 13) (pred 11))\n(node 13 10 0 (0 0 0 0 0 0 0 0 0 0 0 0 0 0) (in 12) (succ 14) (pred 12))\n(node 14 10 0 (0 0 0 0 0 0 0 0 0 0 0 0 0 0 0) (in 13) (succ 15) (pred 13))\n(node 15 10 0 (0 0 0 0 0 0 0 0 0 0 0 0 0 0 0 0) (in 14) (succ 16) (pred 14))\n(node 16 10 0 (0 0 0 0 0 0 0 0 0 0 0 0 0 0 0 0 0) (in 15) (succ 0) (pred 15))\n(entry 10 0)\n(returns)\n)\n" } ∷
    record { text = "(module 0\n(line 10\n(if\n(stmts\n(if\n(stmts\n(if\n(stmts\n(if\n(stmts\n(if\n(stmts\n(if\n(stmts\n(if\n(stmts\n(if\n(stmts\n(if\n(stmts\n(if\n(stmts\n(if\n(stmts\n(if\n(stmts\n(if\n(stmts\n(if\n(stmts\n(if\n(stmts\n(if\n(stmts\n(ifelse\n(stmts\n)\n(to 10)\n)\n)\n)\n)\n)\n)\n)\n)\n)\n)\n)\n)\n)\n)\n)\n)\n)\n)\n)\n)\n)\n)\n)\n)\n)\n)\n)\n)\n)\n)\n)\n)\n)\n)\n)\n"; writes = "(graph 0 17\n(node 0 10 0 (0) (in) (succ 1) (pred 16))\n(node 1 10 0 (0 0) (in 0) (succ 2) (pred 0))\n(node 2 10 0 (0 0 0) (in 1) (succ 3) (pred 1))\n(node 3 10 0 (0 0 0 0) (in 2) (succ 4) (pred 2))\n(node 4 10 0 (0 0 0 0 0) (in 3) (succ 5) (pred 3))\n(node 5 10 0 (0 0 0 0 0 0) (in 4) (succ 6) (pred 4))\n(node 6 10 0 (0 0 0 0 0 0 0) (in 5) (succ 7) (pred 5))\n(node 7 10 0 (0 0 0 0 0 0 0 0) (in 6) (succ 8) (pred 6))\n(node 8 10 0 (0 0 0 0 0 0 0 0 0) (in 7) (succ 9) (pred 7))\n(node 9 10 0 (0 0 0 0 0 0 0 0 0 0) (in 8) (succ 10) (pred 8))\n(node 10 10 0 (0 0 0 0 0 0 0 0 0 0 0) (in 9) (succ 11) (pred 9))\n(node 11 10 0 (0 0 0 0 0 0 0 0 0 0 0 0) (in 10) (succ 12) (pred 10))\n(node 12 10 0 (0 0 0 0 0 0 0 0 0 0 0 0 0) (in 11) (succ 13) (pred 11))\n(node 13 10 0 (0 0 0 0 0 0 0 0 0 0 0 0 0 0) (in 12) (succ 14) (pred 12))\n(node 14 10 0 (0 0 0 0 0 0 0 0 0 0 0 0 0 0 0) (in 13) (succ 15) (pred 13))\n(node 15 10 0 (0 0 0 0 0 0 0 0 0 0 0 0 0 0 0 0) (in 14) (succ 16) (pred 14))\n(node 16 10 0 (0 0 0 0 0 0 0 0 0 0 0 0 0 0 0 0 0) (in 15) (succ 0) (pred 15))\n(entry 10 0)\n(returns)\n)\n" } ∷
    record { text = "(module 0\n(line 10\n(if\n(stmts\n(if\n(stmts\n(if\n(stmts\n(if\n(stmts\n(if\n(stmts\n(if\n(stmts\n(if\n(stmts\n(if\n(stmts\n(if\n(stmts\n(if\n(stmts\n(if\n(stmts\n(if\n(stmts\n(if\n(stmts\n(if\n(stmts\n(if\n(stmts\n(if\n(stmts\n(rcomp\n(stmts\n)\n(stmts\n(plain)\n)\n)\n)\n)\n)\n)\n)\n)\n)\n)\n)\n)\n)\n)\n)\n)\n)\n)\n)\n)\n)\n)\n)\n)\n)\n)\n)\n)\n)\n)\n)\n)\n)\n)\n)\n)\n"; writes = "(refused 7 38)\n" } ∷
    record { text = "(module 0\n(line 10\n(if\n(stmts\n(if\n(stmts\n(if\n(stmts\n(if\n(stmts\n(if\n(stmts\n(if\n(stmts\n(if\n(stmts\n(if\n(stmts\n(if\n(stmts\n(if\n(stmts\n(if\n(stmts\n(if\n(stmts\n(if\n(stmts\n(if\n(stmts\n(if\n(stmts\n(if\n(stmts\n(if\n(stmts\n(if\n(stmts\n)\n)\n)\n)\n)\n)\n)\n)\n)\n)\n)\n)\n)\n)\n)\n)\n)\n)\n)\n)\n)\n)\n)\n)\n)\n)\n)\n)\n)\n)\n)\n)\n)\n)\n)\n)\n)\n)\n"; writes = "(refused 7 36)\n" } ∷
    []

right-table : T (right table)
unfolding opened right table
right-table = tt
