-- Reader rows with their answers by hand. Assumes nothing.
use Rattle.std.specs.Prelude.{List, [], ◌∷◌, true, false, T}
use Rattle.vectors.specs.Vector.{Vector, right, opened}

table : List Vector
table =
    record { text = "(module 0\n(line 10\n(stmts\n)\n)\n"; writes = "(refused 2 2)\n" } ∷
    record { text = "(module 0\n(line 10\n(to 10)\n)\n)\n"; writes = "(refused 2 2)\n" } ∷
    record { text = "(module 0\n(line 10\n(to 007)\n)\n)\n"; writes = "(refused 2 2)\n" } ∷
    record { text = "(module 0\n(line 10\n(to\n)\n)\n"; writes = "(refused 2 2)\n" } ∷
    record { text = "(module 0\n(line 10\n(plain\n)\n)\n"; writes = "(refused 2 2)\n" } ∷
    record { text = "(module 0\n(line 10\n(return\n)\n)\n"; writes = "(refused 2 2)\n" } ∷
    record { text = "(module 0\n(line 10\n(if 1\n)\n)\n"; writes = "(refused 2 2)\n" } ∷
    record { text = "(module 0\n(line 10\n(if \n)\n)\n"; writes = "(refused 2 2)\n" } ∷
    record { text = "(module 0\n(line 10\n(line 007\n)\n)\n"; writes = "(refused 2 2)\n" } ∷
    record { text = "(module 0\n(line 10\n(module 0\n)\n)\n"; writes = "(refused 2 2)\n" } ∷
    record { text = "(module 0\n(line 10\n(stmts 1\n)\n)\n"; writes = "(refused 2 2)\n" } ∷
    record { text = "(module 0\n(line 10\n(else\n)\n)\n"; writes = "(refused 2 2)\n" } ∷
    record { text = "(module 0\n(line 10\n[plain]\n)\n)\n"; writes = "(refused 2 2)\n" } ∷
    record { text = "(module 0\n(line 10\n(for COUNTERSX static)\n)\n)\n"; writes = "(refused 3 2)\n" } ∷
    record { text = "(module 0\n(line 10\n(for COUNTERSX% static)\n)\n)\n"; writes = "(refused 3 2)\n" } ∷
    record { text = "(module 0\n(line 10\n(next plain COunt)\n)\n)\n"; writes = "(refused 3 2)\n" } ∷
    record { text = "(module 0\n(line 10\n(for CO%UNT static)\n)\n)\n"; writes = "(refused 3 2)\n" } ∷
    record { text = "(module 0\n(line 10\n(for COUNT%$ framed)\n)\n)\n"; writes = "(refused 3 2)\n" } ∷
    record { text = "(module 0\n(line 10\n(next orphan * COUNT*)\n)\n)\n"; writes = "(refused 3 2)\n" } ∷
    record { text = "(module 0\n(line 10\n(next plain COUNT CO- CO)\n)\n)\n"; writes = "(refused 3 2)\n" } ∷
    record { text = "(module 0\n(line 10\n(for CCCCCCCCCCCCCCCCCC dispatched)\n)\n)\n"; writes = "(refused 3 2)\n" } ∷
    record { text = "(module 0\n(line 10\n(for COUNTERS% static)\n)\n)\n"; writes = "(graph 0 1\n(node 0 10 0 (0) (in) (succ) (pred))\n(entry 10 0)\n(returns)\n)\n" } ∷
    record { text = "(module 0\n(line 10\n(for COUNTERS static)\n)\n)\n"; writes = "(graph 0 1\n(node 0 10 0 (0) (in) (succ) (pred))\n(entry 10 0)\n(returns)\n)\n" } ∷
    record { text = "(module 0\n(line 10\n(for CO0 dispatched)\n)\n)\n"; writes = "(graph 0 1\n(node 0 10 0 (0) (in) (succ) (pred))\n(entry 10 0)\n(returns)\n)\n" } ∷
    record { text = "(module 0\n(line 10\n(next plain COUNT COUNTER CO% C$ COUNT)\n)\n)\n"; writes = "(graph 0 1\n(node 0 10 0 (0) (in) (succ) (pred))\n(entry 10 0)\n(returns)\n)\n" } ∷
    record { text = "(module 00\n)\n"; writes = "(refused 2 0)\n" } ∷
    record { text = "(module 01\n)\n"; writes = "(refused 2 0)\n" } ∷
    record { text = "(module 2\n)\n"; writes = "(refused 2 0)\n" } ∷
    record { text = "(module 65536\n)\n"; writes = "(refused 2 0)\n" } ∷
    record { text = "(module x\n)\n"; writes = "(refused 2 0)\n" } ∷
    record { text = "(module \n)\n"; writes = "(refused 2 0)\n" } ∷
    record { text = "(module 0 \n)\n"; writes = "(refused 2 0)\n" } ∷
    record { text = "(module 0 1\n)\n"; writes = "(refused 2 0)\n" } ∷
    record { text = "(module 0)\n)\n"; writes = "(refused 2 0)\n" } ∷
    record { text = "(module 0\n)\n"; writes = "(graph 0 0\n(returns)\n)\n" } ∷
    record { text = "(module 1\n)\n"; writes = "(graph 0 0\n(returns)\n)\n" } ∷
    record { text = "(module\n)\n"; writes = "(refused 2 0)\n" } ∷
    record { text = "module 0\n)\n"; writes = "(refused 2 0)\n" } ∷
    record { text = "(line 10\n)\n"; writes = "(refused 2 0)\n" } ∷
    record { text = ")\n)\n"; writes = "(refused 2 0)\n" } ∷
    record { text = "(plain)\n)\n"; writes = "(refused 2 0)\n" } ∷
    record { text = "\n)\n"; writes = "(refused 2 0)\n" } ∷
    record { text = "(modul 0\n)\n"; writes = "(refused 2 0)\n" } ∷
    record { text = ""; writes = "(refused 2 0)\n" } ∷
    record { text = "\n"; writes = "(refused 2 0)\n" } ∷
    record { text = "(module 0"; writes = "(refused 2 0)\n" } ∷
    record { text = "(module 0\n"; writes = "(refused 2 1)\n" } ∷
    record { text = "(module 0\n)"; writes = "(refused 2 1)\n" } ∷
    record { text = "(module 0\n(line 10\n"; writes = "(refused 2 2)\n" } ∷
    record { text = "(module 0\n(line 10\n(goto 007)"; writes = "(refused 2 2)\n" } ∷
    record { text = "(module 0\n(line 10\n(goto 007)\n"; writes = "(refused 3 2)\n" } ∷
    record { text = "(module 0\n(line 10\n)\n(line 5"; writes = "(refused 2 3)\n" } ∷
    record { text = "(module 2\n(line"; writes = "(refused 2 0)\n" } ∷
    record { text = "(module 0\n(line 10\n(plain)\n)\n)"; writes = "(refused 2 4)\n" } ∷
    record { text = "(module 0\n(line 10\n(plain)\n)\n"; writes = "(refused 2 4)\n" } ∷
    record { text = "(module 0\n(line 10\n(plain)\n)\n)\n\n"; writes = "(refused 2 5)\n" } ∷
    record { text = "(module 0\n(line 10\n(plain)\n)\n)\n)\n"; writes = "(refused 2 5)\n" } ∷
    record { text = "(module 0\n(line 10\n(plain)\n)\n)\n "; writes = "(refused 2 5)\n" } ∷
    record { text = "(module 0\n(line 10\n(plain)\n)\n)\n(plain)\n"; writes = "(refused 2 5)\n" } ∷
    record { text = "(module 0\n(line 10\n(plain)\n)\n)\nx"; writes = "(refused 2 5)\n" } ∷
    []

right-table : T (right table)
unfolding opened right table
right-table = tt
