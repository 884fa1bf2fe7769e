-- Reader rows with their answers by hand. Assumes nothing.
use Rattle.std.specs.Prelude.{List, [], ◌∷◌, true, false, T}
use Rattle.vectors.specs.Vector.{Vector, right, opened}

table : List Vector
table =
    record { text = "(module 0\n(line 10\n(for ABCDEFGHI static)\n)\n)\n"; writes = "(refused 3 2)\n" } ∷
    record { text = "(module 0\n(line 10\n(for A%$ static)\n)\n)\n"; writes = "(refused 3 2)\n" } ∷
    record { text = "(module 0\n(line 10\n(next plain a)\n)\n)\n"; writes = "(refused 3 2)\n" } ∷
    record { text = "(module 0\n(line 10\n(next plain **)\n)\n)\n"; writes = "(refused 3 2)\n" } ∷
    record { text = "(module 0\n(line 10\n(for ABCDEFGHI% static)\n)\n)\n"; writes = "(refused 3 2)\n" } ∷
    record { text = "(module 0\n(line 10\n(next plain 1)\n)\n)\n"; writes = "(refused 3 2)\n" } ∷
    record { text = "(module 0\n(line 10\n(next orphan A B c)\n)\n)\n"; writes = "(refused 3 2)\n" } ∷
    record { text = "(module 0\n(line 10\n(for % static)\n)\n)\n"; writes = "(refused 3 2)\n" } ∷
    record { text = "(module 0\n(line 10\n(for A%% framed)\n)\n)\n"; writes = "(refused 3 2)\n" } ∷
    record { text = "(module 0\n(line 10\n(for A- static)\n)\n)\n"; writes = "(refused 3 2)\n" } ∷
    record { text = "(module 0\n(line 10\n(for 1A static)\n)\n)\n"; writes = "(refused 3 2)\n" } ∷
    record { text = "(module 0\n(line 10\n(for Aa static)\n)\n)\n"; writes = "(refused 3 2)\n" } ∷
    record { text = "(module 0\n(line 10\n(for A%B static)\n)\n)\n"; writes = "(refused 3 2)\n" } ∷
    record { text = "(module 0\n(line 10\n(for A static)\n)\n)\n"; writes = "(graph 0 1\n(node 0 10 0 (0) (in) (succ) (pred))\n(entry 10 0)\n(returns)\n)\n" } ∷
    record { text = "(module 0\n(line 10\n(for ABCDEFGH% framed)\n)\n)\n"; writes = "(graph 0 1\n(node 0 10 0 (0) (in) (succ) (pred))\n(entry 10 0)\n(returns)\n)\n" } ∷
    record { text = "(module 0\n(line 10\n(for A1$ dispatched)\n)\n)\n"; writes = "(graph 0 1\n(node 0 10 0 (0) (in) (succ) (pred))\n(entry 10 0)\n(returns)\n)\n" } ∷
    record { text = "(module 0\n(line 10\n(for Z9999999 static)\n)\n)\n"; writes = "(graph 0 1\n(node 0 10 0 (0) (in) (succ) (pred))\n(entry 10 0)\n(returns)\n)\n" } ∷
    record { text = "(module 0\n(line 10\n(next plain ABCDEFGH$ * I%)\n)\n)\n"; writes = "(graph 0 1\n(node 0 10 0 (0) (in) (succ) (pred))\n(entry 10 0)\n(returns)\n)\n" } ∷
    record { text = "(module 0\n(line 10\n(for A bogus)\n)\n)\n"; writes = "(refused 2 2)\n" } ∷
    record { text = "(module 0\n(line 10\n(for A Static)\n)\n)\n"; writes = "(refused 2 2)\n" } ∷
    record { text = "(module 0\n(line 10\n(next)\n)\n)\n"; writes = "(refused 2 2)\n" } ∷
    record { text = "(module 0\n(line 10\n(next foo A)\n)\n)\n"; writes = "(refused 2 2)\n" } ∷
    record { text = "(module 0\n(line 10\n(next A)\n)\n)\n"; writes = "(refused 2 2)\n" } ∷
    record { text = "(module 0\n(line 10\n(next *)\n)\n)\n"; writes = "(refused 2 2)\n" } ∷
    record { text = "(module 0\n(line 10\n(ongoto )\n)\n)\n"; writes = "(refused 2 2)\n" } ∷
    record { text = "(module 0\n(line 10\n(run )\n)\n)\n"; writes = "(refused 2 2)\n" } ∷
    record { text = "(module 0\n(line 10\n(next plain )\n)\n)\n"; writes = "(refused 2 2)\n" } ∷
    record { text = "(module 0\n(line 10\n(next )\n)\n)\n"; writes = "(refused 2 2)\n" } ∷
    record { text = "(module 0\n(line 10\n(next Plain)\n)\n)\n"; writes = "(refused 2 2)\n" } ∷
    record { text = "(module 0\n(line 10\n(for A static )\n)\n)\n"; writes = "(refused 2 2)\n" } ∷
    record { text = "(module 0\n(line 10\n(for A  static)\n)\n)\n"; writes = "(refused 2 2)\n" } ∷
    record { text = "(module 0\n(line 10\n(for A static framed)\n)\n)\n"; writes = "(refused 2 2)\n" } ∷
    record { text = "(module 0\n(line 10\n(next plain)\n)\n)\n"; writes = "(graph 0 1\n(node 0 10 0 (0) (in) (succ) (pred))\n(entry 10 0)\n(returns)\n)\n" } ∷
    record { text = "(module 0\n(line 10\n(next orphan)\n)\n)\n"; writes = "(graph 0 1\n(node 0 10 0 (0) (in) (succ) (pred))\n(entry 10 0)\n(returns)\n)\n" } ∷
    record { text = "(module 0\n(line 10\n(ongoto)\n)\n)\n"; writes = "(graph 0 1\n(node 0 10 0 (0) (in) (succ) (pred))\n(entry 10 0)\n(returns)\n)\n" } ∷
    record { text = "(module 0\n(line 10\n(ongosub)\n)\n)\n"; writes = "(graph 0 1\n(node 0 10 0 (0) (in) (succ) (pred))\n(entry 10 0)\n(returns)\n)\n" } ∷
    record { text = "(module 0\n(line 10\n(ongoto 1 1 1 1 1 1 1 1 1 1 1 1 1 1 1 1 1 1 1 1 1 1 1 1 1 1 1 1 1 1 1 1 1 1 1 1 1 1 1 1 1 1 1 1 1 1 1 1 1 1 1 1 1 1 1 1 1 1 1 1 1 1 1 1 1)\n)\n)\n"; writes = "(refused 8 2)\n" } ∷
    record { text = "(module 0\n(line 10\n(ongosub 1 1 1 1 1 1 1 1 1 1 1 1 1 1 1 1 1 1 1 1 1 1 1 1 1 1 1 1 1 1 1 1 1 1 1 1 1 1 1 1 1 1 1 1 1 1 1 1 1 1 1 1 1 1 1 1 1 1 1 1 1 1 1 1 1)\n)\n)\n"; writes = "(refused 8 2)\n" } ∷
    record { text = "(module 0\n(line 10\n(next plain * * * * * * * * * * * * * * * * * * * * * * * * * * * * * * * * * * * * * * * * * * * * * * * * * * * * * * * * * * * * * * * * *)\n)\n)\n"; writes = "(refused 8 2)\n" } ∷
    record { text = "(module 0\n(line 10\n(ongoto 1 1 1 1 1 1 1 1 1 1 1 1 1 1 1 1 1 1 1 1 1 1 1 1 1 1 1 1 1 1 1 1 1 1 1 1 1 1 1 1 1 1 1 1 1 1 1 1 1 1 1 1 1 1 1 1 1 1 1 1 1 1 1 1 1 1 1 1 1 1 1 1 1 1 1 1 1 1 1 1 1 1 1 1 1 1 1 1 1 1 1 1 1 1 1 1 1 1 1 1 1 1 1 1 1 1 1 1 1 1 1 1 1 1 1 1 1 1 1 1 1 1 1 1 1 1 1 1 1 1 1 1 1 1 1 1 1 1 1 1 1 1 1 1 1 1 1 1 1 1 1 1 1 1 1 1 1 1 1 1 1 1 1 1 1 1 1 1 1 1 1 1 1 1 1 1 1 1 1 1 1 1 1 1 1 1 1 1 1 1 1 1 1 1 1 1 1 1 1 1)\n)\n)\n"; writes = "(refused 8 2)\n" } ∷
    record { text = "(module 0\n(line 10\n(next plain * * * * * * * * * * * * * * * * * * * * * * * * * * * * * * * * * * * * * * * * * * * * * * * * * * * * * * * * * * * * * * * * I)\n)\n)\n"; writes = "(refused 8 2)\n" } ∷
    record { text = "(module 0\n(line 10\n(ongoto 1 1 1 1 1 1 1 1 1 1 1 1 1 1 1 1 1 1 1 1 1 1 1 1 1 1 1 1 1 1 1 1 1 1 1 1 1 1 1 1 1 1 1 1 1 1 1 1 1 1 1 1 1 1 1 1 1 1 1 1 1 1 1 1 x)\n)\n)\n"; writes = "(refused 2 2)\n" } ∷
    record { text = "(module 0\n(line 10\n(ongosub 1 1 1 1 1 1 1 1 1 1 1 1 1 1 1 1 1 1 1 1 1 1 1 1 1 1 1 1 1 1 1 1 1 1 1 1 1 1 1 1 1 1 1 1 1 1 1 1 1 1 1 1 1 1 1 1 1 1 1 1 1 1 1 1 1 -)\n)\n)\n"; writes = "(refused 2 2)\n" } ∷
    record { text = "(module 0\n(line 10\n(ongoto 1 1 1 1 1 1 1 1 1 1 1 1 1 1 1 1 1 1 1 1 1 1 1 1 1 1 1 1 1 1 1 1 1 1 1 1 1 1 1 1 1 1 1 1 1 1 1 1 1 1 1 1 1 1 1 1 1 1 1 1 1 1 1 1 007)\n)\n)\n"; writes = "(refused 3 2)\n" } ∷
    record { text = "(module 0\n(line 10\n(next plain * * * * * * * * * * * * * * * * * * * * * * * * * * * * * * * * * * * * * * * * * * * * * * * * * * * * * * * * * * * * * * * * a)\n)\n)\n"; writes = "(refused 3 2)\n" } ∷
    record { text = "(module 0\n(line 10\n(ongosub 1 1 1 1 1 1 1 1 1 1 1 1 1 1 1 1 1 1 1 1 1 1 1 1 1 1 1 1 1 1 1 1 1 1 1 1 1 1 1 1 1 1 1 1 1 1 1 1 1 1 1 1 1 1 1 1 1 1 1 1 1 1 1 1 1 1 1 1 1 1 1 1 1 1 1 1 1 1 1 1 1 1 1 1 1 1 1 1 1 1 1 1 1 1 1 1 1 1 65536)\n)\n)\n"; writes = "(refused 3 2)\n" } ∷
    record { text = "(module 0\n(line 10\n(ongoto 1 1 1 1 1 1 1 1 1 1 1 1 1 1 1 1 1 1 1 1 1 1 1 1 1 1 1 1 1 1 1 1 1 1 1 1 1 1 1 1 1 1 1 1 1 1 1 1 1 1 1 1 1 1 1 1 1 1 1 1 1 1 1 1)\n)\n)\n"; writes = "(graph 0 1\n(node 0 10 0 (0) (in) (succ) (pred))\n(entry 10 0)\n(returns)\n)\n" } ∷
    record { text = "(module 0\n(line 10\n(ongosub 1 1 1 1 1 1 1 1 1 1 1 1 1 1 1 1 1 1 1 1 1 1 1 1 1 1 1 1 1 1 1 1 1 1 1 1 1 1 1 1 1 1 1 1 1 1 1 1 1 1 1 1 1 1 1 1 1 1 1 1 1 1 1 65535)\n)\n)\n"; writes = "(graph 0 1\n(node 0 10 0 (0) (in) (succ) (pred))\n(entry 10 0)\n(returns)\n)\n" } ∷
    record { text = "(module 0\n(line 10\n(next plain * * * * * * * * * * * * * * * * * * * * * * * * * * * * * * * * * * * * * * * * * * * * * * * * * * * * * * * * * * * * * * * *)\n)\n)\n"; writes = "(graph 0 1\n(node 0 10 0 (0) (in) (succ) (pred))\n(entry 10 0)\n(returns)\n)\n" } ∷
    record { text = "(module 0\n(line 10\n(for [A] static)\n)\n)\n"; writes = "(refused 3 2)\n" } ∷
    record { text = "(module 0\n(line 10\n(for A( static)\n)\n)\n"; writes = "(refused 2 2)\n" } ∷
    record { text = "(module 0\n(line 10\n(for (A static)\n)\n)\n"; writes = "(refused 2 2)\n" } ∷
    record { text = "(module 0\n(line 10\n(next plain A))\n)\n)\n"; writes = "(refused 2 2)\n" } ∷
    record { text = "(module 0\n(line 10\n(next plain (A)\n)\n)\n"; writes = "(refused 2 2)\n" } ∷
    record { text = "(module 0\n(line 10\n(if)\n)\n)\n"; writes = "(refused 2 2)\n" } ∷
    record { text = "(module 0\n(line 10\n(line 10)\n)\n)\n"; writes = "(refused 2 2)\n" } ∷
    record { text = "(module 0\n(line 10\n(line 20\n)\n)\n"; writes = "(refused 2 2)\n" } ∷
    record { text = "(module 0\n(line 10\n(ifelse)\n)\n)\n"; writes = "(refused 2 2)\n" } ∷
    record { text = "(module 0\n(line 10\n(rcomp)\n)\n)\n"; writes = "(refused 2 2)\n" } ∷
    record { text = "(module 0\n(line 10\n(stmts)\n)\n)\n"; writes = "(refused 2 2)\n" } ∷
    []

right-table : T (right table)
unfolding opened right table
right-table = tt
