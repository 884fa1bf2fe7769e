-- Reader rows with their answers by hand. Assumes nothing.
use Rattle.std.specs.Prelude.{List, [], ◌∷◌, true, false, T}
use Rattle.vectors.specs.Vector.{Vector, right, opened}

table : List Vector
table =
    record { text = "(module 0\n(line 10\n(ongoto 01 x)\n)\n)\n"; writes = "(refused 2 2)\n" } ∷
    record { text = "(module 0\n(line 10\n(for 1 bogus)\n)\n)\n"; writes = "(refused 2 2)\n" } ∷
    record { text = "(module 0\n(line 10\n(goto 007 1)\n)\n)\n"; writes = "(refused 2 2)\n" } ∷
    record { text = "(module 0\n(line 10\n(goto 65536 1)\n)\n)\n"; writes = "(refused 2 2)\n" } ∷
    record { text = "(module 0\n(line 10\n(for a)\n)\n)\n"; writes = "(refused 2 2)\n" } ∷
    record { text = "(module 0\n(line 10\n(return 007)\n)\n)\n"; writes = "(refused 2 2)\n" } ∷
    record { text = "(module 0\n(line 10\n(run 01 02)\n)\n)\n"; writes = "(refused 2 2)\n" } ∷
    record { text = "(module 0\n(line 10\n(next plain a\n)\n)\n"; writes = "(refused 2 2)\n" } ∷
    record { text = "(module 0\n(line 10\n(goto 007)\n)\n)\n"; writes = "(refused 3 2)\n" } ∷
    record { text = "(module 0\n(line 10\n(goto 00)\n)\n)\n"; writes = "(refused 3 2)\n" } ∷
    record { text = "(module 0\n(line 10\n(goto 65536)\n)\n)\n"; writes = "(refused 3 2)\n" } ∷
    record { text = "(module 0\n(line 10\n(goto 1111111111111111111111111111111111111111)\n)\n)\n"; writes = "(refused 3 2)\n" } ∷
    record { text = "(module 0\n(line 10\n(goto 0000000000000000000000000000000000000000)\n)\n)\n"; writes = "(refused 3 2)\n" } ∷
    record { text = "(module 0\n(line 10\n(goto 99999)\n)\n)\n"; writes = "(refused 3 2)\n" } ∷
    record { text = "(module 0\n(line 10\n(goto 100000)\n)\n)\n"; writes = "(refused 3 2)\n" } ∷
    record { text = "(module 0\n(line 10\n(run 007)\n)\n)\n"; writes = "(refused 3 2)\n" } ∷
    record { text = "(module 0\n(line 10\n(goto 18446744073709551616)\n)\n)\n"; writes = "(refused 3 2)\n" } ∷
    record { text = "(module 0\n(line 10\n(goto 4294967297)\n)\n)\n"; writes = "(refused 3 2)\n" } ∷
    record { text = "(module 0\n(line 10\n(gosub 01)\n)\n)\n"; writes = "(refused 3 2)\n" } ∷
    record { text = "(module 0\n(line 10\n(ongoto 1 2 03)\n)\n)\n"; writes = "(refused 3 2)\n" } ∷
    record { text = "(module 0\n(line 10\n(ongosub 65536)\n)\n)\n"; writes = "(refused 3 2)\n" } ∷
    record { text = "(module 0\n(line 10\n(goto 1x)\n)\n)\n"; writes = "(refused 2 2)\n" } ∷
    record { text = "(module 0\n(line 10\n(goto A)\n)\n)\n"; writes = "(refused 2 2)\n" } ∷
    record { text = "(module 0\n(line 10\n(goto *)\n)\n)\n"; writes = "(refused 2 2)\n" } ∷
    record { text = "(module 0\n(line 10\n(goto -1)\n)\n)\n"; writes = "(refused 2 2)\n" } ∷
    record { text = "(module 0\n(line 10\n(goto)\n)\n)\n"; writes = "(refused 2 2)\n" } ∷
    record { text = "(module 0\n(line 10\n(goto )\n)\n)\n"; writes = "(refused 2 2)\n" } ∷
    record { text = "(module 0\n(line 10\n(goto  1)\n)\n)\n"; writes = "(refused 2 2)\n" } ∷
    record { text = "(module 0\n(line 10\n(goto 1 )\n)\n)\n"; writes = "(refused 2 2)\n" } ∷
    record { text = "(module 0\n(line 10\n(goto 1 2)\n)\n)\n"; writes = "(refused 2 2)\n" } ∷
    record { text = "(module 0\n(line 10\n(goto +1)\n)\n)\n"; writes = "(refused 2 2)\n" } ∷
    record { text = "(module 0\n(line 10\n(goto 1.0)\n)\n)\n"; writes = "(refused 2 2)\n" } ∷
    record { text = "(module 0\n(line 10\n( goto 1)\n)\n)\n"; writes = "(refused 2 2)\n" } ∷
    record { text = "(module 0\n(line 10\n (goto 1)\n)\n)\n"; writes = "(refused 2 2)\n" } ∷
    record { text = "(module 0\n(line 10\n(goto 1) \n)\n)\n"; writes = "(refused 2 2)\n" } ∷
    record { text = "(module 0\n(line 10\n(goto 1))\n)\n)\n"; writes = "(refused 2 2)\n" } ∷
    record { text = "(module 0\n(line 10\n((goto 1)\n)\n)\n"; writes = "(refused 2 2)\n" } ∷
    record { text = "(module 0\n(line 10\n(goto (1)\n)\n)\n"; writes = "(refused 2 2)\n" } ∷
    record { text = "(module 0\n(line 10\ngoto 1\n)\n)\n"; writes = "(refused 2 2)\n" } ∷
    record { text = "(module 0\n(line 10\n(goto 1\n)\n)\n"; writes = "(refused 2 2)\n" } ∷
    record { text = "(module 0\n(line 10\n\n)\n)\n"; writes = "(refused 2 2)\n" } ∷
    record { text = "(module 0\n(line 10\n()\n)\n)\n"; writes = "(refused 2 2)\n" } ∷
    record { text = "(module 0\n(line 10\n(\n)\n)\n"; writes = "(refused 2 2)\n" } ∷
    record { text = "(module 0\n(line 10\n(GOTO 1)\n)\n)\n"; writes = "(refused 2 2)\n" } ∷
    record { text = "(module 0\n(line 10\n(got 1)\n)\n)\n"; writes = "(refused 2 2)\n" } ∷
    record { text = "(module 0\n(line 10\n(gotoo 1)\n)\n)\n"; writes = "(refused 2 2)\n" } ∷
    record { text = "(module 0\n(line 10\n(goto 0)\n)\n)\n"; writes = "(graph 0 1\n(node 0 10 0 (0) (in) (succ) (pred))\n(entry 10 0)\n(returns)\n)\n" } ∷
    record { text = "(module 0\n(line 10\n(goto 65535)\n)\n)\n"; writes = "(graph 0 1\n(node 0 10 0 (0) (in) (succ) (pred))\n(entry 10 0)\n(returns)\n)\n" } ∷
    record { text = "(module 0\n(line 10\n(gosub 10)\n)\n)\n"; writes = "(graph 0 1\n(node 0 10 0 (0) (in) (succ 0) (pred 0))\n(entry 10 0)\n(returns)\n)\n" } ∷
    record { text = "(module 0\n(line 10\n(run)\n)\n)\n"; writes = "(graph 0 1\n(node 0 10 0 (0) (in) (succ 0) (pred 0))\n(entry 10 0)\n(returns)\n)\n" } ∷
    record { text = "(module 0\n(line 10\n(run 0)\n)\n)\n"; writes = "(graph 0 1\n(node 0 10 0 (0) (in) (succ) (pred))\n(entry 10 0)\n(returns)\n)\n" } ∷
    record { text = "(module 0\n(line 10\n(ongoto 1)\n)\n)\n"; writes = "(graph 0 1\n(node 0 10 0 (0) (in) (succ) (pred))\n(entry 10 0)\n(returns)\n)\n" } ∷
    record { text = "(module 0\n(line 10\n(ongosub 1 1 1)\n)\n)\n"; writes = "(graph 0 1\n(node 0 10 0 (0) (in) (succ) (pred))\n(entry 10 0)\n(returns)\n)\n" } ∷
    record { text = "(module 0\n(line 10\n(goto I)\n)\n)\n"; writes = "(refused 2 2)\n" } ∷
    record { text = "(module 0\n(line 10\n(ongoto 1 I)\n)\n)\n"; writes = "(refused 2 2)\n" } ∷
    record { text = "(module 0\n(line 10\n(run I)\n)\n)\n"; writes = "(refused 2 2)\n" } ∷
    record { text = "(module 0\n(line 10\n(for static)\n)\n)\n"; writes = "(refused 2 2)\n" } ∷
    record { text = "(module 0\n(line 10\n(for A)\n)\n)\n"; writes = "(refused 2 2)\n" } ∷
    record { text = "(module 0\n(line 10\n(for 1 static)\n)\n)\n"; writes = "(refused 3 2)\n" } ∷
    record { text = "(module 0\n(line 10\n(for * static)\n)\n)\n"; writes = "(refused 3 2)\n" } ∷
    []

right-table : T (right table)
unfolding opened right table
right-table = tt
