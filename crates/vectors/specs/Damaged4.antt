-- Damaged texts with the refusals of a second reading of document 01. Assumes nothing.
use Rattle.std.specs.Prelude.{List, [], ◌∷◌, true, false, T}
use Rattle.vectors.specs.Vector.{Vector, right, opened}

table : List Vector
table =
    record { text = "(module 0\n(line 0\n(rcomp\n(stmts\n(ifelse\n(stmts\n(rcomp\n(stmts\n(rcomp\n(stmts\n(ifelse\n(stmts\n(rcomp\n(stmts\n(ifelse\n(to 10)\n(stmts\n(rcomp\n(stmts\n(if\n(stmts\n(rcomp\n(stmts\n(ifelse\n(stmts\n(rcomp\n(to 10)\n(stmts\n(rcomp\n(stmts\n(rcomp\n(stmts\n)\n(stmts\n(if\n(stmts\n(rcomp\n(to 10)\n(stmts\n(ifelse\n(stmts\n(until)\n(endloop)\n)\n)\n(stmts\n)\n)\n)\n)\n)\n)\n)\n)\n)\n)\n)\n)\n(stmts\n)\n)\n)\n)\n)\n)\n)\n)\n)\n)\n)\n)\n)\n(to 10)\n)\n)\n)\n)\n)\n)\n(to 10)\n)\n)\n)\n)\n(line 30\n(exit)\n)\n(line 40\n(repeat)\n)\n(line 50\n(exitif)\n(repeat)\n)\n(line 999\n(else)\n(exit)\n(loop)\n(exit)\n(return)\n)\n(line 65535\n(gosub 999)\n)\n)\n"; writes = "(refused 7 41)\n" } ∷
    record { text = "(module 1\n(line 20\n(any)\n)\n(line 65535\n(for LOOPVAR1$ dispatched)\n(return)\n(done)\n(for LOOPVAR1$ static)\n(next plain LOOPVAR1$)\n(for LOOPVAR1$ static)\n(for LOOPVAR1$ dispatched)\n)\n(line 65535\n(ongosub 30 30 65535 20)\n(ongosub)\n(ongoto 9 9 9 9 9 9 9 9 9 9 9 9 9 9 9 9 9 9 9 9 9 9 9 9 9 9 9 9 9 9 9 9 9 9 9 9 9 9 9 9 9 9 9 9 9 9 9 9 9 9 9 9 9 9 9 9 9 9 9 9 9 9 9 9)\n)\n)\n"; writes = "(refused 4 13)\n" } ∷
    record { text = "(module 1\n(line 30\n(return)\n(ongosub 30 30 1 1)\n(goto 1)\n(next orphan *)\n(repeat)\n(any)\n)\n(line 30\n(for J% dispatched)\n)\n)\n"; writes = "(refused 4 9)\n" } ∷
    record { text = "(module 0\n(line 65534\n(if\n(stmts\n(return)\n(next plain CO)\n)\n)\n(next plain COUNT)\n(for COUNT dispatched)\n(for COUNTERS static)\n(next plain * * * * * * * * * * * * * * * * * * * * * * * * * * * * * * * * * * * * * * * * * * * * * * * * * * * * * * * * * * * * * * * * *)\n)\n)\n"; writes = "(refused 8 11)\n" } ∷
    record { text = "(module 0\n(line 6553\n(for A$ static)\n(next plain A$)\n(done)\n(next plain I I I I I I I I I I I I I I I I I I I I I I I I I I I I I I I I I I I I I I I I I I I I I I I I I I I I I I I I I I I I I I I I I)\n)\n)\n"; writes = "(refused 8 5)\n" } ∷
    record { text = "(module 0\n(line 999\n(done)\n(run)\n(gosub 999)\n(if\n(stmts\n(run)\n)\n)\n(goto 65536)\n(done)\n(for A1B2% static)\n(if\n(stmts\n)\n)\n)\n)\n"; writes = "(refused 3 10)\n" } ∷
    record { text = "(module 0\n(line 010\n(rcomp\n(stmts\n(if\n(stmts\n(rcomp\n(stmts\n)\n(stmts\n(rcomp\n(stmts\n(rcomp\n(to 10)\n(stmts\n(ifelse\n(stmts\n)\n(stmts\n(if\n(stmts\n(ifelse\n(stmts\n(ifelse\n(stmts\n)\n(stmts\n(rcomp\n(stmts\n(ifelse\n(stmts\n)\n(stmts\n(ifelse\n(stmts\n(ifelse\n(to 10)\n(stmts\n(ifelse\n(to 10)\n(stmts\n(ifelse\n(to 10)\n(stmts\n(rcomp\n(to 10)\n(stmts\n(ifelse\n(to 10)\n(stmts\n(if\n(to 999)\n)\n)\n)\n)\n)\n)\n)\n)\n)\n)\n)\n)\n(to 10)\n)\n)\n)\n)\n)\n)\n)\n)\n(to 10)\n)\n)\n)\n)\n)\n)\n)\n)\n)\n)\n)\n)\n)\n)\n)\n)\n)\n"; writes = "(refused 3 1)\n" } ∷
    record { text = "(module 1\n(line 1\n(plain)\n(for LOOPVAR1 static)\n(next plain LOOPVAR1)\n)\n(line 1\n(ongoto)\n(return)\n)\n(line 5\n(plain)\n(ongosub 0 5 5)\n)\n)\n"; writes = "(refused 4 6)\n" } ∷
    record { text = "(module 1\n(line 1\n(else)\n(exit)\n(any)\n)\n(line 20\n(next plain *)\n(else)\n(ongosub 0 0 0 0 0 0 0 0 0 0 0 0 0 0 0 0 0 0 0 0 0 0 0 0 0 0 0 0 0 0 0 0 0 0 0 0 0 0 0 0 0 0 0 0 0 0 0 0 0 0 0 0 0 0 0 0 0 0 0 0 0 0 0 0 0)\n)\n(line line 65534\n(for COUNTER static)\n(done)\n)\n)\n"; writes = "(refused 8 9)\n" } ∷
    record { text = "(module 1\n(line 65536\n(for A1B2C3D4 static)\n(rcomp\n(stmts\n(gosub 40)\n)\n)\n(next plain A1B2C3D4)\n(any)\n)\n(line 40\n)\n)\n"; writes = "(refused 3 1)\n" } ∷
    record { text = "(module 0\n(line 30\n(ongoto 30 100 30 30)\n(stop)\n(ongosub 0 0 0 0 0 0 0 0 0 0 0 0 0 0 0 0 0 0 0 0 0 0 0 0 0 0 0 0 0 0 0 0 0 0 0 0 0 0 0 0 0 0 0 0 0 0 0 0 0 0 0 0 0 0 0 0 0 0 0 0 0 0 0 0 0)\n)\n)\n"; writes = "(refused 8 4)\n" } ∷
    record { text = "(module 1\n(line 10\n(ifelse\n(to 10)\n(stmts\n(rcomp\n(stmts\n(ifelse\n(stmts\n(ifelse\n(stmts\n(if\n(stmts\n(ifelse\n(stmts\n(rcomp\n(stmts\n)\n(stmts\n(ifelse\n(to 10)\n(stmts\n(ifelse\n(to 10)\n(stmts\n(rcomp\n(stmts\n(ifelse\n(to 10)\n(stmts\n(rcomp\n(to 10)\n(stmts\n(if\n(stmts\n(ifelse\n(stmts\n(rcomp\n(to 10)\n(stmts\n(for N% static)\n)\n)\n)\n(to 10)\n)\n)\n)\n)\n)\n)\n)\n)\n)\n)\n)\n)\n)\n)\n)\n)\n(to 10)\n)\n)\n)\n)\n(to 10)\n)\n)\n(stmts\n)\n)\n)\n)\n)\n)\n)\n(line 40\n)\n(line 50\n(next orphan N%)\n(rcomp\n(stmts\n(next plain *)\n(until)\n(plain)\n)\n(to 65535)\n)\n)\n(line 010\n)\n)\n"; writes = "(refused 3 90)\n" } ∷
    record { text = "(module 1\n(line 20\n(ifelse\n(stmts\n(next orphan *)\n)\n(stmts\n(repeat)\n(gosub 20)\n(exit)\n)\n)\n(for A$ static)\n(for A1B2% dispatched)\n(return)\n(ongosub 9 9 9 9 9 9 9 9 9 9 9 9 9 9 9 9 9 9 9 9 9 9 9 9 9 9 9 9 9 9 9 9 9 9 9 9 9 9 9 9 9 9 9 9 9 9 9 9 9 9 9 9 9 9 9 9 9 9 9 9 9 9 9 9 9)\n)\n(line 30\n(next orphan A1B2%)\n(ongosub 20 20)\n)\n(line 100\n(next plain *)\n(plain)\n)\n)\n"; writes = "(refused 8 15)\n" } ∷
    record { text = "(module 0\n(line 0\n(next plain NOTE%)\n(any)\n(else)\n)\n(line 20\n(rcomp\n(stmts\n)\n(stmts\n(ifelse\n(stmts\n(if\n(stmts\n(ifelse\n(stmts\n)\n(stmts\n(rcomp\n(to 10)\n(stmts\n(rcomp\n(stmts\n)\n(stmts\n(rcomp\n(stmts\n(if\n(stmts\n(rcomp\n(to 10)\n(stmts\n(ifelse\n(stmts\n)\n(stmts\n(rcomp\n(stmts\n)\n(stmts\n(rcomp\n(stmts\n(if\n(stmts\n(rcomp\n(stmts\n(if\n(stmts\n(if\n(stmts\n(ifelse\n(stmts\n(if\n(stmts\n)\n)\n(plain)\n(for NO% static)\n)\n(stmts\n)\n)\n)\n)\n)\n)\n)\n)\n)\n)\n)\n)\n)\n)\n)\n)\n)\n)\n)\n)\n)\n)\n)\n)\n)\n)\n)\n)\n)\n)\n)\n(to 10)\n)\n)\n)\n)\n(line 40\n)\n)\n"; writes = "(refused 7 53)\n" } ∷
    record { text = "(module 0\n(line 40\n(return)\n)\n(line 50\n(next plain for)\n(ifelse\n(stmts\n(ifelse\n(to 50)\n(stmts\n(repeat)\n(run)\n(done)\n)\n)\n(for J dispatched)\n(until)\n)\n(stmts\n)\n)\n(gosub 40)\n)\n(line 100\n(for J static)\n)\n)\n"; writes = "(refused 3 5)\n" } ∷
    record { text = "(module 0\n(line 1\n(gosub 10)\n(gosub 40)\n)\n(line 10\n(gosub 40)\n(return)\n(next plain N%)\n(ongoto 100 65534)\n)\n(line 40\n(return)\n(gosub 10)\n(return)\n)\n(line 1\n(for N% static)\n)\n(line 1\n(ifelse\n(stmts\n(for J dispatched)\n(until)\n)\n(to 0)\n)\n)\n)\n"; writes = "(refused 4 16)\n" } ∷
    record { text = "(module 1\n(line 1\n(else)\n(next orphan COUNT)\n(next orphan * COUNTER% C% CO static)\n(for COUNT dispatched)\n(next plain *)\n(for CO1 framed)\n(for COUNT dispatched)\n(any)\n)\n)\n"; writes = "(refused 3 4)\n" } ∷
    record { text = "(module 1\n(line 20\n(doif)\n(for AB% dispatched)\n(ongosub 65534 65534 100 30)\n(ongosub 30 65534)\n(any)\n)\n(line 20\n(ongosub)\n(if\n(stmts\n(gosub 20)\n(return)\n(gosub 20)\n)\n)\n(gosub 30)\n)\n(line 100\n)\n(line 65534\n)\n"; writes = "(refused 4 8)\n" } ∷
    record { text = "(module 0\n(line 65534\n(next plain * -1)\n(for K static)\n)\n)\n"; writes = "(refused 3 2)\n" } ∷
    record { text = "(module 1\n(line 10\n(next plain J)\n(for J static)\n(until)\n)\n(line 50\n(for J dispatched)\n(next plain * I% I% *)\n(for J dispatched)\n(until)\n)\n(line 100\n(next plain I%)\n)\n(line 010\n(plain)\n)\n)\n"; writes = "(refused 3 15)\n" } ∷
    record { text = "(module 0\n(line 65535\n(gosub 65535)\n(ongoto 65535 65535)\n(gosub 65535)\n(if\n(stmts\n(loop)\n)\n)\n(return)\n(return)\n(return)\n(next plain I I I I I I I I I I I I I I I I I I I I I I I I I I*I I I I I I I I I I I I I I I I I I I I I I I I I I I I I I I I I I I I I I I)\n)\n)\n"; writes = "(refused 3 13)\n" } ∷
    record { text = "(module 0\n(line 0\n(endloop)\n(repeat)\n(gosub 0)\n(gosub 0)\n(return)\n)\n(line 30\n(exit)\n(endloop)\n(run)\n(run 30)\n(else)\n(next plain I I I I I I I I I I I I I I I I I I I I I I I I I I I I I I I I I I I I I I I I I I I I I I I I I I I I I I I I I I I I I I I I I)\n)\n(line stmts\n)\n)\n"; writes = "(refused 8 14)\n" } ∷
    record { text = "(module 0\n(line 20\n(gosub 65535)\n(next plain I I I I I I I I I I I I I I I I I I I I I I I I I I I I I I I I I I I I I I I I I I I I I I I I I I I I I I I I I I I I I I I I I)\n)\n(line 40\n(else)\n(return)\n(plain)\n(else)\n)\n(line 65536\n)\n(line 65535\n(else)\n(stop)\n)\n)\n"; writes = "(refused 8 3)\n" } ∷
    record { text = "(module 0\n(line 5\n(ongosub 65534 65535 5)\n)\n(line 100\n(done)\n(next plain * * * * * * * * * * * * * * * * * * * * * * * * * * * * * * * * * * * * * * * * * * * * * * * * * * * * * * * * * * * * * * * * *)\n)\n(line 65534\n)\n(line 65535\n(else)\n(doif)\n(plain)\n(doif)\n(done)\n(done)\n(next plain COUNT)\n(doif)\n(for COUNTER static)\n)\n)\n"; writes = "(refused 8 6)\n" } ∷
    record { text = "(module 0\n(line 0\n(ifelse\n(stmts\n(ifelse\n(stmts\n(rcomp\n(stmts\n)\n(stmts\n(ifelse\n(to 10)\n(stmts\n(rcomp\n(stmts\n(ifelse\n(to 10)\n(stmts\n(rcomp\n(stmts\n)\n(stmts\n(if\n(stmts\n(rcomp\n(stmts\n)\n(stmts\n(ifelse\n(stmts\n(rcomp\n(stmts\n(if\n(stmts\n(ifelse\n(stmts\n)\n(stmts\n(ifelse\n(stmts\n(repeat)\n(next plain *)\n)\n(stmts\n)\n)\n)\n)\n)\n)\n)\n)\n)\n(stmts\n)\n)\n)\n)\n)\n)\n)\n)\n)\n)\n)\n)\n)\n)\n)\n)\n)\n(to 10)\n)\n)\n(stmts\n)\n)\n)\n(line 20\n(plain)\n)\n(line 40\n(else)\n)\n(line 1\n(stop)\n(return)\n(ongosub 50 50)\n(gosub 50)\n)\n(line 999\n(done)\n(plain)\n(until)\n(exitif)\n(for K static)\n)\n)\n"; writes = "(refused 4 84)\n" } ∷
    record { text = "(module 0\n(line 0\n(return)\n(gosub 0)\n(return)\n(next plain * * * * * * * * * * * * * * * * * * * * * * * * * * * * * * * * * * * * * * * * * * * * * * * * * * * * * * * * * * * * * * * * *)\n(exit)\n(return)\n(return)\n(gosub 0)\n(repeat)\n)\n)\n"; writes = "(refused 8 5)\n" } ∷
    record { text = "(module 0\n(line 999\n(else)\n(next plain I I I I I I I I I I I I I I I I I I I I I I I I I I I I I I I I I I I I I I I I I I I I I I I I I I I I I I I I I I I I I I I I I)\n)\n(line 999\n(plain)\n(plain)\n(else)\n)\n)\n"; writes = "(refused 8 3)\n" } ∷
    record { text = "(module 1\n(line 20\n(until)\n)\n(line 30\n)\n(line 20\n(if\n(to 20)\n\n(run 20 0)\n(any)\n)\n)\n"; writes = "(refused 4 6)\n" } ∷
    record { text = "(module 1\n(line 0\n(stop)\n(doif)\n(exit)\n(else)\n)\n(line 10\n(ifelse\n(stmts\n)\n(to 100)\n)\n(any)\n(ongoto 9 9 9 9 9 9 9 9 9 9 9 9 9 9 9 9 9 9 9 9 9 9 9 9 9 9 9 9 9 9 9 9 9 9 9 9 9 9 9 9 9 9 9 9 9 9 9 9 9 9 9 9 9 9 9 9 9 9 9 9 9 9 9 9 9)\n)\n(line 100\n(else)\n(repeat)\n(done)\n(until)\n)\n(line 65534\n)\n)\n"; writes = "(refused 8 14)\n" } ∷
    record { text = "(module 0\n(line 5\n(stop)\n(run)\n(goto 5)\n(ongoto)\n)\n(line 30\n(clr)\n(any)\n)\n(line 1\n)\n)\n"; writes = "(refused 4 11)\n" } ∷
    record { text = "(module 1\n(line 20\n(gosub 20)\n(ongosub 20 20 20 20)\n(gosub 20)\n(gosub 20)\n(return)\n(gosub 20)\n(gosub 20)\n(gosub 20)\n(return)\n(any)\n(next plain * * * * * * * * * * * * * * * * * * * * * * * * * * * * * * * * * * * * * * * * * * * * * * * * * * * * * * * * * * * * * * * * *)\n)\n)\n"; writes = "(refused 8 12)\n" } ∷
    record { text = "(module 0\n(line 30\n(ifelse\n(stmts\n)\n(stmts\n(ifelse\n(to 10)\n(stmts\n(ifelse\n(stmts\n(ifelse\n(stmts\n(ifelse\n(stmts\n(if\n(stmts\n(ifelse\n(stmts\n(ifelse\n(stmts\n(rcomp\n(stmts\n(rcomp\n(to 10)\n(stmts\n(if\n(stmts\n(ifelse\n(to 10)\n(stmts\n(rcomp\n(to 10)\n(stmts\n(ifelse\n(stmts\n(if\n(stmts\n(rcomp\n(to 10)\n(stmts\n(ifelse\n(stmts\n(for AB% static)\n(for AB% dispatched)\n(plain)\n(for AB% framed)\n(return)\n)\n(stmts\n)\n)\n)\n)\n)\n)\n)\n(stmts\n)\n)\n)\n)\n\n)\n)\n)\n)\n)\n)\n)\n)\n(stmts\n)\n)\n)\n(to 10)\n)\n)\n)\n)\n(stmts\n)\n)\n)\n(stmts\n)\n)\n)\n(stmts\n)\n)\n)\n)\n)\n)\n)\n(line 65534\n(next plain * ABCDEFGH% AB% ABCDEFGH%)\n(gosub 30)\n(next plain ABCDEFGH%)\n)\n)\n"; writes = "(refused 7 43)\n" } ∷
    record { text = "(module 0\n(line 0\n(ifelse\n(stmts\n)\n(stmts\n(ifelse\n(stmts\n)\n(stmts\n(rcomp\n(stmts\n(if\n(stmts\n(if\n(stmts\n(if\n(stmts\n(rcomp\n(stmts\n(rcomp\n(to 10)\n(stmts\n(ifelse\n(to 10)\n(stmts\n(rcomp\n(stmts\n(ifelse\n(stmts\n(ifelse\n(stmts\n(if\n(stmts\n(ifelse\n(stmts\n(rcomp\n(stmts\n(ifelse\n(to 10)\n(stmts\n(ifelse\n(stmts\n)\n(stmts\n(gosub 20)\n)\n)\n)\n)\n)\n)\n)\n(stmts\n)\n)\n)\n)\n)\n(to 10)\n)\n)\n(stmts\n)\n)\n)\n)\n)\n)\n)\n)\n)\n)\n)\n)\n)\n)\n)\n)\n)\n)\n)\n)\n)\n)\n)\n(line 1\n(exitif)\n)\n(line 5\n)\n(line 20\n(clr)\n(if\n(to 1)\n)\n(gosub 20)\n(goto 5)\n(if\n(stmts\n(goto 30)\n(goto 1)\n)\n)\n(loop)\n(return)\n)\n(line 30\n)\n)\n"; writes = "(refused 7 45)\n" } ∷
    record { text = "(module 1\n(line 0\n(rcomp\n(to 10)\n(stmts\n(ifelse\n(to 10)\n(stmts\n(rcomp\n(stmts\n)\n(stmts\n(ifelse\n(stmts\n(if\n(stmts\n(rcomp\n(to 10)\n(stmts\n(rcomp\n(stmts\n(ifelse\n(stmts\n(ifelse\n(stmts\n(ifelse\n(stmts\n(ifelse\n(stmts\n(rcomp\n(stmts\n(if\n(stmts\n(rcomp\n(stmts\n(if\n(stmts\n(rcomp\n(stmts\n(ifelse\n(stmts\n)\n(stmts\n(repeat)\n(any)\n)\n)\n)\n)\n)\n)\n)\n)\n)\n)\n)\n)\n)\n(stmts\n)\n)\n)\n(stmts\n)\n)\n)\n(to 10)\n)\n)\n(to 10)\n)\n)\n)\n)\n(A B)\n)\n)\n)\n(stmts\n)\n)\n)\n)\n)\n)\n)\n)\n)\n(line 65535\n(run 999)\n(goto 999)\n)\n(line 30\n(done)\n)\n(line 999\n(repeat)\n(done)\n(exitif)\n(if\n(stmts\n(if\n(stmts\n)\n)\n)\n)\n)\n(line 65535\n)\n)\n"; writes = "(refused 7 43)\n" } ∷
    record { text = "(module 0\n(line 5\n(rcomp\n(stmts\n)\n(stmts\n(ifelse\n(stmts\n(ifelse\n(stmts\n(ifelse\n(stmts\n(rcomp\n(stmts\n(if\n(stmts\n(if\n(stmts\n(rcomp\n(stmts\n(if\n(stmts\n(rcomp\n(stmts\n(if\n(stmts\n(if\n(stmts\n(ifelse\n(stmts\n(if\n(stmts\n(rcomp\n(stmts\n(ifelse\n(stmts\n)\n(stmts\n(gosub 5)\n(clr)\n(else)\n(if\n(stmts\n(ongoto 5 5)\n(exit)\n(if\n(stmts\n)\n)\n)\n)\n(if\n(stmts\n(loop)\n(rcomp\n)\n)\n(return)\n)\n)\n)\n)\n)\n)\n)\n(to 10)\n)\n)\n)\n)\n)\n)\n)\n)\n)\n)\n)\n)\n)\n)\n)\n)\n)\n)\n(to 10)\n)\n)\n(to 10)\n)\n)\n(stmts\n)\n)\n)\n)\n)\n)\n"; writes = "(refused 7 43)\n" } ∷
    record { text = "(module 1\n(line 1\n(next orphan)\n(next plain Z9Z%)\n)\n(line 5\n(rcomp\n(stmts\n(rcomp\n(stmts\n)\n(stmts\n(ifelse\n(to 10)\n(stmts\n(ifelse\n(stmts\n(rcomp\n(to 10)\n(stmts\n(rcomp\n(to 10)\n(stmts\n(if\n(stmts\n(ifelse\n(stmts\n(rcomp\n(to 10)\n(stmts\n(if\n(stmts\n(if\n(stmts\n(ifelse\n(stmts\n)\n(stmts\n(rcomp\n(stmts\n(ifelse\n(stmts\n)\n(stmts\n(if\n(stmts\n(ifelse\n(stmts\n)\n(stmts\n(ifelse\n(stmts\n(endloop)\n(for A static)\n)\n(to 10)\n)\n)\n)\n)\n)\n)\n)\n)\n)\n)\n)\n)\n)\n)\n)\n)\n)\n)\n(stmts\n)\n)\n)\n)\n)\n)\n)\n)\n)\n(stmts\n)\n)\n)\n)\n)\n)\n)\n)\n)\n(line 50\n)\n(line 999\n(next orphan A A2B2 A *)\n(next orphan)\n(next plain A2B2)\n(any)\n)\n)\n"; writes = "(refused 7 52)\n" } ∷
    record { text = "(module 1\n(line 5\n(rcomp\n(to 10)\n(stmts\n(if\n(stmts\n(rcomp\n(to 10)\n(stmts\n(rcomp\n(stmts\n)\n(stmts\n(ifelse\n(stmts\n)\n(stmts\n(ifelse\n(to 10)\n(stmts\n(ifelse\n(stmts\n)\n(stmts\n(if\n(stmts\n(ifelse\n(to 10)\n(stmts\n(rcomp\n(stmts\n)\n(stmts\n(ifelse\n(stmts\n(if\n(stmts\n(rcomp\n(stmts\n(if\n(stmts\n(ifelse\n(stmts\n(rcomp\n(stmts\n(rcomp\n(stmts\n(next plain *)\n)\n)\n)\n)\n)\n(stmts\n)\n)\n)\n)\n)\n)\n)\n)\n)\n(stmts\n)\n)\n)\n)\n)\n)\n)\n)\n)\n)\n)\n)\n)\n)\n)\n)\n)\n)\n)\n)\n)\n)\n)\n(line 10\n(next plain LOOPVAR1 J *)\n(for J static)\n(for A2B2 dispatched)\n(gosub 5)\n(for J dispatched)\n)\n(line 20\n(for A2B2 dispatched)\n(any)\n(clr)\n)\n(line 50\n(next orphan *)\n)\n)\n"; writes = "(refused 7 48)\n" } ∷
    record { text = "(module 0\n(line 30\n(return)\n(ongosub)\n)\n(line 40\n(ifelse\n(stmts\n(if\n(stmts\n(ifelse\n(stmts\n(if\n(stmts\n(if\n(stmts\n(rcomp\n(stmts\n)\n(stmts\n(rcomp\n(stmts\n(rcomp\n(stmts\n)\n(stmts\n(rcomp\n(to 10)\n(stmts\n(rcomp\n(stmts\n)\n(stmts\n(rcomp\n(stmts\n(rcomp\n(stmts\n)\n(stmts\n(if\n(stmts\n(ifelse\n(stmts\n(ifelse\n(stmts\n(ifelse\n(stmts\n(ifelse\n(to 10)\n(stmts\n(gosub 30)\n(stop)\n)\n)\n)\n(stmts\n)\n)\n)\n(stmts\n)\n)\n)\n(to 10)\n)\n)\n)\n)\n)\n)\n)\n)\n)\n)\n)\n)\n)\n)\n)\n)\n)\n)\n)\n)\n)\n)\n(stmts\n)\n)\n)\n)\n)\n(stmts\n)\n)\n)\n(line 65535\n(any)\n(loop)\n(ongoto 40)\n(ext)\n(to)\n)\n(line 7\n)\n"; writes = "(refused 7 50)\n" } ∷
    []

right-table : T (right table)
unfolding opened right table
right-table = tt
