-- Damaged texts with the refusals of a second reading of document 01. Assumes nothing.
use Rattle.std.specs.Prelude.{List, [], ◌∷◌, true, false, T}
use Rattle.vectors.specs.Vector.{Vector, right, opened}

table : List Vector
table =
    record { text = "(module 1\n(line 0\n(return)\n(gosub 20)\n)\n(line 20\n(ongosub)\n(for COUNT dispatched)\n(next plain * * * * * * * * * * * * * * * * * * * * * * * * * * * * * * * * * * * * * * * * * * * * * * * * * * * * * * * * * * * * * * * * *)\n)\n(line 65535\n(next orphan COUNTER)\n(any)\n)\n(line 65535\n(ongosub 0 0)\n(gosub 0 )\n(return)\n)\n"; writes = "(refused 8 8)\n" } ∷
    record { text = "(module 1\n(line 18446744073709551616\n(ongoto)\n)\n(line 30\n)\n(line 40\n(plain)\n)\n(line 65535\n(ifelse\n(stmts\n(doif)\n)\n(stmts\n(exitif)\n)\n)\n(gosub 40)\n(next plain *)\n(next plain * ABCDEFGH%)\n(endloop)\n(done)\n)\n)\n"; writes = "(refused 3 1)\n" } ∷
    record { text = "(module 0\n(line 20\n(if\n(stmts\n)\n)\n(ongoto 9 9 9 9 9 9 9 9 9 9 9 9 9 9 9 9 9 9 9 9 9 9 9 9 9 9 9 9 9 9 9 9 9 9 9 9 9 9 9 9 9 9 9 9 9 9 9 9 9 9 9 9 9 9 9 9 9 9 9 9 9 9 9 9 9)\n)\n)\n"; writes = "(refused 8 6)\n" } ∷
    record { text = "(module 1\n(line 20\n(for J framed)\n)\n(line 30\n(for COUNTER dispatched)\n(return)\n)\n(line 9\n)\n(line 999\n(rcomp\n(stmts\n(next plain COUNTER)\n)\n)\n(exit)\n(gosub 30)\n(next plain)\n)\n(line 65534\n(goto 20)\n)\n(line 65535\n(ongosub 30 30)\n(for COUNTER dispatched)\n(plain)\n)\n)\n"; writes = "(refused 4 8)\n" } ∷
    record { text = "(module 0\n(line 1\n(next plain I I I I I I I I I I I I I I I I I exit I I I I I I I I I I I I I I I I I I I I I I I I I I I I I I I I I I I I I I I I I I I I I I I I)\n)\n(line 5\n(for COUNTER framed)\n(for LO framed)\n(for LO static)\n(for COUNT static)\n(for COUNT static)\n)\n)\n"; writes = "(refused 3 2)\n" } ∷
    record { text = "(module 0\n(line 10\n(next plain * * * * * * * * * * * : * * * * * * * * * * * * * * * * * * * * * * * * * * * * * * * * * * * * * * * * * * * * * * * * * * * *)\n(I%$)\n(line 30\n(loop)\n(repeat)\n(loop)\n(repeat)\n(repeat)\n(to 65536)\n(exitif)\n(exitif)\n)\n(line 65534\n(until)\n(repeat)\n(repeat)\n(exitif)\n(for ABCDEFGH dispatched)\n)\n)\n"; writes = "(refused 3 2)\n" } ∷
    record { text = "(module 0\n(line 100\n(gosub 65535)\n(ongosub 0 0 0 0 0 0 0 0 0 0 0 0 0 0 0 0 0 0 0 0 0 0 0 0 0 0 0 0 0 0 0 0 0 0 0 0 0 0 0 0 0 0 0 0 0 0 0 0 0 0 0 0 0 0 0 0 0 0 0 0 0 0 0 0 0)\n)\n(line 65535\n(next x1 Z99%)\n)\n)\n"; writes = "(refused 8 3)\n" } ∷
    record { text = "(module 0\n(line 0\n)\n(line 10\n(plain)\n(plain)\n(ongosub 30 30)\n)\n(line 50\n(if\n(stmts\n(ifelse\n(to 0)\n(stmts\n(for L framed)\n(return)\n)\n)\n(gosub 5)\n(return)\n)\n)\n(plain)\n(if\n(stmts\n(until)\n)\n)\n(return)\n)\n(line 50\n)\n(line 100\n)\n(line 65535\n)\n)\n"; writes = "(refused 4 30)\n" } ∷
    record { text = "(module 1\n(line 0\n(rcomp\n(stmts\n(rcomp\n(stmts\n(rcomp\n(stmts\n(rcomp\n(stmts\n)\n(stmts\n(ifelse\n(stmts\n(rcomp\n(stmts\n)\n(stmts\n(ifelse\n(stmts\n(rcomp\n(to 10)\n(stmts\n(ifelse\n(to 10)\n(stmts\n(ifelse\n(stmts\n(rcomp\n(stmts\n(ifelse\n(to 10)\n(stmts\n(ifelse\n(stmts\n)\n(stmts\n(if\n(stmts\n(ifelse\n(stmts\n(ifelse\n(stmts\n(ifelse\n(stmts\n(next orphan A1)\n(for A1B2 dispatched)\n(any)\n)\n(stmts\n)\n)\n)\n(stmts\n)\n)\n)\n(to 10)\n)\n)\n)\n)\n)\n)\n)\n)\n)\n)\n (to 10)\n)\n)\n)\n)\n)\n)\n(stmts\n)\n)\n)\n)\n)\n(to 10)\n)\n)\n)\n)\n)\n)\n)\n)\n)\n)\n)\n"; writes = "(refused 7 45)\n" } ∷
    record { text = "(module 1\n(line 5\n(ifelse\n(stmts\n(gosub 5)\n(return)\n)\n(stmts\n)\n)\n)\n(line 100\n(plain)\n(next plain I I I I I I I I I I I I I I I I I I I I I I I I I I I I I I I I I I I I I I I I I I I I I I I I I I I I I I I I I I I I I I I I I)\n)\n)\n"; writes = "(refused 8 13)\n" } ∷
    record { text = "(module 1\n(line 0\n(next plain X)\n(until)\n(for done static)\n(plain)\n)\n)\n)"; writes = "(refused 3 4)\n" } ∷
    record { text = "(module 1\n(line 10\n(gosub 999)\n)\n(line 30\n(next plain N NO% NO% *)\n(for NO% framed)\n)\n(line 40\n(next plain * NO% NO%)\n(for N dispatched)\n(for N dispatched)\n(plain)\n)\n(line 1\n(until)\n(next plain * NO%)\n)\n(line 999\n(gosub 999)\n(return)\n)\n)\n"; writes = "(refused 4 14)\n" } ∷
    record { text = "(module 1\n(line 0\n(any)\n)\n(line 20\n(run)\n(ongoto)\n(if\n(stmts\n(return)\n(return)\n)\n)\n)\n(line 20\n(goto 50)\n(clr)\n)\n(line 100\n(if\n(stmts\n)\n)\n)\n(line 999\n)\n)\n"; writes = "(refused 4 14)\n" } ∷
    record { text = "(module 0\n(line 65536\n(run)\n)\n(line 20\n(any)\n(next plain X)\n(clr)\n(ongoto 65535 65535 20)\n(ongoto 10 40 10 10)\n)\n(line 40\n(clr)\n(for X static)\n(ongoto 20 40 100 10)\n)\n(line 100\n(clr)\n(any)\n)\n(line 65535\n)\n)\n"; writes = "(refused 3 1)\n" } ∷
    record { text = "(module 0\n(line 30\n(gosub 65535)\n)\n(line 999\n(ongosub 0 0 0 0 0 0 0 0 0 0 0 0 0 0 0 0 0 0 0 0 0 0 0 0 0 0 0 0 0 0 0 0 0 0 0 0 0 0 0 0 0 0 0 0 0 0 0 0 0 0 0 0 0 0 0 0 0 0 0 0 0 0 0 0 0)\n)\n(line line 65535\n(ifelse\n(stmts\n)\n(stmts\n(return)\n)\n)\n(return)\n(return)\n)\n)\n"; writes = "(refused 8 5)\n" } ∷
    record { text = "(module 0\n(line 5\n(next plain *)\n(for 9A static)\n)\n)\n"; writes = "(refused 3 3)\n" } ∷
    record { text = "(module 1\n(line 999\n(run)\n(plain)\n(next plain * * * * * * * * * * * * * * * * * * * * * * * * * * * * * * * * * * * * * * * * * * * * * * * * * * * * * * * * * * * * * * * * *)\n)\n)\n"; writes = "(refused 8 4)\n" } ∷
    record { text = "(module 0\n(line 5\n)\n(line 999\n(done)\n(ongosub 9 9 9 9 9 9 9 9 9 9 9 9 9 9 9 9 9 9 9 9 9 9 9 9 9 9 9 9 9 9 9 9 8 9 9 9 9 9 9 9 9 9 9 9 9 9 9 9 9 9 9 9 9 9 9 9 9 9 9 9 9 9 9 9 9)\n)\n)\n"; writes = "(refused 8 5)\n" } ∷
    record { text = "(module 0\n(line 40\n(clr)\n(gosub 40)\n(goto 0)\n(clr)\n(doif)\n(doif)\n(doif)\n(loop)\n(ifelse\n(to 40)\n(to 40)\n)\n(any)\n(clr)\n(return)\n(next plain * * * * * * * * * * * * * * * * * * * * * * * * * * * * * * * * * * * * * * * * * * * * * * * * * * * * * * * * * * * * * * * * *)\n)\n)\n"; writes = "(refused 8 17)\n" } ∷
    record { text = "(module 1\n(line 30\n(ifelse\n(stmts\n)\n(stmts\n(ifelse\n(to 10)\n(stmts\n(ifelse\n(stmts\n(if\n(stmts\n(ifelse\n(stmts\n)\n(stmts\n(rcomp\n(to 10)\n(stmts\n(ifelse\n(stmts\n(rcomp\n(stmts\n(ifelse\n(to 10)\n(stmts\n(ifelse\n(stmts\n(rcomp\n(stmts\n)\n(stmts\n(if\n(stmts\n(ifelse\n(to 10)\n(stmts\n(if\n(stmts\n(rcomp\n(to 10)\n(stmts\n(ifelse\n(stmts\n(ifelse\n(stmts\n(next orphan *)\n(return)\n(plain)\n)\n(to 10)\n)\n)\n(to 10)\n)\n)\n)\n)\n)\n)\n)\n)\n)\n)\n)\n)\n(stmts\n)\n)\n)\n)\n)\n)\n)\n(to 10)\n)\n)\n)\n)\n)\n)\n)\n)\n(to 10)\n)\n)\n)\n)\n)\n)\n(line 65536\n)\n)\n"; writes = "(refused 7 47)\n" } ∷
    record { text = "(module 0\n(line 65535\n(for I% dispatched)\n(next orphan I%)\n(ongoto 40 5 1 40)\n(ongoto 40)\n(return)\n)\n(line 40\n)\n)\n"; writes = "(refused 4 8)\n" } ∷
    record { text = "(module 0\n(line 0\n(exitif)\n(for COUNTER static)\n(ongoto)\n)\n(line 5\n(next plain plain *)\n(for COUNTER framed)\n(return)\n)\n(line 10 10\n(if\n(to 999)\n)\n(next plain)\n)\n(line 999\n(gosub 5)\n)\n)\n"; writes = "(refused 3 7)\n" } ∷
    record { text = "(module 0\n(line 1\n(gosub 1)\n(if\n(to 1)\n)\n(next orphan a)\n(if\n(to 50)\n)\n(next plain *)\n(for CO static)\n(return)\n)\n)\n"; writes = "(refused 3 6)\n" } ∷
    record { text = "(module 1\n(line 40\n(ongoto 0 0 0 0 0 0 0 0 0 0 0 0 0 0 0 0 0 0 0 0 0 0 0 0 0 0 0 0 0 0 0 0 0 0 0 0 0 0 0 0 0 0 0 0 0 0 0 0 0 0 0 0 0 0 0 0 0 0 0 0 0 0 0 0 0)\n)\n(line 65534\n(plain)\n(for Z9$ framed)\n(done)\n(next plain *)\n(return)\n(gosub 65534)\n)\n(line 65535\n(for CO dispatched)\n(for COUNT dispatched)\n)\n"; writes = "(refused 8 2)\n" } ∷
    record { text = "(module 0\n(line 0\n(next plain CO2)\n(loop)\n(ongoto 0 65534 0 65534)\n(ongosub 9 9 9 9 9 9 9 9 9 9 9 9 9 9 9 9 9 9 9 9 9 9 9 9 9 9 9 9 9 9 9 9 9 9 9 9 9 9 9 9 9 9 9 9 9 9 9 9 9 9 9 9 9 9 9 9 9 9 9 9 9 9 9 9 9)\n)\n(line 65534\n(for CO1 static)\n)\n)\n(module 0\n)\n"; writes = "(refused 8 5)\n" } ∷
    record { text = "(module 1\n(line 1\n(next plain plain *)\n(ongosub 1 1)\n(for J static)\n(for N% dispatched)\n(next orphan *)\n(return)\n(plain)\n)\n)\n"; writes = "(refused 3 2)\n" } ∷
    record { text = "(module 0\n(line 0\n(rcomp\n(stmts\n)\n(stmts\n(rcomp\n(stmts\n)\n(stmts\n(ifelse\n(stmts\n(rcomp\n(stmts\n(rcomp\n(stmts\n(rcomp\n(to 10)\n(stmts\n(ifelse\n(stmts\n(if\n(stmts\n(rcomp\n(stmts\n)\n(stmts\n(ifelse\n(stmts\n(if\n(stmts\n(rcomp\n(stmts\n(ifelse\n(to 10)\n(stmts\n(if\n(stmts\n(if\n(stmts\n(if\n(stmts\n(if\n(stmts\n(clr)\n(exitif)\n(plain)\n(any)\n)\n)\n)\n)\n)\n)\n)\n)\n)\n)\n)\n)\n)\n)\n)\n(stmts\n)\n)\n)\n)\n)\n)\n)\n(stmts\n)\n)\n)\n)\n)\n)\n)\n)\n)\n(to 10)\n)\n)\n)\n)\n)\n)\n(line 10\n(run)\n)\n(line 20\n(rcomp\n(to 10)\n)\n)\n(line 40\n(rcomp\n(stmts\n(if\n(to 40)\n)\n)\n)\n)\n)\n"; writes = "(refused 7 44)\n" } ∷
    record { text = "(module 0\n(line 10\n(done)\n(return)\n)\n(line 010\n(else)\n(gosub 100)\n)\n(line 30\n(rcomp\n(stmts\n(if\n(stmts\n(ifelse\n(stmts\n(rcomp\n(stmts\n(ifelse\n(stmts\n(rcomp\n(stmts\n(ifelse\n(stmts\n(if\n(stmts\n(ifelse\n(stmts\n(ifelse\n(stmts\n)\n(stmts\n(if\n(stmts\n(ifelse\n(stmts\n)\n(stmts\n(ifelse\n(stmts\n(if\n(stmts\n(return)\n)\n)\n)\n(stmts\n)\n)\n)\n)\n)\n)\n)\n)\n)\n(stmts\n)\n)\n)\n)\n)\n(to 10)\n)\n)\n)\n)\n(to 10)\n)\n)\n)\n)\n(stmts\n)\n)\n)\n)\n)\n)\n)\n(line 100\n(ifelse\n(stmts\n(next plain * * A1B2%)\n)\n(stmts\n(plain)\n)\n)\n(ongosub 10 10)\n(doif)\n)\n(line 65534\n)\n)\n"; writes = "(refused 3 5)\n" } ∷
    record { text = "(module 1\n(line 0\n(rcomp\n(to 10)\n(stmts\n(ifelse\n(to 10)\n(stmts\n(rcomp\n(stmts\n(rcomp\n(stmts\n(rcomp\n(to 10)\n(stmts\n(rcomp\n(stmts\n(ifelse\n(stmts\n(if\n(stmts\n(ifelse\n(stmts\n(ifelse\n(stmts\n(if\n(stmts\n(ifelse\n(stmts\n)\n(stmts\n(ifelse\n(stmts\n)\n(stmts\n(if\n(stmts\n(rcomp\n(stmts\n)\n(stmts\n(if\n(stmts\n(if\n(stmts\n(exitif)\n(done)\n(ongosub 40 40)\n(plain)\n)\n)\n)\n)\n)\n)\n)\n)\n)\n)\n)\n)\n)\n)\n)\n(stmts\n)\n( A_B)\n)\n(to 10)\n)\n)\n)\n)\n(stmts\n)\n)\n)\n)\n)\n)\n)\n)\n)\n)\n)\n)\n)\n)\n)\n(line 40\n(repeat)\n(return)\n)\n(line 999\n(until)\n(repeat)\n(exitif)\n)\n)\n"; writes = "(refused 7 45)\n" } ∷
    record { text = "(module 0\n(line 010\n(gosub 0)\n(next orphan *)\n(ongosub 0 0)\n(for COUNTER dispatched)\n(return)\n)\n)\n"; writes = "(refused 3 1)\n" } ∷
    record { text = "(module 0\n(line 0\n)\n(line 10\n)\n(line 20\n(stop)\n(repeat)\n(goto 30)\n)\n(line 0\n(clr)\n(else)\n)\n(line 50\n(stop)\n(done)\n(next plain ACDEFGH)\n)\n(line 100\n(ongoto)\n(rcomp\n(stmts\n(stop)\n(stop)\n(plain)\n)\n(stmts\n)\n)\n)\n)\n"; writes = "(refused 4 10)\n" } ∷
    record { text = "(module 0\n(line 007\n(exitif)\n(repeat\n(for COUNT static)\n)\n(line 20\n(repeat)\n)\n(line 65534\n(A_B)\n(doif)\n)\n)\n"; writes = "(refused 3 1)\n" } ∷
    record { text = "(module 0\n(line 1\n(endloop)\n(for I$ framed)\n(return)\n)\n(line 5\n(if\n(stmts\n(ifelse\n(stmts\n(if\n(stmts\n(ifelse\n(to 10)\n(stmts\n(rcomp\n(stmts\n(ifelse\n(to 10)\n(stmts\n(if\n(stmts\n(rcomp\n(stmts\n(if\n(stmts\n(ifelse\n(stmts\n(ifelse\n(stmts\n(rcomp\n(to 10)\n(stmts\n(ifelse\n(stmts\n(rcomp\n(stmts\n(ifelse\n(stmts\n(rcomp\n(stmts\n(if\n(stmts\n(ongosub 1 1)\n)\n)\n)\n)\n)\n(stmts\n)\n)\n)\n)\n)\n(to 10)\n)\n)\n)\n)\n(to 10)\n)\n)\n(stmts\n)\n)\n)\n)\n)\n)\n)\n)\n)\n)\n)\n)\n)\n)\n)\n)\n)\n(stmts\n)\n)\n)\n)\n)\n)\n"; writes = "(refused 7 44)\n" } ∷
    record { text = "(module 1\n(line 0\n(plain)\n(ongoto 9 9 9 9 9 9 9 9 9 9 9 9 9 9 9 9 9 9 9 9 9 9 9 9 9 9 9 9 9 9 9 9 9 9 9 9 9 9 9 9 9 9 9 9 9 9 9 9 9 9 9 9 9 9 9 9 9 9 9 9 9 9 9 9 9)\n)\n(line 50\n(next orphan)\n(for N dispatched)\n)\n(line 65534\n(if\n(stmts\n)\n)\n)\n)\n"; writes = "(refused 8 3)\n" } ∷
    record { text = "(module 1\n(line 65535\n(run 30)\n(stop)\n(loop)\n)\n(line 1\n(ongosub)\n(goto 30)\n(ongosub 30 65534 0 30)\n(run 65534)\n(any)\n)\n(line 30\n(any)\n(doif)\n(until)\n(goto 50)\n)\n(line`65534\n)\n)\n"; writes = "(refused 4 6)\n" } ∷
    record { text = "(module 1\n(line 007\n(gosub gosub)\n(gosub 30)\n(return)\n(any)\n)\n)\n"; writes = "(refused 3 1)\n" } ∷
    record { text = "(module 0\n(line 30\n(exit)\n(until)\n(ongosub 30 30)\n(return)\n)\n(line 50\n(for plain dispatched)\n)\n)\n"; writes = "(refused 3 8)\n" } ∷
    record { text = "(module 1\n(line 65536\n(plain)\n(ongosub 999)\n)\n)\n"; writes = "(refused 3 1)\n" } ∷
    record { text = "(module 1\n(line 0\n(exitif)\n(plain)\n)\n(line 5\n(next plain *)\n(return)\n)\n(line 100\n(return)\n(return)\n(next orphan J 00)\n)\n(line 65534\n(next plain J)\n(ongosub 5 5)\n)\n)\n"; writes = "(refused 3 12)\n" } ∷
    record { text = "(module 0\n(line 100\n(next plain LOOPVARq)\n(rcomp\n(to 100)\n)\n(repeat)\n(plain)\n(plain)\n(for LOOPVAR1 framed)\n(clr)\n(repeat)\n(endloop)\n(gosub 100)\n(exit)\n(return)\n)\n)\n"; writes = "(refused 3 2)\n" } ∷
    record { text = "(module 0\n(line 30\n(if\n(stmts\n(any)\n(next plain ABCDEFGH%)\n)\n)\n(if\n(to 5)\n)\n(for AB% framed)\n)\n(line 30\n(for AB% dispatched)\n(next orphan AB%)\n)\n(Static line 100\n(plain)\n)\n)\n"; writes = "(refused 4 13)\n" } ∷
    record { text = "(module 0\n(line 20\n(goto 20)\n(exitif)\n(doif)\n)\n(line 30\n(goto 100)\n(if\n(to 50)\n)\n(next plain * * * * * * * * * * * * * * * * * * * * * * * * * * * * * * * * * * * * * * * * * * * * * * * * * * * * * * * * * * * * * * * * *)\n)\n(line 50\n(clr)\n(else)\n)\n(line 100\n(else)\n(for K dispatched)\n)\n)"; writes = "(refused 8 11)\n" } ∷
    record { text = "(module 1\n(line 40\n(ongosub)\n(done)\n(next orphan N%)\n(clr)\n(any)\n(for Z9999999$ static)\n(gosub 40)\n(gosub 40)\n(ongoto)\n(doif)\n(doif)\n(else)\n(for until dispatched)\n(done done)\n(clr)\n(next plain *)\n(for COUNTERS static)\n(return)\n)\n)\n"; writes = "(refused 3 14)\n" } ∷
    record { text = "(module 1\n(line 65536\n(for Z9Z% static)\n(return)\n(if\n(stmts\n)\n)\n(next plain Z9Z%)\n(any)\n)\n)\n"; writes = "(refused 3 1)\n" } ∷
    record { text = "(module 0\n(line 40\n(ifelse\n(to 20)\n(to 40)\n)\n(if\n(stmts\n)\n)\n(doif)\n(ifelse\n(stmts\n(if\n(stmts\n)\n)\n)\n(stmts\n)\n)\n(for Z9Z% dispatched)\n)\n(line 40\n(next orphan Z99%)\n)\n)\n"; writes = "(refused 4 23)\n" } ∷
    record { text = "(module 0\n(line 20\n(any)\n(run)\n(for CO2 dispatched)\n(plain)\n(if\n(stmts\n)\n)\n(run)\n)\n(line 1\n(run 20)\n(run)\n(next COUNT orphan CO1)\n)\n)\n"; writes = "(refused 4 12)\n" } ∷
    record { text = "(module 0\n(line 50\n(return)\n(gosub 0)\n(gosub 50)\n(ifelse\n(stmts\n(exitif)\n)\n(stmts\n)\n)\n(ongosub)\n(gosub 50)\n(ongosub 50 50 10)\n(return)\n)\n(line 50\n(if\n(stmts\n(ongosub 0 50 50)\n(ongosub 50 0 50)\n(gosub 0)\n)\n)\n(ongosub 50 50 0 0)\n)\n"; writes = "(refused 4 17)\n" } ∷
    record { text = "(module 0\n(line 30\n(plain)\n(return)\n)\n(line 50\n(done)\n(rcomp\n(to 30)\n(to 100)\n)\n(ifelse\n(stmts\n(else)\n)\n(stmts\n(gosub 30)\n(plain)\n)\n)\n(return)\n)\n(line 100\n(gosub 01)\n)\n)\n"; writes = "(refused 3 23)\n" } ∷
    record { text = "(module 0\n(line 65535\n)\n(line 40\n(next plain *)\n(return)\n(gosub 50)\n(stop)\n)\n(line 50\n(if\n(to 40)\n)\n(if\n(stmts\n(for K static)\n)\n)\n(next orphan *)\n)\n(line 999\n(next plain NO%)\n)\n(line 65535\n(if\n(to 5)\n)\n(next I%$ J)\n)\n)\n"; writes = "(refused 4 3)\n" } ∷
    record { text = "(module 0\n(line 10\n(if\n(stmts\n)\n)\n(plain)\n(else)\n)\n(line 30\n(next plain X)\n(return)\n(return)\n)\n(line 100\n(gosub 100)\n)\n(line 30\n(ifelse\n(stmts\n(if\n(stmts\n)\n)\n)\n(stmts\n)\n)\n)\n)\n"; writes = "(refused 4 17)\n" } ∷
    record { text = "(module 0\n(line 1234567890123456789012345678901234567890\n)\n)\n"; writes = "(refused 3 1)\n" } ∷
    record { text = "(module 0\n(line 5\n(for NOTE% dispatched)\n(return)\n(return)\n)\n(line 20\n(goto 100)\n(next plain * NOTES% *)\n(endloop)\n(goto 100)\n(any)\n)\n(line 100\n(loop)\n)\n(line 100\n(gosub 5)\n(gosub 5)\n(loop)\n(else)\n(stop)\n)\n)\n"; writes = "(refused 4 16)\n" } ∷
    record { text = "(module 0\n(line 010\n(gosub 50)\n(next orphan J)\n(for J% dispatched)\n(if\n(stmts\n(ongosub)\n(ongoto 1 50 50 50)\n)\n)\n(return)\n(gosub 50)\n(for J dispatched)\n(next plain * * * * * * * * * * * * * * * * * * * * * * * * * * * * * * * * * * * * * * * * * * * * * * * * * * * * * * * * * * * * * * * *)\n)\n)\n"; writes = "(refused 3 1)\n" } ∷
    record { text = "(module 1\n(line 0\n(exit)\n(gosub 65535)\n(next plain J%)\n(for ongoto dispatched)\n(ifelse\n(stmts\n(loop)\n)\n(to 65535)\n)\n(for J% static)\n)\n(line 65535\n(gosub 65535)\n(return)\n(plain)\n)\n)\n"; writes = "(refused 3 5)\n" } ∷
    record { text = "(module 1\n(line 0\n(for COUNTERS static)\n(plain)\n)\n(line 999\n(next orphan COUNTER)\n(if\n(to 5)\n)\n(ongoto 5 50)\n(next plain COUNTERS)\n)\n(line 999\n(if\n(to 100)\n)\n(for CO1 dispatched)\n(next plain COUNT)\n(if\n(stmts\n)\n)\n)\n)\n"; writes = "(refused 4 13)\n" } ∷
    record { text = "(module 0\n(line 0\n(gosub 65536)\n(return)\n(gosub 0)\n(for I$ static)\n(next plain I$)\n)\n)\n"; writes = "(refused 3 2)\n" } ∷
    record { text = "(module 0\n(line 18446744073709551616\n(ongosub 40)\n(return)\n(plain)\n)\n)\n"; writes = "(refused 3 1)\n" } ∷
    record { text = "(module 1\n(line 10\n(doif)\n)\n(line 5\n(ongosub 65535 65535)\n)\n(line 10\n(any)\n(loop)\n)\n(line 65534\n(any)\n(clr)\n(next orphan A1B2%)\n(run)\n)\n(line 65535\n(stop)\n(for A1B2% dispatched)\n(return)\n)\n)\n"; writes = "(refused 4 4)\n" } ∷
    record { text = "(module 0\n(line 5\n(if\n(stmts\n(until)\n(endloop)\n)\n)\n(exit)\n(done)\n(done)\n(any)\n(else)\n(until)\n(return)\n(return)\n(next plain * * * * * * * * * * * * * * * * * * * * * * * * * * * * * * * * * * * * * * * * * * * * * * * * * * * * * * * * * * * * * * * * gosub)\n)\n(line 65535\n(gosub 5)\n)\n)\n"; writes = "(refused 3 16)\n" } ∷
    record { text = "(module 0\n(line 007\n(return)\n(if\n(stmts\n)\n)\n(next plain I I I I I I I I I I I I I I I I I I I I I I I I I I I I I I I I I I I I I I I I I I I I I I I I I I I I I I I I I I I I I I I I I)\n)\n(line 20\n)\n(line 40\n(gosub 0)\n(gosub 20)\n(for COUNT dispatched)\n(any)\n(next plain *)\n)\n)\n \n"; writes = "(refused 3 1)\n" } ∷
    []

right-table : T (right table)
unfolding opened right table
right-table = tt
