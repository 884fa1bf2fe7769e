-- Damaged texts with the refusals of a second reading of document 01. Assumes nothing.
use Rattle.std.specs.Prelude.{List, [], ◌∷◌, true, false, T}
use Rattle.vectors.specs.Vector.{Vector, right, opened}

table : List Vector
table =
    record { text = "(module 1\n(line 10\n(gosub 10)\n(doif)\n(ongoto 100)\n(done)\n(doif)\n)\n(return)\n(any)\n)\n"; writes = "(refused 2 8)\n" } ∷
    record { text = "(module 0\n(line 30\n(gosub stop)\n(next plain)\n(stop)\n(next orphan * *)\n)\n)\n"; writes = "(refused 2 2)\n" } ∷
    record { text = "(module 0\n(plain\n(line 999\n(goto 999)\n(gosub 999)\n(ongoto 999)\n(for J dispatched)\n(goto 999)\n(gosub 999)\n(ongoto 9 9 9 9 9 9 9 9 9 9 9 9 9 9 9 9 9 9 9 9 9 9 9 9 9 9 9 9 9 9 9 9 9 9 9 9 9 9 9 9 9 9 9 9 9 9 9 9 9 9 9 9 9 9 9 9 9 9 9 9 9 9 9 9)\n)\n(line 65535\n(next orphan J)\n(for K static)\n)\n)\n"; writes = "(refused 2 1)\n" } ∷
    record { text = "(module 0\n(line 5\n(gosub 50)\n(plain)\n(for ABCDEFGH% static)\n)\n(line 30\n(next plain NOTES%)\n(gosub 30)\n(goto 5)\n)\n(line 50\n(rcomp\n(to 30)\n(stmts\n)\n)\n(next plain *)\n(return)\n(any)\n(return)\n)\n(100\n(return)\n(goto goto 50)\n(if\n(stmts\n(ongoto 100 30)\n)\n)\n)\n(line 65534\n(ongosub 50 50)\n)\n)\n"; writes = "(refused 2 22)\n" } ∷
    record { text = "(modulu 1\n(line 100\n(plain)\n\n)\n"; writes = "(refused 2 0)\n" } ∷
    record { text = "(module\n(line 20\n)\n)\n"; writes = "(refused 2 0)\n" } ∷
    record { text = "(module 0\n(line 50\n(next plain Z$ Z99% *)\n(next plain * endloop)\n)\n(line 999\n(for Z$ static)\n(endloop)\n)\n)\n"; writes = "(refused 3 3)\n" } ∷
    record { text = "(module 0\n(line 65535\n)\n(line 65534\n(run)\n(repeat)\n)\n)\n"; writes = "(refused 4 3)\n" } ∷
    record { text = "(module 1\n(line 1\n(exit)\n(any)\n)\n(line 65536\n(exit)\n(exit)\n)\n(line 40\n(endloop)\n(endloop)\n)\n)\n"; writes = "(refused 3 5)\n" } ∷
    record { text = "(module 0\n(line 1\n(gosub 1)\n(doif)\n(run)\n)\n(line 1.0\n(done)\n(done)\n(until)\n(ongosub)\n(done)\n(run 5)\n(for ABCDEFG dispatched)\n)\n)\n"; writes = "(refused 2 6)\n" } ∷
    record { text = "(I module 0\n(line 1\n)\n)\n"; writes = "(refused 2 0)\n" } ∷
    record { text = "(module 0\n(line 0\n(next plain LO)\n(for LOOPVAR2 static))\n(ifelse\n(stmts\n)\n(stmts\n)\n)\n)\n)\n"; writes = "(refused 2 3)\n" } ∷
    record { text = "(module 0\n(line\n(for NOTE% dispatched)\n(next orphan *)\n)\n)\n"; writes = "(refused 2 1)\n" } ∷
    record { text = "(module 1\n(line 1\n(next plain *)\n(ifelse\n(stmts\n(rcomp\n(stmts\n)\n)\n(goto 999)\n(plain)\n)\n(stmts\n)\n)\n(any)\n(return)\n)\n(line 10\n(done)\n)\n(line 007\n(run)\n(ongoto)\n)\n(line 100\n(gosub 10)\n(ongoto 65534)\n)\n(line 999\n(doif)\n(next plain CO%)\n(gosub 1)\n(for COUNTER% static)\n)\n(line 65534\n)\n)\n"; writes = "(refused 3 21)\n" } ∷
    record { text = "(module 1\n(line 5\n(repeat)\n)\n(loop)\n((exit!)\n(gosub 65534)\n(if\n(stmts\n(any)\n)\n)\n)\n(line 10\n(line 40\n(any)\n(run 100)\n)\n(line 100\n(goto 100)\n)\n(line 999\n(run)\n(exit)\n)\n(line 65534\n)\n)\n"; writes = "(refused 2 4)\n" } ∷
    record { text = "(module 1\n(line 20\n)\n(line 30\n(clr)\n(plain)\n(plain)\n(ongoto 65534 65534 30)\n( )\n(line line 65534\n(return)\n(repeat)\n)\n(line 65535\n(exitif)\n)\n)\n"; writes = "(refused 2 8)\n" } ∷
    record { text = "(module 0\n(line 20\n(next orphan NOTE%)\n(if\n(stmts\n)\n)\n(return)\n(ongosub 20 20)\n(for NO% dispatched)\n(endloop )\n)\n"; writes = "(refused 2 10)\n" } ∷
    record { text = "(1\n(goto line 30\n(any)\n)\n"; writes = "(refused 2 0)\n" } ∷
    record { text = "(module 0\n(line 50\n(rcomp\n(stmts\n)\n(stmts\n(rcomp\n(stmts\n(rcomp\n(stmts\n(rcomp\n(stmts\n(ifelse\n(stmts\n)\n(stmts\n(ifelse\n(stmts\n(ifelse\n(stmts\n(ifelse\n(stmts\n(rcomp\n(stmts\n)\n(stmts\n(ifelse\n(stmts\n)\n(stmts\n(rcomp\n(stmts\n(rcomp\n(stmts\n(rcomp\n(to 10)\n(stmts\n(rcomp\n(to 10)\n(stmts\n(ifelse\n(stmts\n(rcomp\n(stmts\n(ongoto 100)\n(gosub 65535)\n(return)\n)\n)\n)\n(stmts\n)\n)\n)\n)\n)\n)\n)\n)\n)\n)\n)\n)\n)\n)\n(to 10)\n)\n)\n(stmts\n)\n)\n)\n(stmts\n)\n)\n)\n)\n)\n)\n)\n)\n)\n)\n)\n)\n)\n)\n(line 100\n(ongosub 100 100)\n(return)\n)\n(line 65534\n(next orphan *)\n(for Z9 dispatched)\n(gosub 50)\n)\n(line 65535\n(plain)\n(for Z$ dispatched)\n)\n)\n"; writes = "(refused 2 65)\n" } ∷
    record { text = "(module 1\n(line 50\n(+5)\n(doif)\n(else)\n(done)\n(plain)\n(doif)\n(else)\n)\n)\n"; writes = "(refused 2 2)\n" } ∷
    record { text = "(module 0\n(line 10\n(ongosub)\n(return)\n(if\n(to 65534)\n)\n)\n($ line 20\n(gosub 65534)\n)\n(line 30\n(plain)\n(return)\n(if\n(to 30)\n)\n)\n(line 40\n(ongosub 65534)\n(endloop)\n)\n(line 65534\n(gosub 40)\n)\n)\n"; writes = "(refused 2 8)\n" } ∷
    record { text = "(module 0\n(line 1\n)\n(line 30\n(for COUNT dispatched)\n(next orphan COUNT)\n(endloop)\n)\n(line 40\n(until)\n(18446744073709551616 next orphan COUNT)\n(for COUNT dispatched)\n(else)\n(plain)\n)\n)\n"; writes = "(refused 2 10)\n" } ∷
    record { text = "(module 0\n(line 20\n(ifelse\n(to 20)\n(stmts\n(else)\n(clr)\n)\n)\n(if\n(to 999)\n)\n(return)\n(exitif)\n))\n(line 30\n(gosub 30)\n(return)\n)\n(line 65535\n(if\n(to 65535)\n)\n(next plain AC%)\n(endloop)\n(ongoto 65535 20)\n(run 65535)\n(until)\n(for AC% static)\n(run)\n)\n)\n"; writes = "(refused 2 14)\n" } ∷
    record { text = "(module 1 dispatched\n(line!0\n)\n(line 100\n(ongoto)\n(plain)\n)\n)\n"; writes = "(refused 2 0)\n" } ∷
    record { text = "(module 1\n(|ine 40\n(exitif)\n(else)\n)\n(line 50\n)\n(line 65534\n(ongosub 50 40)\n(plain)\n(done)\n(doif)\n(else)\n(done)\n(loop)\n(plain)\n(ongosub)\n)\n)\n"; writes = "(refused 2 1)\n" } ∷
    record { text = "(module module 0\n(line 1\n(doif)\n(gosub 1)\n(return)\n)\n(line 999\n(line 999\n(any)\n(repeat)\n)\n)"; writes = "(refused 2 0)\n" } ∷
    record { text = "(module 0\n(line 10\n(for I dispatched)\n(plain)\n(next orphan * I$ I$)\n)\n(line 30\n(for I$ dispatched)\n(for I dispatched)\n(for I static)\n(if\n(to 30)\n)\n(rcomp\n(to 100)\n(stmts\n(for N% dispatched)\n)\n)\n(done)\n(rcomp\n(stmts\n)\n)\n)\n(line COUNTERS%\n)\n)\n"; writes = "(refused 2 25)\n" } ∷
    record { text = "(module 0\n(line 1\n(endloop)\n(until)\n(loop)\n)\n(line 20\n(endloop)\n(exit)\n(plain)\n(exit)\n)\n(line 1\n)\n)\n"; writes = "(refused 4 12)\n" } ∷
    record { text = "(module 1\n(line line 40\n(repeat)\n(return)\n)\n(line 999\n(ongosub 40 40)\n(gosub 40)\n(return)\n(return)\n(next plain ACDEFGH)\n)\n(line 65534\n(for ABCDEFGH% dispatched)\n(for ACDEFGH static)\n(any)\n)\n)\n"; writes = "(refused 2 1)\n" } ∷
    record { text = "(module framed\n(line 1\n(exit)\n)\n)\n"; writes = "(refused 2 0)\n" } ∷
    record { text = "(module 0\n(0\n(ongoto)\n(goto exit 0)\n(for Z9Z% dispatched)\n(next orphan Z99%)\n)\n)\n"; writes = "(refused 2 1)\n" } ∷
    record { text = "(module 0\n(line 5\n(done)\n)\n(line 10\n(ongoto run 65534)\n(ongoto 0 0 0 0 0 0 0 0 0 0 0 0 0 0 0 0 0 0 0 0 0 0 0 0 0 0 0 0 0 0 0 0 0 0 0 0 0 0 0 0 0 0 0 0 0 0 0 0 0 0 0 0 0 0 0 0 0 0 0 0 0 0 0 0)\n)\n)\n"; writes = "(refused 2 5)\n" } ∷
    record { text = "(module 0\n(line 5\n(clr)\n(for COUNTER dispatched)\n(next plain CP% *)\n(next orphan *)\n(ongosub 5 5)\n(for COUNTER framed)\n(next plain CP% CP% CP% CP%)\n(for COUNTER dispatched)\n(rcomp\n(stmts\n)\n(return)\n)\n)\n"; writes = "(refused 2 13)\n" } ∷
    record { text = "(module 1\n(line 65535\n(ongosub 65535 65535)\n(plain)\n(return)\n(ongosub 65535 655"; writes = "(refused 2 5)\n" } ∷
    record { text = "(module 0\n(line goto\n(ongosub 0 999 40)\n(endloop)\n((next orphan A1B2)\n(for CO% framed)\n(for dispatched)\n(gosub 999)\n)\n(line 999\n(next plain * A1)\n(next plain COUNT%)\n(for A1 framed)\n(ongosub 1 40 40)\n)\n)\n"; writes = "(refused 2 1)\n" } ∷
    record { text = "(module 1\n(line 0\n(return)\n(ongosub 0 0)\n(next orphan L)\n(ongosub 0 0)\n(for L dispatched)\n(plain)\n)\n"; writes = "(refused 2 9)\n" } ∷
    record { text = "(module 0\n(line 100\n(for A dispatched)\n(for A static)\n)\n(next plain *)\n)\n"; writes = "(refused 2 5)\n" } ∷
    record { text = "(module 0\n(line 999\n(done)\n(next plain *)\n(gosub 999)\n(clr)\n(any)\n(AC% static)\n(return)\n(return)\n)\n)\n"; writes = "(refused 2 7)\n" } ∷
    record { text = "(module 0\n(line 5\n(for CP static)\n(ifelse\n(stmts\n(if\n(to 20)\n)\n)\n(to 5)\n)\n(gosub 20)\n(plain)\n)\n(line 20\n(next plain to)\n(ifelse\n(stmts\n(plain)\n(exit)\n)\n(stmts\n)\n)\n(gosub 20)\n(return)\n)\n)\n"; writes = "(refused 3 15)\n" } ∷
    record { text = "(module 0\n(line 1*\n(ifelse\n(to 1)\n(stmts\n(loop)\n)\n)\n)\n)\n"; writes = "(refused 2 1)\n" } ∷
    record { text = "(module 0\n(line 0\n)\n(line 1\n(if\n(stmts\n)\n)\n(gosub 999)\n(run 50)\n(run)\n)\n(line 40\n(run 0)\n)\n)\n(line 65536\n (stop)\n(goto 1)\n(any)\n(goto 999)\n)\n(line 999\n(clr)\n(return)\n)\n)\n"; writes = "(refused 2 16)\n" } ∷
    record { text = "(module 0\n(line 0 0\n(if\n(stmts\n(ifelse\n(stmts\n(loop)\n(if\n(stmts\n(if\n(stmts\n)\n)\n(endloop)\n(plain)\n)\n)\n(rcomp\n(stmts\n(ifelse\n(to A B)\n(stmts\n(line 999\n)\n)\n)\n(stmts\n)\n)\n)\n(to 100)\n)\n)\n)\n(exitif)\n)\n(line 1\n)\n(line 40\n)\n(line 100\n)\n)\n(line 65535\n)\n)\n"; writes = "(refused 2 1)\n" } ∷
    record { text = "(module 1\n(line 0\n8done)\n(return)\n(ongosub 0 0)\n(plain)\n)\n)\n"; writes = "(refused 2 2)\n" } ∷
    record { text = "(module 1\n(line 100\n(for L1 static)\n(for L1`static)\n(exit)\n(for L1 dispatche)\n(plain)\n)\n)\n"; writes = "(refused 2 3)\n" } ∷
    record { text = "(module 0\n(line 100\n(for ACDEFGH static)\n(next plain ACDEFGH)\n(gosub 999)\n(ongoto 9 9 9 9 9 A B 9 9 9 9 9 9 9 9 9 9 9 9 9 9 9 9 9 9 9 9 9 9 9 9 9 9 9 9 9 9 9 9 9 9 9 9 9 9 9 9 9 9 9 9 9 9 9 9 9 9 9 9 9 9 9 9 9 9 9)\n)\n"; writes = "(refused 2 5)\n" } ∷
    record { text = "(module 0\n(line 0\n(for COUNTER dispatched)\n(exitif)\n(gosub 100)\n(ongoto 0 0 0 0 0 0 0 0 0 0 0 0 0 0 0 0 0 0 0 0 0 0 0 0 0 0 0 0 0 0 0 0 0 0 0 0 0 0 0 0 0 0 0 0 0 0 0 ifelse 0 0 0 0 0 0 0 0 0 0 0 0 0 0 0 0 0)\n)\n(line 100\n(done)\n(rcomp\n(stmts\n(for N% dispatched)\n)\n)\n(return)\n)\n)\n"; writes = "(refused 2 5)\n" } ∷
    record { text = "(module 0\n(line 9\n(repeat)\n)\n(line 30\n(for ABCDEFG static)\n)\n(line 10\n(done)\n(endloop)\n(exit)\n(next plain I ABCDEFG)\n)\n(line 999\n(endloop)\n(ifelse\n(stmts\n(done)\n)\n(stmts\n)\n)\n)\n(line 65535\n(else)\n(exitif)\n)\n)\n"; writes = "(refused 4 7)\n" } ∷
    record { text = "(module 0\n)\n)\n"; writes = "(refused 2 2)\n" } ∷
    record { text = "(module 0\n(line 50\n(next plain * ABCDEFGHI)\n(gosub 50)\n(return)\n(for Z99% static)\n)\n)\n"; writes = "(refused 3 2)\n" } ∷
    record { text = "(module 1\n(li e 50\n(run)\n(run 100)\n)\n(line 65534\n(clr)\n(any)\n(clr)\n(any)\n(any)\n(goto 65534)\nclr)\n)\n"; writes = "(refused 2 1)\n" } ∷
    record { text = "(module 0(line 10\n)\n)\n"; writes = "(refused 2 0)\n" } ∷
    record { text = "(module 1\n(line 1234567890123456789012345678901234567890\n(run)\n)\n(line 5\n(run)\n(run)\n(for COUNT dispatched)\n(any)\n)\n(line 20\n)\n(line 40\n(exitif)\n(loop)\n(clr)\n)\n(line 100\n(clr)\n(next plain I I I I I I I I I I I I I I I I I I I I I I I I I I I I I I I I I I I I I I I I I I I I I I I I I I I I I I I I I I I I I I I I I)\n)\n(line 999\n(run 20)\n(clr)\n(any)\n(next orphan CO2)\n)\n)\n"; writes = "(refused 3 1)\n" } ∷
    record { text = "(module 1\n(line 5\n(ongoto 10)\n(ifelse\n(to 5)\n(to 10)\n)\n(return)\n(next orphan Z99%)\n(if\n(stmts\n(gosub 10)\n(rcomp\n(to 5)\n)\n(plain)\n)\n)\n(ifelse\n(stmts\n(ongosub)\n)\n(to 5)\n)\n)\n(line 10\n(for Z9Z% dispatched)\n)\n"; writes = "(refused 2 28)\n" } ∷
    record { text = "(module 1\n(line 20\n)\n(line 65535\n(ifelse\n(stmts\n(ifelse\n(to 10 GOTO)\n(stmts\n(if\n(stmts\n(if\n(stmts\n(rcomp\n(stmts\n(if\n(stmts\n(rcomp\n(to 10)\n(stmts\n(ifelse\n(to 10)\n(stmts\n(rcomp\n(to 10)\n(stmts\n(ifelse\n(stmts\n)\n(stmts\n(ifelse\n(stmts\n(ifelse\n(stmts\n)\n(stmts\n(rcomp\n(stmts\n(rcomp\n(stmts\n)\n(stmts\n(ifelse\n(to 10)\n(stmts\n(rcomp\n(stmts\n(rcomp\n(stmts\n(plain)\n(endloop)\n(rcomp\n(stmts\n)\n)\n(next orphan COUNTERS$ * COUNTER)\n)\n)\n)\n)\n)\n)\n)\n)\n)\n)\n)\n)\n)\n(stmts\n)\n)\n)\n)\n)\n)\n)\n)\n)\n)\n)\n)\n)\n)\n)\n)\n)\n)\n)\n)\n)\n(stmts\n)\n)\n)\n)\n"; writes = "(refused 2 7)\n" } ∷
    record { text = "(module 0\n(line 20\n(ongosub)\n(clr)\n(return)\n(return)\n(return)\n(next plain *)\n(gosub 20)\n(return)\n(gosub 20)\n(for AB% static)\n(return)\n)\n(line 65534\n(gosub 65534)\n(gosub gosub 65534)\n(done)\n)\n)\n"; writes = "(refused 2 16)\n" } ∷
    record { text = "(module 1\n(line 20\n(rcomp\n(to 20)\n)\n(else)\n(line\n(any)\n)\n)\n"; writes = "(refused 2 6)\n" } ∷
    record { text = "(module 1\n(line 0\n(next plain *)\n(ongosub 50 0)\n(ongoto 1 0 1 50)\n(repeat)\n(exitif)\n)\n(line 1\n(for static)\n(goto 0)\n)\n(line 50\n(ifelse\n(stmts\n)\n(stmts\n)\n)\n(plain)\n)\n)\n"; writes = "(refused 2 9)\n" } ∷
    record { text = "(module 1\n(line 10\n(doif)\n(ifelse\n(stmts\n)\n(stmts\n(clr)\n)\n)\n)\n(line 10\n(any)\n)\n)\n"; writes = "(refused 4 11)\n" } ∷
    record { text = "(module 1\n(line 10\n(rcomp\n(stmts\n(next orphan * COUNT COUNT CO2)\n(next plain)\n(next plain COUNTER)\n)\n)\n(run)\n(ongosub 10 10)\n(gosub 10)\n(next plain COUNTERS)\n(for COUNTER static)\n(for CO%UNT dispatched)\n(return)\n(any)\n)\n)\n"; writes = "(refused 3 14)\n" } ∷
    record { text = "(module 1\n(line 007\n(gosub 65535)\n(return)\n(gosub 65535)\n(else)\n(return)\n(plain)\n)\n)\n"; writes = "(refused 3 1)\n" } ∷
    []

right-table : T (right table)
unfolding opened right table
right-table = tt
