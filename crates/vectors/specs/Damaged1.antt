-- Damaged texts with the refusals of a second reading of document 01. Assumes nothing.
use Rattle.std.specs.Prelude.{List, [], ◌∷◌, true, false, T}
use Rattle.vectors.specs.Vector.{Vector, right, opened}

table : List Vector
table =
    record { text = "(module 1\n(line 1\n(done)\n(any)\n(gosub 1)\n(else)\n(plain)\n(doif)\n(plain)\n(return)\n)\n(line 20\n(1)\n)\n"; writes = "(refused 2 12)\n" } ∷
    record { text = "(module 0\n(999\n)\n)\n"; writes = "(refused 2 1)\n" } ∷
    record { text = "(module 0\n(line 0\n(goto 30)\n(else)\n(for A) J static)\n(plain)\n(else)\n)\n(line 1\n(else)\n(else)\n(goto 30)\n(else)\n)\n(line 5\n(else)\n(next plain)\n(next plain *)\n)\n(line 30\n)\n)\n"; writes = "(refused 2 4)\n" } ∷
    record { text = "(module 0\n(line 30\n )\n(line 40\n(ifelse(return)\n(stmts\n(to 40)\n)\n)\n(if\n(to 40)\n)\n(gosub 40)\n(plain)\n(ifelse\n(stmts\n(done)\n(plain)\n)\n(stmts\n(else)\n)\n)\n)\n)\n"; writes = "(refused 2 2)\n" } ∷
    record { text = "(module 1\n)\n(next plain *)\n(for LOOPVAR2 static)\n(any)\n)\n(line 30\n"; writes = "(refused 2 2)\n" } ∷
    record { text = "(module 0\n(line 0\n(if\n(stmts\n(ifelse\n(stmts\n)\n(stmts\n(ifelse\n(stmts\n)\n(stmts\n(rcomp\n(stmts\n)\n(stmts\n(rcomp\n(stmts\n(ifelse\n(stmts\n)\n(stmts\n(ifelse\n(stmts\n)\n(stmts\n(rcomp\n(to 10)\n(stmts\n(if\n(stmts\n(rcomp\n(stmts\n(if\n(stmts\n(if\n(stmts\n(ifelse\n(stmts\n(ifelse\n(to 10)\n(stmts\n(rcomp\n(to 10)\n(stmts\n(if\n(stmts\n(ongosub)\n(next plain *)\n(return)\n(for COUNT static)\n)\n)\n)\n)\n)\n)\n)\n(to 10)\n)\n)\n)\n)\n)\n)\n)\n)\n)\n)\n)\n)\n)\n)\n)\n)\n)\n)\n)\n)\n)\n)\n)\n)\n)\n)\n)\n(line 65534\n(endloop)\n(exit)\n(exit)\n(gosub 0)\n(endloop)\n(ongosub)\n)\n(line 65535\n(return)\n(return)\n)\n)\n"; writes = "(refused 2 86)\n" } ∷
    record { text = "(module return\n(line 0\n(if\n(to 0)\n)\n(for CO% dispatched)\n)\n(line 20\n(for CO2 framed)\n(plain)\n)\n(line 40\n(if\n(stmts\n(ifelse\n(to 20)\n(stmts\n(if\n(stmts\n(if\n(to 50)\n)\n)\n)\n)\n)\n(if\n(stmts\n)\n)\n)\n)\n)\n(line 50\n)\n(line 65535\n)\n)\n"; writes = "(refused 2 0)\n" } ∷
    record { text = "(module 0\n(line 40\n(next plain C%)\n(for C% static)\n(if\n(stmts\n(for AB% framed framed)\n(next orphan C% * * COUNT%)\n(rcomp\n(stmts\n(plain)\n)\n)\n)\n)\n)\n(0 )\n(plain)\n"; writes = "(refused 2 6)\n" } ∷
    record { text = "(module 0\n(line 1\n(exitif)\n(for NOTES% framed)\n(exit)\n(plain)\n)\n(line 10\n)\n(line 20\n(for N% dispatched)\n(exit)\n(exit)\n()\n)\n"; writes = "(refused 2 13)\n" } ∷
    record { text = "(module 1\n(line 0\n(until)\n)\n(line 10\n(next plain * *)\n)\n(line framed\n(plain)\n(clr)\n)\n(line 100\n(ifelse\n(to 10)\n(stmts\n(plain)\n(for CP% dispatched)\n)\n)\n(next plain * CP%)\n)\n(line 999\n)\n)\n"; writes = "(refused 2 7)\n" } ∷
    record { text = "(module 1\n(line 0\n(gosub 20)\n(ifelse\n(to 20 0)\n(stmts\n(goto 20)\n(endloop)\n)\n)\n(plain)\n)\n)\n"; writes = "(refused 2 4)\n" } ∷
    record { text = "(module 1\n(line 1\n(for I% dispatched)\n)\n(line 999\n(done)\n(stop)\n(plain)\n(to 1)\n(ifelse\n(to 999)\n)\n(doif)\n(next orphan I%)\n(exit)\n(endloop)\n(loop)\n)\n)\n"; writes = "(refused 2 8)\n" } ∷
    record { text = "(module 0\n(line \n(return)\n)\n(line 30\n(run 65535)\n(run)\n)\n(line 40\n(ongosub 5 5)\n)\n(line 999\n(clr)\n(goto 5)\n(gosub 5)\n(ongosub 10 10 10 10 10 10 10 10 10 10 10 10 10 10 10 10 10 10 10 10 10 10 10 10 10 10 10 10 10 10 10 10 10 10 10 10 10 10 10 10 10 10 10 10 10 10 10 10 10 10 10 10 10 10 10 10 10 10 10 10 10 10 10 10 10)\n)\n(line 65535\n(ongoto)\n(ongoto 65535)\n(goto 65535)\n(goto 5)\n(run 40)\n(ifelse\n(stmts\n)\n(to 5)\n)\n)\n)\n"; writes = "(refused 2 1)\n" } ∷
    record { text = "(module 0\n(line 65535\n(return)\n(for A$ dispatched)\n(gosub 1)\n(for A1 dispatched)\n(next orphan *)\n(next plain I I I I I I I I I I I I I I I I I I I I I I I I I I I I I I I I I I I I I I I I I I I I I I I I I I I I I I I I I I I I I I I I I)\n)\n)\n"; writes = "(refused 8 7)\n" } ∷
    record { text = "(module 0\n(line 5\n(gosub 5)\n(repeat)\n(exitif)\n(next plain *)\n(65534)\n(exit)\n(endloop)\n(if\n(stmts\n)\n)\n(return)\n)\n(line 65534\n(loop)\n(for A2B2 static)\n(exitif)\n(exitif)\n)\n)\n"; writes = "(refused 2 6)\n" } ∷
    record { text = "(module 0\n(if)\n(line 0\n(COUNTER% any)\n(gosub 0)\n(ongosub 0 0)\n(return)\n)\n(line 30\n(goto goto 30)\n(if\n(stmts\n)\n)\n)\n)\n"; writes = "(refused 2 1)\n" } ∷
    record { text = "(module 0\n(line if\n(for AB% static)\n(plain)\n(next plain ABCDEFGH%)\n(gosub)\n)\n(line 40\n(ifelse\n(stmts\n(run)\n(plain)\n(if\n(stmts\n)\n)\n)\n(stmts\n)\n)\n)\n(line 999\n(return)\n(ongosub clr 999)\n)\n)\n"; writes = "(refused 2 1)\n" } ∷
    record { text = "(module 1\n(line 20\n(if\n(to 20)\n)\n)\n(line 30\n(endloop)\n(doif)\n(gosub 1234567890123456789012345678901234567890 30)\n(return)\n)\n(line 999\n(for CO2 static)\n(next plain *)\n(plain)\n(plain)\n)\n)\n"; writes = "(refused 2 9)\n" } ∷
    record { text = "(line 50\n(for COUNTER% static)\n)\n(line 999\n(next plain COUNTER% COUNTER)\n(next plain *)\n(module 0\n(for J static)\n)\n)\n"; writes = "(refused 2 0)\n" } ∷
    record { text = "(module 0\n(line 65534\n)\n )\n"; writes = "(refused 2 3)\n" } ∷
    record { text = "(module module 0\n(line 10\n(return)\n(return)\n)\n(line 20\n(gosub 30)\n(return)\n)\n(line 30\n(ongosub)\n(return)\n)\n()\n"; writes = "(refused 2 0)\n" } ∷
    record { text = "(module 0\n(line 0\n(if\n(to 999)\n)\n)\n(line 65535\n(for L static)\n(any)\n(rcomp\n(stmts\n(run -1)\n)\n)\n)\n(line 999\n(next plain L)\n)\n)\n"; writes = "(refused 2 11)\n" } ∷
    record { text = "(module 1\n(line 1\n(for LOOPVAR2 static)\n(for ABCDEFGH dispatched)\n(plain)\n(gosub 65535)\n(goto 1)\n)\n(line 30\n(next orphan AB%)\n(next orphan LOOPVAR2)\n(next plain LOOPVAR2 * * *)\n(for ABCDEFGH dispatched)\n)\n(line 100\n(for ABCDEFGH% dispatched)\n(doif)\n)\n(line ABCDEFGHI%\n(clr)\n(plain)\n)\n(line 65535\n(return)\n)\n)\n"; writes = "(refused 2 18)\n" } ∷
    record { text = "(module endloop\n(line 20\n(doif)\n(COUNTER% plain *)\n\n(done)\n)\n(line 65535\n(doif)\n(for COUNT static)\n)\n)\n"; writes = "(refused 2 0)\n" } ∷
    record { text = "(module 1\n(line 65535\n(plain)\n(for Z9Z% dispatched)\n(next orphan *)\n(gosb 65535)\n(return)\n)\n)\n"; writes = "(refused 2 5)\n" } ∷
    record { text = "(module 0\n(line 0\n(next plain * *)\n(return)\n)\n(line 1\n(for X framed)\n(if\n(stmts\n)\n)\n(ongoto 65534 1 40)\n(gosub 1)\n)\n(line 5\n(any)\n(gosub 0)\n(gosub 0)\n)\n(line 40\n)\n(line 100\n(next plain *)\n(ongoto 65534)\n(return)\n)\n(line 65534\n((any)\n(clr)\n(any)\n)\n)\n"; writes = "(refused 2 27)\n" } ∷
    record { text = "(module  1\n(lin 100\n(for CO% static)\n(loop)\n(repeat)\n(return)\n(any)\n)\n(line 999\n(repeat)\n)\n(line 6553\n(return)\n(next plain CO%)\n(gosub 100)\n(ifelse\n(to 100)\n(to 100)\n)\n(gosub 100)\n)\n)\n"; writes = "(refused 2 0)\n" } ∷
    record { text = "(module 0\n(line 30\n(line 30\n(loop)\n(return)\n)\n(line 100\n(exit)\n(gosub 30)\n(endloop)\n(until)\n(endloop)\n)\n(line 999\n(ongosub 30 30)\n(endloop)\n(until)\n)\n)\n"; writes = "(refused 2 2)\n" } ∷
    record { text = "module 1\n(line 20\n(exit)\n(exitif)\n(until)\n(endloop)\n(next plain *)\n(until)\n)\n(line 50\n(exit)\n(endloop)\n(exit)\n)\n(line 65534\n(done)\n(else)\n(for Z9999999$ static)\n(plain)\n)\n)\n"; writes = "(refused 2 0)\n" } ∷
    record { text = "(module 0\n(line 10\n(if\n(stmts\n(repeat)\n(any)\n(for LO framed)\n)\n)\n(return)\n(ongosub 10 10)\n(gosub 10)\n)\n)"; writes = "(refused 2 13)\n" } ∷
    record { text = "(module 0\n(line 0\n(done)\n(loop)\n(ongosub)\n)\n(line 1\n(return)\n(return)\n)\n("; writes = "(refused 2 10)\n" } ∷
    record { text = "(module 0\n(line 5\n(return)\n)\n(line 10\n(clr)\n(if\n(stmts\n(goto 5 4294967306)\n(ifelse\n(to 10)\n(stmts\n(for Z$ dispatched)\n(clr)\n)\n)\n)\n)\n(ongoto)\n(else)\n)\n(line 40 40\n(gosub 5)\n)\n)\n"; writes = "(refused 2 8)\n" } ∷
    record { text = "(module 0\n(line 30 30\n(clr)\n(return)\n-\n(line 100\n(run 1)\n(return)\n(return)\n)\n(line 999\n(gosub 100)\n(next orphan A2B2 A2B2 AB% CO2)\n)\n)\n"; writes = "(refused 2 1)\n" } ∷
    record { text = "(module 0\n(line 20\n)\n\n(line 100\n(if\n(stmts\n(if\n(stmts\n)\n)\n(stop)\n(any)\n)\n)\n(if\n(stmts\n)\n)\n)\n(line 65534\n)\n)\n"; writes = "(refused 2 3)\n" } ∷
    record { text = "(module 1\n(line 0\n(plain)\n(plain)\n(doif)\n(else)\n(done)\n(doif)\n(ongoto 10 10 10 10 10 00 10 10 10 10 10 10 10 10 10 10 10 10 10 10 10 10 10 10 10 10 10 10 10 10 10 10 10 10 10 10 10 10 10 10 10 10 10 10 10 10 10 10 10 10 10 10 10 10 10 10 10 10 10 10 10 10 10 10)\n )\n(line 50\n)\n"; writes = "(refused 3 8)\n" } ∷
    record { text = "(module 1\n(line 1\n(else)\n(doif)\n(else)\n)\n(line 10\n(for Z9999999$ static)\n(plain)\n(gosub 65535)\n)\n(line 50\n(plain)\n(doif)\n)\n(line 999\n(next plain Z9999999$)\n(line 65535\n(repeat)\n(doif)\n(gosub 1)\n)\n(else)\n(return)\n)\n)\n"; writes = "(refused 2 17)\n" } ∷
    record { text = "(module 0\n(line 1\n(next orphan N% N% NOTES% *)\n(gosub 65535)\n(goto 1)\n(ongoto 10)\n(gosub 65535)\n)\n(line 10\n(run)\n(gosub 10)\n)\n(line 65534\n(ongoto 1)\n(for N% dispatched 99999)\n)\n(line 65535\n(return)\n(return)\n)\n)\n"; writes = "(refused 2 14)\n" } ∷
    record { text = "(stmts module 1\n(line 1\n(done)\n(gosub 1)\n(exit)\n(ifelse\n(to 5)\n(stmts\n(stmts\n(else)\n)\n)\n(endloop)\n(return)\n(any)\n)\n(line 5\n(next plain J)\n)\n)\n"; writes = "(refused 2 0)\n" } ∷
    record { text = "(module 0\n(line 5\n(gosub 5)\n(next orphan CO1)\n(goto 5)\n(gosub 65535)\n)\n(line 30\n(ongosub 5)\n(return)\n(ongosub 5)\n(ifelse\n(to 5)\n(to 65535)\n)\n(ongosub 30 5)\n)\n(line 65535\n(ongosub 65535 65535 30 5 ABCDEFGH$)\n)\n)\n"; writes = "(refused 2 18)\n" } ∷
    record { text = "(module 0\n(line 50\n(if\n(stmts\n(rcomp\n(to 10)\n(stmts\n(if\n(stmts\n(ifelse\n(to 10)\n(stmts\n(ifelse\n(stmts\n(ifelse\n(stmts\n(rcomp\n(to 10)\n(stmts\n(ifelse\n(to 10)\n(stmts\n(if\n(stmts\n(ifelse\n(stmts\n(if\n(stmts\n(rcomp\n(stmts\n)\n(stmts\n(ifelse\n(stmts\n(rcomp\n(rcomp\n(stmts\n)\n(stmts\n(if\n(stmts\n(rcomp\n(stmts\n(ifelse\n(to 10 10)\n(stmts\n(ongosub 50 65535 50 65535)\n(gosub 65535)\n)\n)\n)\n)\n)\n)\n)\n)\n)\n(to 10)\n)\n)\n)\n)\n)\n)\n(to 10)\n)\n)\n)\n)\n)\n)\n)\n)\n(stmts\n)\n)\n)\n(stmts\n)\n)\n)\n)\n)\n)\n)\n)\n)\n)\n)\n(line 65535\n(plain)\n(ongosub 65535 65535)\n(plain)\n(return)\n)\n)\n"; writes = "(refused 2 35)\n" } ∷
    record { text = "(module "; writes = "(refused 2 0)\n" } ∷
    record { text = "(module exitif 0\n(line 30\n(if\n(stmts\n)\n)\n(for COUNTER static)\n(clr)\n(if\n(stmts\n(if\n(stmts\n)\n)\n(clr)\n)\n)\n(next plain *)\n(goto 30)\n)\n(line 65535 A%%\n(exitif)\n(repeat)\n)\n)\n"; writes = "(refused 2 0)\n" } ∷
    record { text = "(stmts\n(module 0\n(line 65535\n(return)\n(for K static)\n(ongosub 65535 65535)\n(next plain K)\n(next plain I I I I I I I I I I I I I I I I I I I I I I I I I I I I I I I I I I I I I I I I I I I I I I I I I I I I I I I I I I I I I I I I)\n)\n)\n"; writes = "(refused 2 0)\n" } ∷
    record { text = "(module 0\n(line 1\n(sto0)\n(return)\n)\n(line 65535\n(gosub 65535)\n(for AC% static)\n(next plain AC%)\n)\n"; writes = "(refused 2 2)\n" } ∷
    record { text = "(module static\n(line 100\n(stop)\n(next orphan)\n(exitif)\n(for 1 static)\n(for A% framed)\n(exitif)\n(endloop)\n(plain)\n(next plain A%)\n)\n)\n"; writes = "(refused 2 0)\n" } ∷
    record { text = "(module 0\n(line 100\n(if\n(stmts\n)\n)\n(if\n(stmts\n\n)\n)\n)\n)\n"; writes = "(refused 2 8)\n" } ∷
    record { text = "(modtle 0\n(line 5\n(next orphan LOOPVAR1)\n(plain)\n(for CO2 framed)\n(return)\n(gosub 999)\n)\n(line 999\n(gosub 999)\n)\n)\n"; writes = "(refused 2 0)\n" } ∷
    record { text = "(module 0\n(line 65534\n(plain)\n(else)\n(plain dispatched)\n(plain)\n(done)\n)\n)\n"; writes = "(refused 2 4)\n" } ∷
    record { text = "(module 0 0\n(line 10\n(ifelse\n(stmts\n(run 10)\n(exitif)\n)\n(stmts\n)\n)\n)\n(line 20\n(gosub 20)\n(return)\n)\n)\n"; writes = "(refused 2 0)\n" } ∷
    record { text = "(module 0\n(line\n(else)\n(next plain Z$)\n(done)\n)\n(line 10\n(doif)\n(plain)\n(return)\n)\n(line 40\n)\n(line 999\n(for Z$ static)\n(gosub 10)\n)\n"; writes = "(refused 2 1)\n" } ∷
    record { text = "(goto 65536)\n(module 1\n(line 50\n(for COUNT% static)\n(ongosub)\n(any)\n)\n)\n"; writes = "(refused 2 0)\n" } ∷
    record { text = "(module 1\n(line 0\n(ongosub 10 10)\n(if\n(stmts\n)\n)\n(next orphan CO X COUNTER CO1)\n)\n(line 10\n(next orphan CO1 COUNT)\n(loop)\n(return)\n)\n(line 20\n(gosub 10)\n(any)\n\n)\n"; writes = "(refused 2 17)\n" } ∷
    record { text = "(module 0\n(line 0\n)\n(for COUNT dispatched)\n(return)\n)\n(line 999\n(exitif)\n)\n)\n"; writes = "(refused 2 3)\n" } ∷
    record { text = "(module 0\n(line 007\n)\n(line 50\n(next plain)\n(ongosub 50 10 50)\n(return)\n)\n(line 100\n(next orphan COUNTERS)\n(for COUNTERS framed)\n)\n)\n"; writes = "(refused 3 1)\n" } ∷
    record { text = "(module 0\n(line 100\n(done)\n(if\n(stmts\n(if\n(to 100)\n)\n(next NO% NO% * NO%)\n)\n)\n)\n (line 999\n(for NOTE% static)\n(next plain *)\n)\n)\n"; writes = "(refused 2 8)\n" } ∷
    record { text = "(module 0\n(line 5\n(any repeat)\n(endloop)\n(exitif)\n(exitif)\n(return)\n)\n(line 10\n(gosub 5)\n(endloop)\n(exitif)\n(exit)\n)\n(line 100\n(rcomp\n(stmts\n(exitif)\n(run)\n(exitif)\n)\n(stmts\n)\n)\n)\n)\n"; writes = "(refused 2 2)\n" } ∷
    record { text = "(module 0\n(line 1\n(exitif)\n(doif)\n(loop)\n)\n(line 999\n(else)\n(line 20\n)\n)\n"; writes = "(refused 2 8)\n" } ∷
    record { text = "(module 1\n(line 40\n(goto I%)\n(gosub 40)\n(loop)\n(stop)\n(endloop)\n(any)\n)\n)\n"; writes = "(refused 2 2)\n" } ∷
    record { text = "(module 0\n((line 0\n(next orphan *)\n(for LOOPVAR1$ static)\n(return)\n(for N% dispatched)\n(next plain LOOPVAR1$)\n)\n)\n"; writes = "(refused 2 1)\n" } ∷
    record { text = "(module 0\n(line 30\n(rcomp\n(stmts\n)\n(stmts\n(rcomp\n(stmts\n(ifelse\n(stmts\n(rcomp\n(stmts\n(ifelse\n(stmts\n)\n(stmts\n(ifelse\n(to 10)\n(stmts\n(rcomp\n(stmts\n(if\n(stmts\n(rcomp\n(stmts\n)\n(stmts\n(rcomp\n(to 10)\n(stmts\n(ifelse\n(to 10)\n(stmts\n(ifelse\n(stmts\n(to 10)\n(stmts\n(if\n(ifelse\n(stmts\n(rcomp\n(to 10)\n(stmts\n(ifelse\n(stmts\n)\n(stmts\n(gosub 100)\n(until)\n)\n)\n)\n)\n)\n(stmts\n)\n)\n)\n)\n)\n)\n)\n)\n)\n)\n)\n)\n)\n)\n)\n)\n)\n)\n)\n)\n)\n)\n)\n(stmts\n)\n)\n)\n)\n( goto)\n)\n)\n(line 100\n(return)\n(gosub 100)\n(ongosub 100 100)\n)\n)\n"; writes = "(refused 2 35)\n" } ∷
    []

right-table : T (right table)
unfolding opened right table
right-table = tt
