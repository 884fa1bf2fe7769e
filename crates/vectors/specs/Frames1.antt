-- Random listings with the original's opening words and frame lists. Assumes nothing.
use Rattle.std.specs.Prelude.{List, [], ◌∷◌, true, false, T}
use Rattle.vectors.specs.Vector.{AskVector, right_asks, opened, word, frame}

table : List AskVector
table =
    record { text = "(module 0\n(line 50\n(for COUNTER dispatched)\n(gosub 50)\n(next orphan)\n(for COUNTERS dispatched)\n(next orphan COUNTER)\n(return)\n)\n)\n"; asks = word 0 "for" ∷ word 1 "gosub" ∷ word 2 "next" ∷ word 3 "for" ∷ word 4 "next" ∷ word 5 "return" ∷ frame 0 3 "COABCDEF" true ([]) ∷ frame 0 3 "COUNTERS" true ([]) ∷ frame 0 4 "CO" false (4 ∷ 5 ∷ 1 ∷ []) ∷ frame 0 4 "COABCDEF" true (1 ∷ []) ∷ frame 1 0 "CO" false ([]) ∷ frame 1 1 "CO" false (2 ∷ []) ∷ frame 1 1 "COUNTER" false (2 ∷ []) ∷ frame 1 1 "COUNTER%" true (2 ∷ []) ∷ frame 1 1 "COUNTERS" true (2 ∷ []) ∷ frame 1 3 "COUNTER" true ([]) ∷ frame 1 4 "CO" true ([]) ∷ frame 1 4 "COABCDEF" true ([]) ∷ frame 1 4 "COUNTER%" false (4 ∷ 5 ∷ 1 ∷ []) ∷ frame 1 5 "COUNTERS" false ([]) ∷ frame 2 0 "COUNTER" false ([]) ∷ frame 2 0 "COUNTER%" false (1 ∷ []) ∷ frame 2 2 "CO" false (3 ∷ []) ∷ frame 2 2 "CO" true (3 ∷ []) ∷ frame 2 3 "CO" false ([]) ∷ frame 2 3 "COUNTER" false ([]) ∷ frame 2 3 "COUNTER%" false (4 ∷ []) ∷ frame 2 4 "COABCDEF" true ([]) ∷ frame 2 4 "COUNTER%" false (4 ∷ 5 ∷ 1 ∷ []) ∷ frame 3 0 "COUNTER%" false (1 ∷ []) ∷ frame 3 1 "COUNTER%" false (2 ∷ []) ∷ frame 3 3 "COABCDEF" false ([]) ∷ frame 3 4 "CO" false (4 ∷ 5 ∷ 1 ∷ []) ∷ frame 3 4 "COUNTERS" true (4 ∷ []) ∷ frame 3 5 "COABCDEF" true ([]) ∷ frame 4 0 "COUNTER%" false (1 ∷ []) ∷ frame 4 3 "COABCDEF" false ([]) ∷ frame 4 3 "COUNTER%" true (4 ∷ []) ∷ frame 4 3 "COUNTERS" false ([]) ∷ frame 4 4 "CO" false (4 ∷ 5 ∷ 1 ∷ []) ∷ frame 5 1 "CO" false (2 ∷ []) ∷ frame 5 1 "COUNTER%" true (2 ∷ []) ∷ frame 5 1 "COUNTERS" false (2 ∷ []) ∷ frame 5 3 "COABCDEF" true ([]) ∷ frame 5 3 "COUNTERS" false ([]) ∷ frame 5 4 "COUNTER%" true ([]) ∷ [] } ∷
    record { text = "(module 0\n(line 5\n(ifelse\n(stmts\n(return)\n(gosub 10)\n)\n(stmts\n(gosub 10)\n(return)\n)\n)\n(return)\n)\n(line 10\n(ongosub 10 10)\n(return)\n(ongosub 10 10)\n)\n)\n"; asks = word 0 "ifelse" ∷ word 1 "return" ∷ word 2 "gosub" ∷ word 3 "gosub" ∷ word 4 "return" ∷ word 5 "return" ∷ word 6 "ongosub" ∷ word 7 "return" ∷ word 8 "ongosub" ∷ frame 0 0 "QU" false (1 ∷ 3 ∷ []) ∷ frame 0 2 "QU" false (5 ∷ []) ∷ frame 0 3 "QU" false (4 ∷ []) ∷ frame 0 5 "QU" false ([]) ∷ frame 0 6 "QU" true (7 ∷ []) ∷ frame 0 8 "QU" false ([]) ∷ frame 1 0 "QU" false (1 ∷ 3 ∷ []) ∷ frame 1 4 "QU" true ([]) ∷ frame 1 5 "QU" false ([]) ∷ frame 1 6 "QU" false (7 ∷ []) ∷ frame 1 8 "QU" false ([]) ∷ frame 2 0 "QU" true (1 ∷ 3 ∷ []) ∷ frame 2 4 "QU" false ([]) ∷ frame 2 5 "QU" false ([]) ∷ frame 2 7 "QU" true ([]) ∷ frame 2 8 "QU" false ([]) ∷ frame 3 0 "QU" true (1 ∷ 3 ∷ []) ∷ frame 3 1 "QU" true ([]) ∷ frame 3 5 "QU" false ([]) ∷ frame 3 8 "QU" false ([]) ∷ frame 3 8 "QU" true ([]) ∷ frame 4 1 "QU" true ([]) ∷ frame 4 4 "QU" true ([]) ∷ frame 5 7 "QU" true ([]) ∷ frame 5 8 "QU" true ([]) ∷ frame 6 3 "QU" false (4 ∷ []) ∷ frame 6 3 "QU" true (4 ∷ []) ∷ frame 6 4 "QU" true ([]) ∷ frame 6 6 "QU" false (7 ∷ []) ∷ frame 7 0 "QU" true (1 ∷ 3 ∷ []) ∷ frame 7 1 "QU" false ([]) ∷ frame 7 1 "QU" true ([]) ∷ frame 7 5 "QU" false ([]) ∷ frame 7 8 "QU" true ([]) ∷ frame 8 0 "QU" false (1 ∷ 3 ∷ []) ∷ frame 8 4 "QU" false ([]) ∷ frame 8 6 "QU" false (7 ∷ []) ∷ frame 8 6 "QU" true (7 ∷ []) ∷ frame 8 7 "QU" false ([]) ∷ frame 8 8 "QU" false ([]) ∷ [] } ∷
    record { text = "(module 1\n(line 0\n)\n(line 5\n(return)\n(gosub 5)\n(for COUNTER% dispatched)\n(return)\n)\n(line 20\n(until)\n(gosub 100)\n)\n(line 100\n(ongosub 0 0 65535)\n(rcomp\n(stmts\n)\n)\n)\n(line 65535\n(doif)\n(rcomp\n(stmts\n)\n)\n(plain)\n)\n)\n"; asks = word 0 "return" ∷ word 1 "gosub" ∷ word 2 "for" ∷ word 3 "return" ∷ word 4 "until" ∷ word 5 "gosub" ∷ word 6 "ongosub" ∷ word 7 "rcomp" ∷ word 8 "doif" ∷ word 9 "rcomp" ∷ word 10 "plain" ∷ frame 0 1 "COUNTER" true (2 ∷ []) ∷ frame 0 7 "COUNTER" false (8 ∷ []) ∷ frame 1 1 "COABCDEF%" false (2 ∷ []) ∷ frame 1 1 "COABCDEF%" true (2 ∷ []) ∷ frame 1 1 "COUNTER" false (2 ∷ []) ∷ frame 1 1 "COUNTER%" true (2 ∷ []) ∷ frame 1 2 "COUNTER%" false ([]) ∷ frame 1 5 "COUNTER%" true (6 ∷ []) ∷ frame 1 6 "CO%" true (7 ∷ []) ∷ frame 2 3 "COUNTER" false ([]) ∷ frame 2 4 "COUNTER" false ([]) ∷ frame 2 4 "COUNTER%" true ([]) ∷ frame 2 5 "COABCDEF%" false (6 ∷ []) ∷ frame 2 9 "COABCDEF%" true (10 ∷ []) ∷ frame 3 1 "COABCDEF%" true (2 ∷ []) ∷ frame 3 3 "COUNTER%" false ([]) ∷ frame 3 3 "COUNTER%" true ([]) ∷ frame 3 4 "COABCDEF%" false ([]) ∷ frame 3 8 "COUNTER%" true (9 ∷ []) ∷ frame 4 3 "COUNTER%" true ([]) ∷ frame 4 8 "CO%" true (9 ∷ []) ∷ frame 5 0 "COUNTER%" false ([]) ∷ frame 6 0 "CO%" true ([]) ∷ frame 6 0 "COUNTER%" false ([]) ∷ frame 6 4 "COUNTER" true ([]) ∷ frame 6 6 "COABCDEF%" false (7 ∷ []) ∷ frame 6 7 "COUNTER" false (8 ∷ []) ∷ frame 7 4 "COABCDEF%" true ([]) ∷ frame 7 7 "COABCDEF%" true (8 ∷ []) ∷ frame 7 7 "COUNTER%" false (8 ∷ []) ∷ frame 7 10 "COABCDEF%" true ([]) ∷ frame 8 0 "COUNTER" false ([]) ∷ frame 8 4 "CO%" true ([]) ∷ frame 9 0 "CO%" true ([]) ∷ frame 9 3 "COUNTER%" true ([]) ∷ frame 10 0 "CO%" true ([]) ∷ frame 10 2 "CO%" true ([]) ∷ frame 10 5 "COUNTER" false (6 ∷ []) ∷ frame 10 8 "CO%" false (9 ∷ []) ∷ frame 10 9 "CO%" true (10 ∷ []) ∷ [] } ∷
    record { text = "(module 1\n(line 100\n(gosub 100)\n(any)\n(gosub 100)\n(return)\n)\n)\n"; asks = word 0 "gosub" ∷ word 1 "any" ∷ word 2 "gosub" ∷ word 3 "return" ∷ frame 0 0 "QU" false (1 ∷ []) ∷ frame 0 0 "QU" true (1 ∷ []) ∷ frame 0 1 "QU" false (0 ∷ []) ∷ frame 0 1 "QU" true (0 ∷ []) ∷ frame 0 2 "QU" false (3 ∷ []) ∷ frame 0 2 "QU" true (3 ∷ []) ∷ frame 0 3 "QU" false ([]) ∷ frame 0 3 "QU" true ([]) ∷ frame 1 0 "QU" false (1 ∷ []) ∷ frame 1 0 "QU" true (1 ∷ []) ∷ frame 1 1 "QU" false (0 ∷ []) ∷ frame 1 1 "QU" true (0 ∷ []) ∷ frame 1 2 "QU" false (3 ∷ []) ∷ frame 1 2 "QU" true (3 ∷ []) ∷ frame 1 3 "QU" false ([]) ∷ frame 1 3 "QU" true ([]) ∷ frame 2 0 "QU" false (1 ∷ []) ∷ frame 2 0 "QU" true (1 ∷ []) ∷ frame 2 1 "QU" false (0 ∷ []) ∷ frame 2 1 "QU" true (0 ∷ []) ∷ frame 2 2 "QU" false (3 ∷ []) ∷ frame 2 2 "QU" true (3 ∷ []) ∷ frame 2 3 "QU" false ([]) ∷ frame 2 3 "QU" true ([]) ∷ frame 3 0 "QU" false (1 ∷ []) ∷ frame 3 0 "QU" true (1 ∷ []) ∷ frame 3 1 "QU" false (0 ∷ []) ∷ frame 3 1 "QU" true (0 ∷ []) ∷ frame 3 2 "QU" false (3 ∷ []) ∷ frame 3 2 "QU" true (3 ∷ []) ∷ frame 3 3 "QU" false ([]) ∷ frame 3 3 "QU" true ([]) ∷ [] } ∷
    record { text = "(module 0\n(line 0\n(ongosub 30)\n(run 30)\n(run)\n(next plain J * J)\n)\n(line 1\n(for J framed)\n)\n(line 5\n(return)\n(repeat)\n(for J static)\n(any)\n)\n(line 30\n(next plain *)\n(ifelse\n(stmts\n(run 65534)\n)\n(to 0)\n)\n)\n)\n"; asks = word 0 "ongosub" ∷ word 1 "run" ∷ word 2 "run" ∷ word 3 "next" ∷ word 4 "for" ∷ word 5 "return" ∷ word 6 "repeat" ∷ word 7 "for" ∷ word 8 "any" ∷ word 9 "next" ∷ word 10 "ifelse" ∷ word 11 "run" ∷ frame 0 0 "J%" false (1 ∷ []) ∷ frame 0 1 "J" false ([]) ∷ frame 1 5 "J" false ([]) ∷ frame 1 10 "J" true (11 ∷ 0 ∷ []) ∷ frame 2 3 "J" true ([]) ∷ frame 3 0 "J%" true (1 ∷ []) ∷ frame 3 1 "J" true ([]) ∷ frame 3 2 "J%" false ([]) ∷ frame 3 3 "J" false (4 ∷ []) ∷ frame 3 4 "J" true ([]) ∷ frame 4 2 "J" false ([]) ∷ frame 4 3 "J" false (4 ∷ []) ∷ frame 4 5 "J" true ([]) ∷ frame 5 5 "J" true ([]) ∷ frame 5 7 "J%" false (8 ∷ []) ∷ frame 5 9 "J%" true ([]) ∷ frame 5 10 "J%" false (11 ∷ 0 ∷ []) ∷ frame 6 1 "J%" true ([]) ∷ frame 6 6 "J%" true (7 ∷ []) ∷ frame 6 7 "J" true ([]) ∷ frame 6 7 "J%" false (8 ∷ []) ∷ frame 6 8 "J%" false (0 ∷ 4 ∷ 5 ∷ 9 ∷ []) ∷ frame 7 2 "J" true ([]) ∷ frame 7 6 "J" true (7 ∷ []) ∷ frame 8 0 "J%" true (1 ∷ []) ∷ frame 8 5 "J" true ([]) ∷ frame 8 11 "J" true ([]) ∷ frame 9 0 "J" false (1 ∷ []) ∷ frame 9 3 "J" true ([]) ∷ frame 9 8 "J%" true (0 ∷ 4 ∷ 5 ∷ 9 ∷ []) ∷ frame 9 11 "J" false ([]) ∷ frame 10 4 "J%" true (5 ∷ []) ∷ frame 10 5 "J" true ([]) ∷ frame 10 6 "J%" false (7 ∷ []) ∷ frame 10 6 "J%" true (7 ∷ []) ∷ frame 10 9 "J" false (8 ∷ 10 ∷ []) ∷ frame 10 10 "J" false (11 ∷ 0 ∷ []) ∷ frame 11 0 "J%" true (1 ∷ []) ∷ frame 11 3 "J" true ([]) ∷ frame 11 4 "J%" true (5 ∷ []) ∷ [] } ∷
    record { text = "(module 0\n(line 1\n(for CO static)\n(if\n(to 10)\n)\n(repeat)\n(until)\n(return)\n(gosub 1)\n(for CO dispatched)\n)\n(line 10\n(next plain CO2)\n(goto 1)\n(any)\n(ifelse\n(stmts\n)\n(to 1)\n)\n)\n)\n"; asks = word 0 "for" ∷ word 1 "if" ∷ word 2 "repeat" ∷ word 3 "until" ∷ word 4 "return" ∷ word 5 "gosub" ∷ word 6 "for" ∷ word 7 "next" ∷ word 8 "goto" ∷ word 9 "any" ∷ word 10 "ifelse" ∷ frame 0 1 "CO2" true (7 ∷ 2 ∷ []) ∷ frame 0 7 "CO2" false (7 ∷ 8 ∷ []) ∷ frame 1 1 "CO%" false (7 ∷ 2 ∷ []) ∷ frame 1 1 "CO%" true (7 ∷ 2 ∷ []) ∷ frame 1 1 "CO2" false (7 ∷ 2 ∷ []) ∷ frame 1 1 "COABCDEF" true (7 ∷ 2 ∷ []) ∷ frame 1 2 "COABCDEF" false (3 ∷ []) ∷ frame 1 5 "COABCDEF" true (6 ∷ []) ∷ frame 1 6 "CO" true ([]) ∷ frame 2 3 "CO2" false (3 ∷ 4 ∷ []) ∷ frame 2 4 "CO2" false ([]) ∷ frame 2 4 "COABCDEF" true ([]) ∷ frame 2 5 "CO%" false (6 ∷ []) ∷ frame 2 9 "CO%" true (0 ∷ 7 ∷ []) ∷ frame 3 1 "CO%" true (7 ∷ 2 ∷ []) ∷ frame 3 3 "COABCDEF" false (3 ∷ 4 ∷ []) ∷ frame 3 3 "COABCDEF" true (3 ∷ 4 ∷ []) ∷ frame 3 4 "CO%" false ([]) ∷ frame 3 8 "COABCDEF" true (0 ∷ []) ∷ frame 4 3 "COABCDEF" true (3 ∷ 4 ∷ []) ∷ frame 4 8 "CO" true (0 ∷ []) ∷ frame 5 0 "COABCDEF" false ([]) ∷ frame 6 0 "CO" true ([]) ∷ frame 6 0 "COABCDEF" false ([]) ∷ frame 6 4 "CO2" true ([]) ∷ frame 6 6 "CO%" false (7 ∷ []) ∷ frame 6 7 "CO2" false (7 ∷ 8 ∷ []) ∷ frame 7 4 "CO%" true ([]) ∷ frame 7 7 "CO%" true (7 ∷ 8 ∷ []) ∷ frame 7 7 "COABCDEF" false (7 ∷ 8 ∷ []) ∷ frame 7 10 "CO%" true (0 ∷ []) ∷ frame 8 0 "CO2" false ([]) ∷ frame 8 4 "CO" true ([]) ∷ frame 9 0 "CO" true ([]) ∷ frame 9 3 "COABCDEF" true (3 ∷ 4 ∷ []) ∷ frame 10 0 "CO" true ([]) ∷ frame 10 2 "CO" true (3 ∷ []) ∷ frame 10 5 "CO2" false (6 ∷ []) ∷ frame 10 8 "CO" false (0 ∷ []) ∷ frame 10 9 "CO" true (0 ∷ 7 ∷ []) ∷ [] } ∷
    record { text = "(module 0\n(line 30\n(any)\n)\n(line 999\n(return)\n(next orphan COUNTERS$)\n)\n)\n"; asks = word 0 "any" ∷ word 1 "return" ∷ word 2 "next" ∷ frame 0 0 "CO$" false (0 ∷ 1 ∷ []) ∷ frame 0 0 "CO$" true (0 ∷ 1 ∷ []) ∷ frame 0 0 "COUNTERS" false (0 ∷ 1 ∷ []) ∷ frame 0 0 "COUNTERS" true (0 ∷ 1 ∷ []) ∷ frame 0 1 "CO$" true ([]) ∷ frame 0 1 "COABCDEF$" true ([]) ∷ frame 0 1 "COUNTERS$" false ([]) ∷ frame 0 1 "COUNTERS$" true ([]) ∷ frame 0 2 "CO$" false ([]) ∷ frame 0 2 "CO$" true ([]) ∷ frame 0 2 "COABCDEF$" false ([]) ∷ frame 0 2 "COABCDEF$" true ([]) ∷ frame 0 2 "COUNTERS" false ([]) ∷ frame 0 2 "COUNTERS$" false ([]) ∷ frame 0 2 "COUNTERS$" true ([]) ∷ frame 1 0 "COABCDEF$" false (0 ∷ 1 ∷ []) ∷ frame 1 0 "COUNTERS" false (0 ∷ 1 ∷ []) ∷ frame 1 0 "COUNTERS" true (0 ∷ 1 ∷ []) ∷ frame 1 0 "COUNTERS$" true (0 ∷ 1 ∷ []) ∷ frame 1 1 "CO$" false ([]) ∷ frame 1 1 "COUNTERS" true ([]) ∷ frame 1 1 "COUNTERS$" true ([]) ∷ frame 1 2 "CO$" false ([]) ∷ frame 1 2 "CO$" true ([]) ∷ frame 1 2 "COABCDEF$" true ([]) ∷ frame 1 2 "COUNTERS" false ([]) ∷ frame 1 2 "COUNTERS$" false ([]) ∷ frame 1 2 "COUNTERS$" true ([]) ∷ frame 2 0 "CO$" false (0 ∷ 1 ∷ []) ∷ frame 2 0 "CO$" true (0 ∷ 1 ∷ []) ∷ frame 2 0 "COABCDEF$" true (0 ∷ 1 ∷ []) ∷ frame 2 1 "CO$" true ([]) ∷ frame 2 1 "COABCDEF$" false ([]) ∷ frame 2 1 "COUNTERS" false ([]) ∷ frame 2 1 "COUNTERS" true ([]) ∷ frame 2 2 "CO$" false ([]) ∷ frame 2 2 "COABCDEF$" false ([]) ∷ frame 2 2 "COUNTERS" true ([]) ∷ frame 2 2 "COUNTERS$" false ([]) ∷ frame 2 2 "COUNTERS$" true ([]) ∷ [] } ∷
    record { text = "(module 1\n(line 1\n(clr)\n(until)\n(else)\n)\n(line 10\n(rcomp\n(stmts\n)\n)\n(goto 1)\n(plain)\n)\n(line 100\n(loop)\n(exitif)\n(goto 100)\n)\n(line 999\n(doif)\n)\n)\n"; asks = word 0 "clr" ∷ word 1 "until" ∷ word 2 "else" ∷ word 3 "rcomp" ∷ word 4 "goto" ∷ word 5 "plain" ∷ word 6 "loop" ∷ word 7 "exitif" ∷ word 8 "goto" ∷ word 9 "doif" ∷ frame 0 1 "QU" false ([]) ∷ frame 0 2 "QU" false ([]) ∷ frame 0 3 "QU" true (4 ∷ []) ∷ frame 0 5 "QU" true (6 ∷ []) ∷ frame 1 2 "QU" true ([]) ∷ frame 1 5 "QU" false (6 ∷ []) ∷ frame 1 5 "QU" true (6 ∷ []) ∷ frame 1 6 "QU" true (7 ∷ []) ∷ frame 1 7 "QU" true (8 ∷ []) ∷ frame 1 8 "QU" false (6 ∷ []) ∷ frame 2 0 "QU" true ([]) ∷ frame 2 1 "QU" false ([]) ∷ frame 2 4 "QU" true (0 ∷ []) ∷ frame 2 6 "QU" false (7 ∷ []) ∷ frame 2 9 "QU" false ([]) ∷ frame 2 9 "QU" true ([]) ∷ frame 3 4 "QU" false (0 ∷ []) ∷ frame 3 5 "QU" true (6 ∷ []) ∷ frame 3 7 "QU" true (8 ∷ []) ∷ frame 3 8 "QU" false (6 ∷ []) ∷ frame 4 4 "QU" true (0 ∷ []) ∷ frame 4 9 "QU" true ([]) ∷ frame 5 5 "QU" true (6 ∷ []) ∷ frame 5 6 "QU" false (7 ∷ []) ∷ frame 5 8 "QU" true (6 ∷ []) ∷ frame 5 9 "QU" false ([]) ∷ frame 6 1 "QU" true ([]) ∷ frame 6 2 "QU" false ([]) ∷ frame 6 2 "QU" true ([]) ∷ frame 7 9 "QU" false ([]) ∷ frame 8 2 "QU" false ([]) ∷ frame 8 2 "QU" true ([]) ∷ frame 8 3 "QU" false (4 ∷ []) ∷ frame 8 8 "QU" true (6 ∷ []) ∷ frame 9 0 "QU" true ([]) ∷ frame 9 1 "QU" true ([]) ∷ frame 9 2 "QU" false ([]) ∷ frame 9 4 "QU" false (0 ∷ []) ∷ frame 9 4 "QU" true (0 ∷ []) ∷ frame 9 8 "QU" false (6 ∷ []) ∷ [] } ∷
    record { text = "(module 1\n(line 20\n(ongoto)\n(next orphan AB%)\n(for ABCDEFGH% dispatched)\n(ongoto 30 50)\n(next plain ABCDEFGH%)\n(run 50)\n(ongoto)\n(for ABCDEFGH% static)\n)\n(line 30\n(ongosub 30)\n)\n(line 50\n(any)\n)\n)\n"; asks = word 0 "ongoto" ∷ word 1 "next" ∷ word 2 "for" ∷ word 3 "ongoto" ∷ word 4 "next" ∷ word 5 "run" ∷ word 6 "ongoto" ∷ word 7 "for" ∷ word 8 "ongosub" ∷ word 9 "any" ∷ frame 0 0 "AB%" false (1 ∷ []) ∷ frame 0 4 "AB" true ([]) ∷ frame 0 5 "ABABCDEF%" true ([]) ∷ frame 0 6 "AB" false (7 ∷ []) ∷ frame 0 7 "AB%" false ([]) ∷ frame 1 2 "ABABCDEF%" false ([]) ∷ frame 1 8 "AB%" true (9 ∷ []) ∷ frame 2 1 "AB%" true (3 ∷ []) ∷ frame 2 1 "ABCDEFGH%" true (3 ∷ []) ∷ frame 2 2 "AB%" false ([]) ∷ frame 2 2 "ABABCDEF%" true ([]) ∷ frame 2 7 "AB" true (8 ∷ []) ∷ frame 2 7 "AB%" false ([]) ∷ frame 2 8 "AB" true (9 ∷ []) ∷ frame 2 9 "AB" true (0 ∷ 8 ∷ 9 ∷ []) ∷ frame 3 8 "ABABCDEF%" false (9 ∷ []) ∷ frame 4 0 "AB" true (1 ∷ []) ∷ frame 4 0 "ABCDEFGH%" false (1 ∷ []) ∷ frame 4 4 "AB" false (3 ∷ 5 ∷ []) ∷ frame 4 4 "AB%" true (3 ∷ 5 ∷ []) ∷ frame 5 5 "AB%" true ([]) ∷ frame 5 7 "ABCDEFGH%" true ([]) ∷ frame 5 8 "AB%" false (9 ∷ []) ∷ frame 6 0 "ABABCDEF%" false (1 ∷ []) ∷ frame 6 3 "AB" false (8 ∷ 9 ∷ 4 ∷ []) ∷ frame 6 3 "ABABCDEF%" false (8 ∷ 9 ∷ 4 ∷ []) ∷ frame 6 5 "AB%" true ([]) ∷ frame 6 5 "ABABCDEF%" true ([]) ∷ frame 6 8 "ABCDEFGH%" true (9 ∷ []) ∷ frame 7 0 "ABABCDEF%" true (1 ∷ []) ∷ frame 7 2 "AB" true (3 ∷ []) ∷ frame 7 5 "ABABCDEF%" true ([]) ∷ frame 7 8 "ABABCDEF%" false (9 ∷ []) ∷ frame 8 5 "ABCDEFGH%" true ([]) ∷ frame 8 8 "AB" true (9 ∷ []) ∷ frame 9 0 "AB" true (1 ∷ []) ∷ frame 9 1 "AB" true ([]) ∷ frame 9 1 "ABCDEFGH%" false (2 ∷ 3 ∷ []) ∷ frame 9 4 "AB%" false (3 ∷ 5 ∷ []) ∷ frame 9 9 "AB%" true (0 ∷ 8 ∷ 9 ∷ []) ∷ [] } ∷
    record { text = "(module 1\n(line 65534\n(ongosub 65534 65534)\n(return)\n(any)\n)\n)\n"; asks = word 0 "ongosub" ∷ word 1 "return" ∷ word 2 "any" ∷ frame 0 0 "QU" false (1 ∷ []) ∷ frame 0 0 "QU" true (1 ∷ []) ∷ frame 0 1 "QU" false ([]) ∷ frame 0 1 "QU" true ([]) ∷ frame 0 2 "QU" false (0 ∷ []) ∷ frame 0 2 "QU" true (0 ∷ []) ∷ frame 1 0 "QU" false (1 ∷ []) ∷ frame 1 0 "QU" true (1 ∷ []) ∷ frame 1 1 "QU" false ([]) ∷ frame 1 1 "QU" true ([]) ∷ frame 1 2 "QU" false (0 ∷ []) ∷ frame 1 2 "QU" true (0 ∷ []) ∷ frame 2 0 "QU" false (1 ∷ []) ∷ frame 2 0 "QU" true (1 ∷ []) ∷ frame 2 1 "QU" false ([]) ∷ frame 2 1 "QU" true ([]) ∷ frame 2 2 "QU" false (0 ∷ []) ∷ frame 2 2 "QU" true (0 ∷ []) ∷ [] } ∷
    record { text = "(module 1\n(line 40\n(for Z99% dispatched)\n(next plain I)\n(next plain)\n)\n(line 50\n(if\n(stmts\n(next orphan * LOOPVAR1$)\n)\n)\n(plain)\n)\n)\n"; asks = word 0 "for" ∷ word 1 "next" ∷ word 2 "next" ∷ word 3 "if" ∷ word 4 "next" ∷ word 5 "plain" ∷ frame 0 0 "LOOPVAR1$" false (1 ∷ []) ∷ frame 0 1 "I%" false (2 ∷ []) ∷ frame 0 1 "Z99%" true ([]) ∷ frame 0 2 "I" true ([]) ∷ frame 0 3 "Z9ABCDEF%" false (4 ∷ 5 ∷ []) ∷ frame 0 4 "I%" true (1 ∷ []) ∷ frame 0 4 "LO$" false (1 ∷ 5 ∷ []) ∷ frame 0 5 "LO$" false ([]) ∷ frame 0 5 "LOOPVAR1$" true ([]) ∷ frame 1 0 "Z99%" false ([]) ∷ frame 1 0 "Z99%" true ([]) ∷ frame 1 1 "I" false (2 ∷ []) ∷ frame 1 2 "Z99%" true ([]) ∷ frame 1 4 "Z9ABCDEF%" true ([]) ∷ frame 1 5 "I%" true ([]) ∷ frame 2 0 "I" true (1 ∷ []) ∷ frame 2 1 "LO$" true ([]) ∷ frame 2 1 "Z9%" true ([]) ∷ frame 2 2 "Z9ABCDEF%" false (3 ∷ []) ∷ frame 2 3 "I%" false (4 ∷ 5 ∷ []) ∷ frame 2 4 "Z9ABCDEF%" true ([]) ∷ frame 3 0 "LO$" false (1 ∷ []) ∷ frame 3 0 "Z99%" true ([]) ∷ frame 3 1 "Z9ABCDEF%" true ([]) ∷ frame 3 2 "Z9ABCDEF%" false (3 ∷ []) ∷ frame 3 3 "I" true (4 ∷ 5 ∷ []) ∷ frame 3 4 "LOOPVAR1$" true (5 ∷ []) ∷ frame 4 1 "I" true ([]) ∷ frame 4 1 "I%" false (2 ∷ []) ∷ frame 4 3 "I%" true (4 ∷ 5 ∷ []) ∷ frame 4 3 "LOOPVAR1$" true (4 ∷ 5 ∷ []) ∷ frame 4 4 "Z9ABCDEF%" false (1 ∷ 5 ∷ []) ∷ frame 4 5 "LOOPVAR1$" false ([]) ∷ frame 4 5 "Z9%" true ([]) ∷ frame 5 0 "I" true (1 ∷ []) ∷ frame 5 0 "I%" false (1 ∷ []) ∷ frame 5 0 "LOOPVAR1$" true (1 ∷ []) ∷ frame 5 0 "Z9%" true ([]) ∷ frame 5 3 "Z9%" true (4 ∷ 5 ∷ []) ∷ frame 5 5 "Z99%" true ([]) ∷ [] } ∷
    record { text = "(module 0\n(line 20\n(gosub 999)\n)\n(line 100\n(ongosub 20 20 20)\n(if\n(to 0)\n)\n(for A static)\n(return)\n)\n(line 999\n(done)\n(return)\n(next plain A)\n)\n)\n"; asks = word 0 "gosub" ∷ word 1 "ongosub" ∷ word 2 "if" ∷ word 3 "for" ∷ word 4 "return" ∷ word 5 "done" ∷ word 6 "return" ∷ word 7 "next" ∷ frame 0 2 "A" false (3 ∷ []) ∷ frame 0 2 "A%" false (3 ∷ []) ∷ frame 0 3 "A" false ([]) ∷ frame 0 5 "A" false (6 ∷ []) ∷ frame 1 1 "A" false (2 ∷ []) ∷ frame 1 2 "A" true (3 ∷ []) ∷ frame 1 3 "A" false ([]) ∷ frame 1 5 "A%" true (6 ∷ []) ∷ frame 1 7 "A%" false (4 ∷ []) ∷ frame 2 1 "A" true (2 ∷ []) ∷ frame 2 2 "A" true (3 ∷ []) ∷ frame 2 3 "A%" true (4 ∷ []) ∷ frame 2 4 "A" true ([]) ∷ frame 2 4 "A%" false ([]) ∷ frame 2 5 "A" false (6 ∷ []) ∷ frame 2 7 "A" true ([]) ∷ frame 3 0 "A" false (1 ∷ []) ∷ frame 3 1 "A%" true (2 ∷ []) ∷ frame 3 3 "A%" false (4 ∷ []) ∷ frame 3 5 "A" true (6 ∷ []) ∷ frame 3 5 "A%" true (6 ∷ []) ∷ frame 4 0 "A%" true (1 ∷ []) ∷ frame 4 2 "A" true (3 ∷ []) ∷ frame 4 2 "A%" true (3 ∷ []) ∷ frame 4 3 "A%" false (4 ∷ []) ∷ frame 4 4 "A" false ([]) ∷ frame 4 6 "A%" false ([]) ∷ frame 5 2 "A%" false (3 ∷ []) ∷ frame 5 5 "A" false (6 ∷ []) ∷ frame 5 5 "A" true (6 ∷ []) ∷ frame 5 7 "A%" false (4 ∷ []) ∷ frame 6 1 "A" false (2 ∷ []) ∷ frame 6 1 "A" true (2 ∷ []) ∷ frame 6 3 "A%" false (4 ∷ []) ∷ frame 6 4 "A%" false ([]) ∷ frame 6 6 "A%" false ([]) ∷ frame 7 3 "A%" true (4 ∷ []) ∷ frame 7 4 "A%" false ([]) ∷ frame 7 6 "A%" false ([]) ∷ frame 7 7 "A" true (4 ∷ []) ∷ [] } ∷
    record { text = "(module 1\n(line 1\n)\n(line 5\n(exit)\n(repeat)\n(until)\n(ifelse\n(stmts\n)\n(stmts\n)\n)\n(any)\n)\n(line 65534\n(repeat)\n(exit)\n(if\n(stmts\n(ongoto 40 1 65534 999)\n(ifelse\n(to 65534)\n(to 1)\n)\n)\n)\n)\n(line 65535\n)\n)\n"; asks = word 0 "exit" ∷ word 1 "repeat" ∷ word 2 "until" ∷ word 3 "ifelse" ∷ word 4 "any" ∷ word 5 "repeat" ∷ word 6 "exit" ∷ word 7 "if" ∷ word 8 "ongoto" ∷ word 9 "ifelse" ∷ frame 0 1 "QU" false (2 ∷ []) ∷ frame 0 2 "QU" false (2 ∷ 3 ∷ []) ∷ frame 0 3 "QU" true (4 ∷ []) ∷ frame 0 5 "QU" true (6 ∷ []) ∷ frame 1 2 "QU" true (2 ∷ 3 ∷ []) ∷ frame 1 5 "QU" false (6 ∷ []) ∷ frame 1 5 "QU" true (6 ∷ []) ∷ frame 1 6 "QU" true ([]) ∷ frame 1 7 "QU" true (8 ∷ []) ∷ frame 1 8 "QU" false (0 ∷ 5 ∷ 9 ∷ []) ∷ frame 2 0 "QU" true ([]) ∷ frame 2 1 "QU" false (2 ∷ []) ∷ frame 2 4 "QU" true (0 ∷ 5 ∷ []) ∷ frame 2 6 "QU" false ([]) ∷ frame 2 9 "QU" false (5 ∷ 0 ∷ []) ∷ frame 2 9 "QU" true (5 ∷ 0 ∷ []) ∷ frame 3 4 "QU" false (0 ∷ 5 ∷ []) ∷ frame 3 5 "QU" true (6 ∷ []) ∷ frame 3 7 "QU" true (8 ∷ []) ∷ frame 3 8 "QU" false (0 ∷ 5 ∷ 9 ∷ []) ∷ frame 4 4 "QU" true (0 ∷ 5 ∷ []) ∷ frame 4 9 "QU" true (5 ∷ 0 ∷ []) ∷ frame 5 5 "QU" true (6 ∷ []) ∷ frame 5 6 "QU" false ([]) ∷ frame 5 8 "QU" true (0 ∷ 5 ∷ 9 ∷ []) ∷ frame 5 9 "QU" false (5 ∷ 0 ∷ []) ∷ frame 6 1 "QU" true (2 ∷ []) ∷ frame 6 2 "QU" false (2 ∷ 3 ∷ []) ∷ frame 6 2 "QU" true (2 ∷ 3 ∷ []) ∷ frame 7 9 "QU" false (5 ∷ 0 ∷ []) ∷ frame 8 2 "QU" false (2 ∷ 3 ∷ []) ∷ frame 8 2 "QU" true (2 ∷ 3 ∷ []) ∷ frame 8 3 "QU" false (4 ∷ []) ∷ frame 8 8 "QU" true (0 ∷ 5 ∷ 9 ∷ []) ∷ frame 9 0 "QU" true ([]) ∷ frame 9 1 "QU" true (2 ∷ []) ∷ frame 9 2 "QU" false (2 ∷ 3 ∷ []) ∷ frame 9 4 "QU" false (0 ∷ 5 ∷ []) ∷ frame 9 4 "QU" true (0 ∷ 5 ∷ []) ∷ frame 9 8 "QU" false (0 ∷ 5 ∷ 9 ∷ []) ∷ [] } ∷
    record { text = "(module 0\n(line 20\n(for COUNT dispatched)\n(for J dispatched)\n(next orphan CO)\n)\n)\n"; asks = word 0 "for" ∷ word 1 "for" ∷ word 2 "next" ∷ frame 0 0 "CO" true ([]) ∷ frame 0 0 "COABCDEF" false ([]) ∷ frame 0 0 "COABCDEF" true ([]) ∷ frame 0 0 "COUNT" false ([]) ∷ frame 0 0 "COUNT" true ([]) ∷ frame 0 0 "J" true (1 ∷ []) ∷ frame 0 1 "CO" true (2 ∷ []) ∷ frame 0 1 "CO%" true (2 ∷ []) ∷ frame 0 1 "COUNT" false (2 ∷ []) ∷ frame 0 1 "J" false ([]) ∷ frame 0 2 "CO%" true (1 ∷ []) ∷ frame 0 2 "COUNT" false (1 ∷ []) ∷ frame 0 2 "COUNT" true (1 ∷ []) ∷ frame 1 0 "CO%" false (1 ∷ []) ∷ frame 1 0 "CO%" true (1 ∷ []) ∷ frame 1 0 "COABCDEF" false ([]) ∷ frame 1 0 "J" true (1 ∷ []) ∷ frame 1 1 "CO%" false (2 ∷ []) ∷ frame 1 1 "CO%" true (2 ∷ []) ∷ frame 1 1 "COABCDEF" true (2 ∷ []) ∷ frame 1 1 "COUNT" true (2 ∷ []) ∷ frame 1 1 "J" false ([]) ∷ frame 1 1 "J" true ([]) ∷ frame 1 2 "COUNT" true ([]) ∷ frame 1 2 "J" false (1 ∷ []) ∷ frame 1 2 "J" true ([]) ∷ frame 2 0 "CO" true ([]) ∷ frame 2 0 "CO%" false (1 ∷ []) ∷ frame 2 0 "CO%" true (1 ∷ []) ∷ frame 2 0 "COUNT" false ([]) ∷ frame 2 0 "J" true (1 ∷ []) ∷ frame 2 1 "CO" true (2 ∷ []) ∷ frame 2 1 "CO%" true (2 ∷ []) ∷ frame 2 1 "COABCDEF" false (2 ∷ []) ∷ frame 2 1 "COABCDEF" true (2 ∷ []) ∷ frame 2 2 "CO" true (1 ∷ []) ∷ frame 2 2 "CO%" true (1 ∷ []) ∷ frame 2 2 "COABCDEF" false (1 ∷ []) ∷ frame 2 2 "COABCDEF" true (1 ∷ []) ∷ frame 2 2 "COUNT" true (1 ∷ []) ∷ [] } ∷
    record { text = "(module 1\n(line 20\n)\n(line 100\n(for CO static)\n(repeat)\n(gosub 100)\n(any)\n(return)\n(ongosub 100 100)\n)\n)\n"; asks = word 0 "for" ∷ word 1 "repeat" ∷ word 2 "gosub" ∷ word 3 "any" ∷ word 4 "return" ∷ word 5 "ongosub" ∷ frame 0 0 "CO%" false (1 ∷ []) ∷ frame 0 0 "COABCDEF" false ([]) ∷ frame 0 1 "CO" false (2 ∷ []) ∷ frame 0 1 "CO%" true (2 ∷ []) ∷ frame 0 2 "CO%" true (3 ∷ []) ∷ frame 0 4 "CO" false ([]) ∷ frame 0 4 "CO%" true ([]) ∷ frame 0 5 "CO" true ([]) ∷ frame 0 5 "COABCDEF" false ([]) ∷ frame 1 0 "CO%" false (1 ∷ []) ∷ frame 1 1 "COABCDEF" true (2 ∷ []) ∷ frame 1 2 "COABCDEF" true (3 ∷ []) ∷ frame 1 5 "CO" false ([]) ∷ frame 1 5 "CO%" false ([]) ∷ frame 1 5 "COABCDEF" true ([]) ∷ frame 2 0 "CO" true ([]) ∷ frame 2 2 "COABCDEF" false (3 ∷ []) ∷ frame 2 4 "CO" false ([]) ∷ frame 2 4 "CO%" true ([]) ∷ frame 3 0 "CO" false ([]) ∷ frame 3 1 "COABCDEF" false (2 ∷ []) ∷ frame 3 2 "CO" true (3 ∷ []) ∷ frame 3 2 "CO%" true (3 ∷ []) ∷ frame 3 3 "CO" false (0 ∷ []) ∷ frame 3 3 "CO" true (0 ∷ []) ∷ frame 3 4 "CO" true ([]) ∷ frame 3 4 "CO%" true ([]) ∷ frame 3 5 "CO" false ([]) ∷ frame 4 0 "CO%" true (1 ∷ []) ∷ frame 4 1 "COABCDEF" true (2 ∷ []) ∷ frame 4 2 "COABCDEF" false (3 ∷ []) ∷ frame 4 3 "CO%" false (0 ∷ []) ∷ frame 4 5 "COABCDEF" true ([]) ∷ frame 5 0 "CO" true ([]) ∷ frame 5 1 "COABCDEF" true (2 ∷ []) ∷ frame 5 2 "CO" true (3 ∷ []) ∷ frame 5 3 "CO" false (0 ∷ []) ∷ frame 5 3 "COABCDEF" false (0 ∷ []) ∷ frame 5 4 "COABCDEF" false ([]) ∷ frame 5 5 "CO" true ([]) ∷ [] } ∷
    record { text = "(module 1\n(line 0\n(rcomp\n(to 1)\n)\n)\n(line 1\n(plain)\n(plain)\n)\n(line 5\n(ifelse\n(stmts\n(if\n(stmts\n(if\n(stmts\n(rcomp\n(to 0)\n)\n(for I dispatched)\n)\n)\n(plain)\n(rcomp\n(to 0)\n(to 30)\n)\n)\n)\n)\n(to 1)\n)\n)\n(line 20\n)\n(line 30\n)\n(line 65535\n)\n)\n"; asks = word 0 "rcomp" ∷ word 1 "plain" ∷ word 2 "plain" ∷ word 3 "ifelse" ∷ word 4 "if" ∷ word 5 "if" ∷ word 6 "rcomp" ∷ word 7 "for" ∷ word 8 "plain" ∷ word 9 "rcomp" ∷ frame 0 0 "I%" true (1 ∷ []) ∷ frame 0 5 "I%" false (6 ∷ 8 ∷ []) ∷ frame 0 8 "I" true (9 ∷ []) ∷ frame 0 9 "I%" false (0 ∷ []) ∷ frame 1 1 "I%" true (2 ∷ []) ∷ frame 1 2 "I%" false (3 ∷ []) ∷ frame 1 3 "I" false (4 ∷ 1 ∷ []) ∷ frame 1 8 "I" false (9 ∷ []) ∷ frame 2 7 "I" false ([]) ∷ frame 2 8 "I" false (9 ∷ []) ∷ frame 2 9 "I" true (0 ∷ []) ∷ frame 3 1 "I%" true (2 ∷ []) ∷ frame 3 2 "I" true (3 ∷ []) ∷ frame 3 2 "I%" true (3 ∷ []) ∷ frame 3 6 "I" true (0 ∷ 7 ∷ []) ∷ frame 3 9 "I" true (0 ∷ []) ∷ frame 4 1 "I%" false (2 ∷ []) ∷ frame 4 9 "I" true (0 ∷ []) ∷ frame 5 2 "I" true (3 ∷ []) ∷ frame 5 2 "I%" false (3 ∷ []) ∷ frame 5 3 "I%" true (4 ∷ 1 ∷ []) ∷ frame 5 4 "I" false (5 ∷ []) ∷ frame 5 5 "I" false (6 ∷ 8 ∷ []) ∷ frame 5 7 "I" true ([]) ∷ frame 5 8 "I%" false (9 ∷ []) ∷ frame 6 2 "I%" false (3 ∷ []) ∷ frame 7 0 "I" false (1 ∷ []) ∷ frame 7 1 "I%" true (2 ∷ []) ∷ frame 7 2 "I" true (3 ∷ []) ∷ frame 7 2 "I%" false (3 ∷ []) ∷ frame 7 6 "I" true (0 ∷ 7 ∷ []) ∷ frame 7 9 "I" false (0 ∷ []) ∷ frame 7 9 "I" true (0 ∷ []) ∷ frame 8 4 "I%" false (5 ∷ []) ∷ frame 9 0 "I%" true (1 ∷ []) ∷ frame 9 2 "I%" true (3 ∷ []) ∷ frame 9 8 "I%" true (9 ∷ []) ∷ frame 9 9 "I" true (0 ∷ []) ∷ frame 9 9 "I%" false (0 ∷ []) ∷ frame 9 9 "I%" true (0 ∷ []) ∷ [] } ∷
    record { text = "(module 0\n(line 1\n(for COUNT framed)\n(next plain COUNT COUNT)\n)\n(line 999\n(next plain COUNTER)\n)\n(line 65534\n(return)\n(for J dispatched)\n(next plain J COUNT *)\n(for COUNT framed)\n)\n(line 65535\n(next plain *)\n)\n)\n"; asks = word 0 "for" ∷ word 1 "next" ∷ word 2 "next" ∷ word 3 "return" ∷ word 4 "for" ∷ word 5 "next" ∷ word 6 "for" ∷ word 7 "next" ∷ frame 0 0 "COABCDEF" false ([]) ∷ frame 0 0 "J" false (1 ∷ []) ∷ frame 0 2 "COUNTER" true ([]) ∷ frame 0 3 "J" true ([]) ∷ frame 0 6 "COUNT%" true (7 ∷ []) ∷ frame 0 6 "COUNTER" false ([]) ∷ frame 0 7 "COUNT" true ([]) ∷ frame 1 2 "CO" false (3 ∷ []) ∷ frame 1 4 "COUNT" false (5 ∷ []) ∷ frame 1 6 "J" true (7 ∷ []) ∷ frame 1 7 "COUNT" false (7 ∷ []) ∷ frame 2 0 "COABCDEF" true ([]) ∷ frame 2 0 "J" false (1 ∷ []) ∷ frame 2 1 "COUNT%" false (1 ∷ 2 ∷ []) ∷ frame 2 1 "COUNTER" false (1 ∷ 2 ∷ []) ∷ frame 2 3 "COABCDEF" false ([]) ∷ frame 2 6 "COUNT" false ([]) ∷ frame 2 7 "COUNT%" false (7 ∷ []) ∷ frame 3 0 "CO" true ([]) ∷ frame 3 0 "COUNTER" true ([]) ∷ frame 3 1 "COUNT" false (1 ∷ 2 ∷ []) ∷ frame 3 5 "COUNT%" false (5 ∷ 6 ∷ []) ∷ frame 3 6 "J" false (7 ∷ []) ∷ frame 4 6 "J" true (7 ∷ []) ∷ frame 5 2 "COUNT%" false (3 ∷ []) ∷ frame 5 2 "COUNTER" true ([]) ∷ frame 5 3 "COUNT%" false ([]) ∷ frame 5 4 "COUNT%" false (5 ∷ []) ∷ frame 5 7 "J" true ([]) ∷ frame 6 2 "CO" true ([]) ∷ frame 6 2 "COUNT" false (3 ∷ []) ∷ frame 6 5 "COUNT" false (5 ∷ 6 ∷ []) ∷ frame 6 6 "CO" false ([]) ∷ frame 7 0 "J" false (1 ∷ []) ∷ frame 7 1 "COUNT" true ([]) ∷ frame 7 1 "COUNT%" true ([]) ∷ frame 7 2 "J" true ([]) ∷ frame 7 3 "COUNT%" true ([]) ∷ frame 7 7 "COABCDEF" true (7 ∷ []) ∷ frame 7 7 "COUNT%" true (7 ∷ []) ∷ [] } ∷
    record { text = "(module 0\n(line 30\n(gosub 65535)\n(return)\n)\n(line 65535\n)\n)\n"; asks = word 0 "gosub" ∷ word 1 "return" ∷ frame 0 0 "QU" false (1 ∷ []) ∷ frame 0 0 "QU" true (1 ∷ []) ∷ frame 0 1 "QU" false ([]) ∷ frame 0 1 "QU" true ([]) ∷ frame 1 0 "QU" false (1 ∷ []) ∷ frame 1 0 "QU" true (1 ∷ []) ∷ frame 1 1 "QU" false ([]) ∷ frame 1 1 "QU" true ([]) ∷ [] } ∷
    record { text = "(module 1\n(line 65534\n(ongosub 65534 65534)\n(next plain *)\n(run)\n(next orphan *)\n(rcomp\n(stmts\n(return)\n(run)\n)\n(stmts\n)\n)\n(return)\n(gosub 65534)\n(for A1 static)\n(plain)\n)\n)\n"; asks = word 0 "ongosub" ∷ word 1 "next" ∷ word 2 "run" ∷ word 3 "next" ∷ word 4 "rcomp" ∷ word 5 "return" ∷ word 6 "run" ∷ word 7 "return" ∷ word 8 "gosub" ∷ word 9 "for" ∷ word 10 "plain" ∷ frame 0 6 "A1ABCDEF" true ([]) ∷ frame 0 7 "A1%" true ([]) ∷ frame 0 7 "A1ABCDEF" false ([]) ∷ frame 1 0 "A1%" false (1 ∷ []) ∷ frame 1 0 "A1ABCDEF" false (1 ∷ []) ∷ frame 1 1 "A1ABCDEF" true (2 ∷ []) ∷ frame 1 3 "A1%" true ([]) ∷ frame 1 6 "A1" false ([]) ∷ frame 1 6 "A1" true ([]) ∷ frame 2 3 "A1" true ([]) ∷ frame 2 4 "A1" false (5 ∷ 7 ∷ []) ∷ frame 2 5 "A1%" false ([]) ∷ frame 2 7 "A1%" false ([]) ∷ frame 4 0 "A1ABCDEF" true (1 ∷ []) ∷ frame 4 2 "A1%" true ([]) ∷ frame 4 9 "A1%" false (10 ∷ []) ∷ frame 5 5 "A1ABCDEF" false ([]) ∷ frame 5 8 "A1ABCDEF" true (9 ∷ []) ∷ frame 5 9 "A1%" true (10 ∷ []) ∷ frame 6 1 "A1ABCDEF" true ([]) ∷ frame 6 3 "A1ABCDEF" false (4 ∷ []) ∷ frame 6 10 "A1ABCDEF" false ([]) ∷ frame 7 2 "A1%" false ([]) ∷ frame 7 5 "A1" true ([]) ∷ frame 7 5 "A1ABCDEF" false ([]) ∷ frame 7 5 "A1ABCDEF" true ([]) ∷ frame 7 8 "A1%" true (9 ∷ []) ∷ frame 7 9 "A1%" true (10 ∷ []) ∷ frame 8 0 "A1%" false (1 ∷ []) ∷ frame 8 3 "A1" true ([]) ∷ frame 8 3 "A1ABCDEF" true ([]) ∷ frame 8 6 "A1%" false ([]) ∷ frame 9 7 "A1" true ([]) ∷ frame 9 8 "A1ABCDEF" true (9 ∷ []) ∷ frame 9 9 "A1%" false (10 ∷ []) ∷ frame 9 10 "A1" false ([]) ∷ frame 10 0 "A1" false (1 ∷ []) ∷ frame 10 1 "A1ABCDEF" false (2 ∷ []) ∷ frame 10 5 "A1" true ([]) ∷ frame 10 7 "A1" true ([]) ∷ [] } ∷
    record { text = "(module 0\n(line 0\n(rcomp\n(stmts\n(until)\n)\n(stmts\n(if\n(stmts\n(repeat)\n(rcomp\n(to 5)\n(stmts\n)\n)\n)\n)\n(for LOOPVAR1$ dispatched)\n)\n)\n(next orphan *)\n(repeat)\n)\n(line 5\n(next plain LOOPVAR1$)\n(for LOOPVAR1$ static)\n)\n(line 100\n)\n)\n"; asks = word 0 "rcomp" ∷ word 1 "until" ∷ word 2 "if" ∷ word 3 "repeat" ∷ word 4 "rcomp" ∷ word 5 "for" ∷ word 6 "next" ∷ word 7 "repeat" ∷ word 8 "next" ∷ word 9 "for" ∷ frame 0 0 "LOABCDEF$" false (1 ∷ 2 ∷ []) ∷ frame 0 4 "LO$" true (8 ∷ 5 ∷ []) ∷ frame 0 5 "LOOPVAR1" true (6 ∷ []) ∷ frame 0 6 "LO$" false (6 ∷ 7 ∷ []) ∷ frame 0 7 "LOABCDEF$" false (8 ∷ []) ∷ frame 1 2 "LOOPVAR1" false (3 ∷ 5 ∷ []) ∷ frame 1 8 "LOABCDEF$" true ([]) ∷ frame 2 1 "LOABCDEF$" true ([]) ∷ frame 2 1 "LOOPVAR1$" true ([]) ∷ frame 2 2 "LOABCDEF$" false (3 ∷ 5 ∷ []) ∷ frame 2 2 "LOOPVAR1" true (3 ∷ 5 ∷ []) ∷ frame 2 7 "LO$" true (8 ∷ []) ∷ frame 2 7 "LOABCDEF$" false (8 ∷ []) ∷ frame 2 8 "LO$" true ([]) ∷ frame 2 9 "LO$" true ([]) ∷ frame 3 8 "LOOPVAR1" false (9 ∷ []) ∷ frame 4 0 "LO$" true (1 ∷ 2 ∷ []) ∷ frame 4 0 "LOOPVAR1$" false (1 ∷ 2 ∷ []) ∷ frame 4 4 "LO$" false (8 ∷ 5 ∷ []) ∷ frame 4 4 "LOABCDEF$" true (8 ∷ 5 ∷ []) ∷ frame 5 5 "LOABCDEF$" true ([]) ∷ frame 5 7 "LOOPVAR1$" true (8 ∷ []) ∷ frame 5 8 "LOABCDEF$" false (9 ∷ []) ∷ frame 6 0 "LOOPVAR1" false (1 ∷ 2 ∷ []) ∷ frame 6 3 "LO$" false (4 ∷ []) ∷ frame 6 3 "LOOPVAR1" false (4 ∷ []) ∷ frame 6 5 "LOABCDEF$" true ([]) ∷ frame 6 5 "LOOPVAR1" true (6 ∷ []) ∷ frame 6 8 "LOOPVAR1$" true ([]) ∷ frame 7 0 "LOOPVAR1" true (1 ∷ 2 ∷ []) ∷ frame 7 2 "LO$" true (3 ∷ 5 ∷ []) ∷ frame 7 5 "LOOPVAR1" true (6 ∷ []) ∷ frame 7 8 "LOOPVAR1" false (9 ∷ []) ∷ frame 8 5 "LOOPVAR1$" true ([]) ∷ frame 8 8 "LO$" true (9 ∷ []) ∷ frame 9 0 "LO$" true (1 ∷ 2 ∷ []) ∷ frame 9 1 "LO$" true ([]) ∷ frame 9 1 "LOOPVAR1$" false ([]) ∷ frame 9 4 "LOABCDEF$" false (8 ∷ 5 ∷ []) ∷ frame 9 9 "LOABCDEF$" true ([]) ∷ [] } ∷
    record { text = "(module 1\n(line 40\n(for A1B2C3D4 static)\n(return)\n(gosub 40)\n(next plain *)\n(any)\n)\n)\n"; asks = word 0 "for" ∷ word 1 "return" ∷ word 2 "gosub" ∷ word 3 "next" ∷ word 4 "any" ∷ frame 0 0 "A1ABCDEF" false ([]) ∷ frame 0 0 "A1B2C3D4" false ([]) ∷ frame 0 0 "A1B2C3D4%" true (1 ∷ []) ∷ frame 0 1 "A1ABCDEF" true ([]) ∷ frame 0 3 "A1" true (1 ∷ []) ∷ frame 0 3 "A1B2C3D4%" false (1 ∷ 4 ∷ []) ∷ frame 0 3 "A1B2C3D4%" true (1 ∷ []) ∷ frame 0 4 "A1" true (0 ∷ []) ∷ frame 0 4 "A1ABCDEF" true (0 ∷ []) ∷ frame 0 4 "A1B2C3D4" false (0 ∷ []) ∷ frame 1 0 "A1" true ([]) ∷ frame 1 0 "A1ABCDEF" false ([]) ∷ frame 1 1 "A1" true ([]) ∷ frame 1 1 "A1B2C3D4" false ([]) ∷ frame 1 2 "A1ABCDEF" false (3 ∷ []) ∷ frame 1 2 "A1ABCDEF" true (3 ∷ []) ∷ frame 1 3 "A1B2C3D4" false (1 ∷ 4 ∷ []) ∷ frame 1 3 "A1B2C3D4%" true ([]) ∷ frame 1 4 "A1ABCDEF" true (0 ∷ []) ∷ frame 1 4 "A1B2C3D4" false (0 ∷ []) ∷ frame 2 1 "A1" true ([]) ∷ frame 2 2 "A1ABCDEF" true (3 ∷ []) ∷ frame 2 3 "A1B2C3D4%" true ([]) ∷ frame 2 4 "A1" false (0 ∷ []) ∷ frame 2 4 "A1B2C3D4" true (0 ∷ []) ∷ frame 2 4 "A1B2C3D4%" false (0 ∷ []) ∷ frame 3 0 "A1ABCDEF" true ([]) ∷ frame 3 0 "A1B2C3D4" false ([]) ∷ frame 3 0 "A1B2C3D4" true ([]) ∷ frame 3 4 "A1B2C3D4%" false (0 ∷ []) ∷ frame 4 0 "A1B2C3D4" false ([]) ∷ frame 4 0 "A1B2C3D4" true ([]) ∷ frame 4 0 "A1B2C3D4%" false (1 ∷ []) ∷ frame 4 2 "A1" true (3 ∷ []) ∷ frame 4 2 "A1B2C3D4" true (3 ∷ []) ∷ frame 4 2 "A1B2C3D4%" true (3 ∷ []) ∷ frame 4 3 "A1" false (1 ∷ 4 ∷ []) ∷ frame 4 3 "A1B2C3D4" false (1 ∷ 4 ∷ []) ∷ frame 4 3 "A1B2C3D4" true ([]) ∷ frame 4 4 "A1B2C3D4" false (0 ∷ []) ∷ [] } ∷
    record { text = "(module 0\n(line 0\n(gosub 0)\n(until)\n(gosub 0)\n(endloop)\n(return)\n)\n(line 100\n(gosub 0)\n)\n(line 65534\n(next plain NO%)\n(for NOTES% static)\n(exit)\n)\n)\n"; asks = word 0 "gosub" ∷ word 1 "until" ∷ word 2 "gosub" ∷ word 3 "endloop" ∷ word 4 "return" ∷ word 5 "gosub" ∷ word 6 "next" ∷ word 7 "for" ∷ word 8 "exit" ∷ frame 0 2 "NO%" false (3 ∷ []) ∷ frame 0 2 "NOTES%" false (3 ∷ []) ∷ frame 0 3 "NOABCDEF%" true ([]) ∷ frame 1 0 "NOABCDEF%" false (1 ∷ []) ∷ frame 1 4 "NO%" false ([]) ∷ frame 1 4 "NOTES%" false ([]) ∷ frame 1 5 "NO%" true (6 ∷ []) ∷ frame 1 5 "NOABCDEF%" false (6 ∷ []) ∷ frame 1 7 "NO%" true ([]) ∷ frame 1 7 "NOTES%" true ([]) ∷ frame 2 3 "NO" true ([]) ∷ frame 2 4 "NOTES%" false ([]) ∷ frame 2 7 "NO%" true ([]) ∷ frame 3 2 "NOABCDEF%" false (3 ∷ []) ∷ frame 3 5 "NO" true (6 ∷ []) ∷ frame 3 5 "NO%" false (6 ∷ []) ∷ frame 3 7 "NO" false (8 ∷ []) ∷ frame 3 7 "NO%" true ([]) ∷ frame 4 1 "NO%" true ([]) ∷ frame 4 2 "NOABCDEF%" true (3 ∷ []) ∷ frame 4 4 "NOABCDEF%" false ([]) ∷ frame 4 6 "NO" true ([]) ∷ frame 4 7 "NOTES%" false ([]) ∷ frame 4 8 "NO" true ([]) ∷ frame 4 8 "NO%" false ([]) ∷ frame 5 0 "NO" true (1 ∷ []) ∷ frame 5 2 "NOTES%" true (3 ∷ []) ∷ frame 5 3 "NOABCDEF%" false ([]) ∷ frame 5 7 "NOTES%" false ([]) ∷ frame 5 8 "NO" true ([]) ∷ frame 6 8 "NOABCDEF%" true ([]) ∷ frame 7 0 "NO%" true (1 ∷ []) ∷ frame 7 4 "NO" false ([]) ∷ frame 7 7 "NO" false (8 ∷ []) ∷ frame 8 0 "NO" true (1 ∷ []) ∷ frame 8 0 "NOABCDEF%" false (1 ∷ []) ∷ frame 8 1 "NO" false ([]) ∷ frame 8 1 "NO" true ([]) ∷ frame 8 3 "NOTES%" true ([]) ∷ frame 8 5 "NO" false (6 ∷ []) ∷ [] } ∷
    record { text = "(module 0\n(line 0\n(doif)\n(else)\n(exitif)\n(doif)\n(else)\n)\n)\n"; asks = word 0 "doif" ∷ word 1 "else" ∷ word 2 "exitif" ∷ word 3 "doif" ∷ word 4 "else" ∷ frame 0 0 "QU" false (1 ∷ 2 ∷ []) ∷ frame 0 0 "QU" true (1 ∷ 2 ∷ []) ∷ frame 0 1 "QU" false ([]) ∷ frame 0 2 "QU" false (3 ∷ []) ∷ frame 0 2 "QU" true (3 ∷ []) ∷ frame 0 3 "QU" false (4 ∷ []) ∷ frame 0 3 "QU" true (4 ∷ []) ∷ frame 0 4 "QU" true ([]) ∷ frame 1 0 "QU" false (1 ∷ 2 ∷ []) ∷ frame 1 1 "QU" false ([]) ∷ frame 1 1 "QU" true ([]) ∷ frame 1 2 "QU" false (3 ∷ []) ∷ frame 1 2 "QU" true (3 ∷ []) ∷ frame 1 3 "QU" true (4 ∷ []) ∷ frame 1 4 "QU" true ([]) ∷ frame 2 0 "QU" false (1 ∷ 2 ∷ []) ∷ frame 2 0 "QU" true (1 ∷ 2 ∷ []) ∷ frame 2 1 "QU" false ([]) ∷ frame 2 1 "QU" true ([]) ∷ frame 2 2 "QU" false (3 ∷ []) ∷ frame 2 2 "QU" true (3 ∷ []) ∷ frame 2 3 "QU" false (4 ∷ []) ∷ frame 2 3 "QU" true (4 ∷ []) ∷ frame 2 4 "QU" false ([]) ∷ frame 2 4 "QU" true ([]) ∷ frame 3 0 "QU" false (1 ∷ 2 ∷ []) ∷ frame 3 0 "QU" true (1 ∷ 2 ∷ []) ∷ frame 3 1 "QU" true ([]) ∷ frame 3 2 "QU" false (3 ∷ []) ∷ frame 3 2 "QU" true (3 ∷ []) ∷ frame 3 3 "QU" false (4 ∷ []) ∷ frame 3 4 "QU" true ([]) ∷ frame 4 0 "QU" false (1 ∷ 2 ∷ []) ∷ frame 4 0 "QU" true (1 ∷ 2 ∷ []) ∷ frame 4 1 "QU" false ([]) ∷ frame 4 1 "QU" true ([]) ∷ frame 4 2 "QU" false (3 ∷ []) ∷ frame 4 3 "QU" false (4 ∷ []) ∷ frame 4 3 "QU" true (4 ∷ []) ∷ frame 4 4 "QU" true ([]) ∷ [] } ∷
    record { text = "(module 0\n(line 1\n(return)\n(gosub 1)\n(ongosub 1 1)\n(for J dispatched)\n(next orphan J)\n)\n)\n"; asks = word 0 "return" ∷ word 1 "gosub" ∷ word 2 "ongosub" ∷ word 3 "for" ∷ word 4 "next" ∷ frame 0 0 "J" false ([]) ∷ frame 0 1 "J%" false (2 ∷ []) ∷ frame 0 2 "J%" false (3 ∷ []) ∷ frame 0 3 "J%" false (4 ∷ []) ∷ frame 0 3 "J%" true (4 ∷ []) ∷ frame 0 4 "J%" false (4 ∷ []) ∷ frame 1 0 "J" false ([]) ∷ frame 1 0 "J%" false ([]) ∷ frame 1 0 "J%" true ([]) ∷ frame 1 1 "J" false (2 ∷ []) ∷ frame 1 1 "J" true (2 ∷ []) ∷ frame 1 1 "J%" false (2 ∷ []) ∷ frame 1 2 "J" true (3 ∷ []) ∷ frame 1 3 "J" true ([]) ∷ frame 1 3 "J%" true (4 ∷ []) ∷ frame 1 4 "J%" false (4 ∷ []) ∷ frame 1 4 "J%" true ([]) ∷ frame 2 0 "J%" false ([]) ∷ frame 2 1 "J" false (2 ∷ []) ∷ frame 2 1 "J%" true (2 ∷ []) ∷ frame 2 2 "J" false (3 ∷ []) ∷ frame 2 2 "J%" false (3 ∷ []) ∷ frame 2 2 "J%" true (3 ∷ []) ∷ frame 2 3 "J" false ([]) ∷ frame 2 3 "J%" true (4 ∷ []) ∷ frame 2 4 "J%" false (4 ∷ []) ∷ frame 2 4 "J%" true ([]) ∷ frame 3 1 "J" false (2 ∷ []) ∷ frame 3 2 "J" false (3 ∷ []) ∷ frame 3 4 "J" true (4 ∷ []) ∷ frame 4 0 "J" true ([]) ∷ frame 4 0 "J%" false ([]) ∷ frame 4 1 "J%" true (2 ∷ []) ∷ frame 4 2 "J%" false (3 ∷ []) ∷ frame 4 3 "J" false ([]) ∷ frame 4 3 "J" true ([]) ∷ frame 4 4 "J" false (4 ∷ []) ∷ frame 4 4 "J" true (4 ∷ []) ∷ frame 4 4 "J%" false (4 ∷ []) ∷ frame 4 4 "J%" true (4 ∷ []) ∷ [] } ∷
    record { text = "(module 1\n(line 1\n(for COUNT framed)\n(for CO2 static)\n(ongosub 1 1 20)\n(for CO framed)\n)\n(line 20\n)\n(line 40\n(for CO static)\n(next orphan COUNTERS COUNTER I CO)\n(next plain COUNTER)\n(any)\n(for CO static)\n)\n)\n"; asks = word 0 "for" ∷ word 1 "for" ∷ word 2 "ongosub" ∷ word 3 "for" ∷ word 4 "for" ∷ word 5 "next" ∷ word 6 "next" ∷ word 7 "any" ∷ word 8 "for" ∷ frame 0 2 "CO" true (3 ∷ []) ∷ frame 0 4 "CO" true ([]) ∷ frame 0 5 "CO%" false (5 ∷ 6 ∷ []) ∷ frame 0 5 "CO2" true ([]) ∷ frame 0 6 "I" true ([]) ∷ frame 1 1 "I" true (2 ∷ []) ∷ frame 1 2 "CO%" true (3 ∷ []) ∷ frame 1 4 "COABCDEF" true ([]) ∷ frame 1 6 "CO2" true ([]) ∷ frame 2 0 "COABCDEF" false ([]) ∷ frame 2 7 "CO" true (0 ∷ 4 ∷ []) ∷ frame 2 7 "COUNTERS" true (0 ∷ 4 ∷ []) ∷ frame 2 8 "CO" false ([]) ∷ frame 3 3 "CO" false ([]) ∷ frame 3 3 "CO2" true ([]) ∷ frame 3 6 "COUNTER" false (7 ∷ []) ∷ frame 3 7 "CO%" false (0 ∷ 4 ∷ []) ∷ frame 4 2 "CO2" true (3 ∷ []) ∷ frame 4 3 "CO" true ([]) ∷ frame 4 3 "COUNTERS" true ([]) ∷ frame 4 5 "CO%" true (5 ∷ []) ∷ frame 5 1 "CO%" false (2 ∷ []) ∷ frame 5 2 "CO2" false (3 ∷ []) ∷ frame 5 4 "CO2" false ([]) ∷ frame 5 4 "COABCDEF" false ([]) ∷ frame 5 5 "COUNT" false (5 ∷ 6 ∷ []) ∷ frame 6 2 "COUNT" true (3 ∷ []) ∷ frame 6 5 "COUNT" false (5 ∷ 6 ∷ []) ∷ frame 6 6 "COUNTERS" false (7 ∷ []) ∷ frame 7 0 "COUNTERS" false ([]) ∷ frame 7 0 "I" true (1 ∷ []) ∷ frame 7 1 "COUNTER" true ([]) ∷ frame 7 2 "CO2" false (3 ∷ []) ∷ frame 7 3 "COUNTER" true ([]) ∷ frame 7 4 "CO2" true ([]) ∷ frame 7 6 "COABCDEF" true ([]) ∷ frame 7 7 "COUNTERS" false (0 ∷ 4 ∷ []) ∷ frame 8 3 "CO%" true (4 ∷ []) ∷ frame 8 3 "COABCDEF" false ([]) ∷ frame 8 8 "COABCDEF" true ([]) ∷ [] } ∷
    record { text = "(module 0\n(line 10\n(return)\n(gosub 10)\n)\n)\n"; asks = word 0 "return" ∷ word 1 "gosub" ∷ frame 0 0 "QU" false ([]) ∷ frame 0 0 "QU" true ([]) ∷ frame 0 1 "QU" false ([]) ∷ frame 0 1 "QU" true ([]) ∷ frame 1 0 "QU" false ([]) ∷ frame 1 0 "QU" true ([]) ∷ frame 1 1 "QU" false ([]) ∷ frame 1 1 "QU" true ([]) ∷ [] } ∷
    record { text = "(module 1\n(line 1\n(plain)\n(else)\n)\n(line 5\n)\n(line 20\n(rcomp\n(to 50)\n)\n(plain)\n(rcomp\n(stmts\n)\n(stmts\n)\n)\n)\n)\n"; asks = word 0 "plain" ∷ word 1 "else" ∷ word 2 "rcomp" ∷ word 3 "plain" ∷ word 4 "rcomp" ∷ frame 0 0 "QU" false (1 ∷ []) ∷ frame 0 0 "QU" true (1 ∷ []) ∷ frame 0 1 "QU" false ([]) ∷ frame 0 2 "QU" false (3 ∷ []) ∷ frame 0 2 "QU" true (3 ∷ []) ∷ frame 0 3 "QU" false (4 ∷ []) ∷ frame 0 3 "QU" true (4 ∷ []) ∷ frame 0 4 "QU" true ([]) ∷ frame 1 0 "QU" false (1 ∷ []) ∷ frame 1 1 "QU" false ([]) ∷ frame 1 1 "QU" true ([]) ∷ frame 1 2 "QU" false (3 ∷ []) ∷ frame 1 2 "QU" true (3 ∷ []) ∷ frame 1 3 "QU" true (4 ∷ []) ∷ frame 1 4 "QU" true ([]) ∷ frame 2 0 "QU" false (1 ∷ []) ∷ frame 2 0 "QU" true (1 ∷ []) ∷ frame 2 1 "QU" false ([]) ∷ frame 2 1 "QU" true ([]) ∷ frame 2 2 "QU" false (3 ∷ []) ∷ frame 2 2 "QU" true (3 ∷ []) ∷ frame 2 3 "QU" false (4 ∷ []) ∷ frame 2 3 "QU" true (4 ∷ []) ∷ frame 2 4 "QU" false ([]) ∷ frame 2 4 "QU" true ([]) ∷ frame 3 0 "QU" false (1 ∷ []) ∷ frame 3 0 "QU" true (1 ∷ []) ∷ frame 3 1 "QU" true ([]) ∷ frame 3 2 "QU" false (3 ∷ []) ∷ frame 3 2 "QU" true (3 ∷ []) ∷ frame 3 3 "QU" false (4 ∷ []) ∷ frame 3 4 "QU" true ([]) ∷ frame 4 0 "QU" false (1 ∷ []) ∷ frame 4 0 "QU" true (1 ∷ []) ∷ frame 4 1 "QU" false ([]) ∷ frame 4 1 "QU" true ([]) ∷ frame 4 2 "QU" false (3 ∷ []) ∷ frame 4 3 "QU" false (4 ∷ []) ∷ frame 4 3 "QU" true (4 ∷ []) ∷ frame 4 4 "QU" true ([]) ∷ [] } ∷
    record { text = "(module 0\n(line 30\n(any)\n(done)\n(run)\n(goto 30)\n(run 30)\n(loop)\n)\n)\n"; asks = word 0 "any" ∷ word 1 "done" ∷ word 2 "run" ∷ word 3 "goto" ∷ word 4 "run" ∷ word 5 "loop" ∷ frame 0 0 "QU" false (0 ∷ []) ∷ frame 0 0 "QU" true (0 ∷ []) ∷ frame 0 2 "QU" false ([]) ∷ frame 0 2 "QU" true ([]) ∷ frame 0 4 "QU" true ([]) ∷ frame 0 5 "QU" true ([]) ∷ frame 1 1 "QU" false (2 ∷ []) ∷ frame 1 1 "QU" true (2 ∷ []) ∷ frame 1 2 "QU" false ([]) ∷ frame 1 2 "QU" true ([]) ∷ frame 1 3 "QU" false (0 ∷ []) ∷ frame 1 3 "QU" true (0 ∷ []) ∷ frame 1 4 "QU" false ([]) ∷ frame 1 5 "QU" false ([]) ∷ frame 1 5 "QU" true ([]) ∷ frame 2 1 "QU" false (2 ∷ []) ∷ frame 2 2 "QU" false ([]) ∷ frame 2 2 "QU" true ([]) ∷ frame 2 3 "QU" true (0 ∷ []) ∷ frame 2 4 "QU" false ([]) ∷ frame 3 0 "QU" true (0 ∷ []) ∷ frame 3 1 "QU" true (2 ∷ []) ∷ frame 3 2 "QU" false ([]) ∷ frame 3 2 "QU" true ([]) ∷ frame 3 3 "QU" true (0 ∷ []) ∷ frame 3 4 "QU" false ([]) ∷ frame 3 5 "QU" false ([]) ∷ frame 3 5 "QU" true ([]) ∷ frame 4 0 "QU" false (0 ∷ []) ∷ frame 4 0 "QU" true (0 ∷ []) ∷ frame 4 1 "QU" true (2 ∷ []) ∷ frame 4 4 "QU" true ([]) ∷ frame 4 5 "QU" false ([]) ∷ frame 5 0 "QU" false (0 ∷ []) ∷ frame 5 0 "QU" true (0 ∷ []) ∷ frame 5 2 "QU" false ([]) ∷ frame 5 3 "QU" false (0 ∷ []) ∷ frame 5 4 "QU" true ([]) ∷ frame 5 5 "QU" false ([]) ∷ frame 5 5 "QU" true ([]) ∷ [] } ∷
    record { text = "(module 0\n(line 5\n(gosub 40)\n(for LO static)\n(ongosub 40 40)\n(next plain N% * * N%)\n)\n(line 30\n(run)\n(for LO framed)\n(loop)\n(next plain *)\n(endloop)\n)\n(line 40\n(next orphan N% LOOPVAR1 *)\n(for LO static)\n(return)\n)\n(line 65534\n)\n)\n"; asks = word 0 "gosub" ∷ word 1 "for" ∷ word 2 "ongosub" ∷ word 3 "next" ∷ word 4 "run" ∷ word 5 "for" ∷ word 6 "loop" ∷ word 7 "next" ∷ word 8 "endloop" ∷ word 9 "next" ∷ word 10 "for" ∷ word 11 "return" ∷ frame 0 2 "N%" false (3 ∷ []) ∷ frame 0 4 "LO%" true ([]) ∷ frame 0 4 "LOOPVAR1" false ([]) ∷ frame 0 6 "N%" false (7 ∷ []) ∷ frame 1 1 "LO%" true (2 ∷ []) ∷ frame 1 5 "N%" true (6 ∷ []) ∷ frame 1 8 "LOABCDEF" false (7 ∷ []) ∷ frame 2 4 "LOABCDEF" false ([]) ∷ frame 2 7 "N%" true ([]) ∷ frame 2 8 "LOOPVAR1" true (7 ∷ []) ∷ frame 2 10 "LO" false ([]) ∷ frame 3 1 "N%" false (2 ∷ []) ∷ frame 3 7 "LOOPVAR1" false (6 ∷ 8 ∷ []) ∷ frame 3 8 "LO%" true (7 ∷ []) ∷ frame 4 0 "LO" false (1 ∷ []) ∷ frame 4 1 "LOABCDEF" true ([]) ∷ frame 4 5 "LOOPVAR1" false ([]) ∷ frame 4 8 "LO" false (7 ∷ []) ∷ frame 4 8 "LOABCDEF" true (7 ∷ []) ∷ frame 4 11 "N%" true ([]) ∷ frame 5 5 "LOOPVAR1" true ([]) ∷ frame 5 8 "N%" true (7 ∷ []) ∷ frame 5 9 "LOOPVAR1" true ([]) ∷ frame 6 1 "LOABCDEF" false ([]) ∷ frame 6 7 "LOOPVAR1" true ([]) ∷ frame 6 7 "N%" false (6 ∷ 8 ∷ []) ∷ frame 6 8 "LOOPVAR1" false (7 ∷ []) ∷ frame 7 1 "LO%" true (2 ∷ []) ∷ frame 7 1 "LOABCDEF" true ([]) ∷ frame 7 10 "LOOPVAR1" true ([]) ∷ frame 7 11 "LO%" false ([]) ∷ frame 8 9 "LO%" true ([]) ∷ frame 9 3 "LOOPVAR1" false (2 ∷ 4 ∷ []) ∷ frame 9 4 "LOABCDEF" true ([]) ∷ frame 9 6 "LO" false (7 ∷ []) ∷ frame 9 7 "LOOPVAR1" true ([]) ∷ frame 9 10 "LOABCDEF" false ([]) ∷ frame 9 11 "LOABCDEF" false ([]) ∷ frame 10 3 "LO%" false (2 ∷ 4 ∷ []) ∷ frame 10 6 "LOOPVAR1" true (7 ∷ []) ∷ [] } ∷
    record { text = "(module 1\n(line 100\n(next orphan A1B2)\n(return)\n(ongosub 100 100)\n(any)\n)\n)\n"; asks = word 0 "next" ∷ word 1 "return" ∷ word 2 "ongosub" ∷ word 3 "any" ∷ frame 0 0 "A1ABCDEF" true (1 ∷ []) ∷ frame 0 1 "A1" false ([]) ∷ frame 0 1 "A1B2%" false ([]) ∷ frame 0 1 "A1B2%" true ([]) ∷ frame 0 2 "A1" true (3 ∷ []) ∷ frame 0 2 "A1ABCDEF" true (3 ∷ []) ∷ frame 0 2 "A1B2" true (3 ∷ []) ∷ frame 1 0 "A1" false (1 ∷ []) ∷ frame 1 0 "A1B2" true ([]) ∷ frame 1 0 "A1B2%" false (1 ∷ []) ∷ frame 1 1 "A1" false ([]) ∷ frame 1 1 "A1" true ([]) ∷ frame 1 1 "A1B2" false ([]) ∷ frame 1 1 "A1B2" true ([]) ∷ frame 1 1 "A1B2%" false ([]) ∷ frame 1 1 "A1B2%" true ([]) ∷ frame 1 2 "A1ABCDEF" true (3 ∷ []) ∷ frame 1 2 "A1B2" false (3 ∷ []) ∷ frame 1 3 "A1" false (0 ∷ []) ∷ frame 1 3 "A1B2" false (0 ∷ []) ∷ frame 1 3 "A1B2" true (0 ∷ []) ∷ frame 1 3 "A1B2%" true (0 ∷ []) ∷ frame 2 0 "A1" true ([]) ∷ frame 2 0 "A1ABCDEF" false (1 ∷ []) ∷ frame 2 0 "A1ABCDEF" true ([]) ∷ frame 2 0 "A1B2" true ([]) ∷ frame 2 0 "A1B2%" true ([]) ∷ frame 2 1 "A1" true ([]) ∷ frame 2 2 "A1" false (3 ∷ []) ∷ frame 2 2 "A1" true (3 ∷ []) ∷ frame 2 2 "A1ABCDEF" false (3 ∷ []) ∷ frame 2 2 "A1B2" true (3 ∷ []) ∷ frame 2 3 "A1ABCDEF" true (0 ∷ []) ∷ frame 2 3 "A1B2" true (0 ∷ []) ∷ frame 3 0 "A1" true ([]) ∷ frame 3 0 "A1ABCDEF" true ([]) ∷ frame 3 2 "A1" false (3 ∷ []) ∷ frame 3 3 "A1" true (0 ∷ []) ∷ frame 3 3 "A1B2%" false (0 ∷ []) ∷ frame 3 3 "A1B2%" true (0 ∷ []) ∷ [] } ∷
    record { text = "(module 1\n(line 1\n(exitif)\n(any)\n)\n)\n"; asks = word 0 "exitif" ∷ word 1 "any" ∷ frame 0 0 "QU" false (1 ∷ []) ∷ frame 0 0 "QU" true (1 ∷ []) ∷ frame 0 1 "QU" false (0 ∷ []) ∷ frame 0 1 "QU" true (0 ∷ []) ∷ frame 1 0 "QU" false (1 ∷ []) ∷ frame 1 0 "QU" true (1 ∷ []) ∷ frame 1 1 "QU" false (0 ∷ []) ∷ frame 1 1 "QU" true (0 ∷ []) ∷ [] } ∷
    record { text = "(module 0\n(line 1\n(rcomp\n(stmts\n(plain)\n)\n)\n(if\n(stmts\n)\n)\n)\n(line 10\n(ifelse\n(to 10)\n(to 1)\n)\n)\n(line 100\n)\n(line 65535\n(for ACDEFGH static)\n(next plain *)\n(if\n(stmts\n(ifelse\n(to 10)\n(stmts\n)\n)\n)\n)\n)\n)\n"; asks = word 0 "rcomp" ∷ word 1 "plain" ∷ word 2 "if" ∷ word 3 "ifelse" ∷ word 4 "for" ∷ word 5 "next" ∷ word 6 "if" ∷ word 7 "ifelse" ∷ frame 0 0 "ACDEFGH" false (1 ∷ 2 ∷ []) ∷ frame 0 1 "ACABCDEF" false (2 ∷ []) ∷ frame 0 2 "ACABCDEF" true (3 ∷ []) ∷ frame 0 2 "ACDEFGH" true (3 ∷ []) ∷ frame 0 2 "ACDEFGH%" false (3 ∷ []) ∷ frame 1 0 "ACDEFGH" true (1 ∷ 2 ∷ []) ∷ frame 1 4 "AC" true ([]) ∷ frame 1 4 "ACDEFGH" true ([]) ∷ frame 1 7 "ACDEFGH%" false (3 ∷ []) ∷ frame 2 1 "ACDEFGH%" false (2 ∷ []) ∷ frame 2 2 "AC" true (3 ∷ []) ∷ frame 2 2 "ACABCDEF" true (3 ∷ []) ∷ frame 2 5 "AC" true ([]) ∷ frame 2 5 "ACDEFGH" true ([]) ∷ frame 2 6 "ACDEFGH" false (7 ∷ []) ∷ frame 2 6 "ACDEFGH" true (7 ∷ []) ∷ frame 3 1 "AC" false (2 ∷ []) ∷ frame 3 2 "ACDEFGH" true (3 ∷ []) ∷ frame 3 4 "AC" false ([]) ∷ frame 3 4 "AC" true ([]) ∷ frame 3 6 "ACDEFGH%" false (7 ∷ []) ∷ frame 3 6 "ACDEFGH%" true (7 ∷ []) ∷ frame 3 7 "AC" false (3 ∷ []) ∷ frame 4 1 "ACDEFGH" true (2 ∷ []) ∷ frame 4 2 "ACDEFGH%" false (3 ∷ []) ∷ frame 4 7 "AC" true (3 ∷ []) ∷ frame 5 2 "ACABCDEF" false (3 ∷ []) ∷ frame 5 5 "ACDEFGH%" false (5 ∷ 6 ∷ []) ∷ frame 5 6 "ACABCDEF" false (7 ∷ []) ∷ frame 5 6 "ACABCDEF" true (7 ∷ []) ∷ frame 6 3 "ACDEFGH%" true (3 ∷ 0 ∷ []) ∷ frame 6 4 "ACDEFGH" false ([]) ∷ frame 6 4 "ACDEFGH" true ([]) ∷ frame 6 6 "AC" false (7 ∷ []) ∷ frame 7 0 "AC" true (1 ∷ 2 ∷ []) ∷ frame 7 1 "ACABCDEF" false (2 ∷ []) ∷ frame 7 1 "ACDEFGH" false (2 ∷ []) ∷ frame 7 4 "ACABCDEF" true ([]) ∷ frame 7 7 "AC" true (3 ∷ []) ∷ frame 7 7 "ACDEFGH%" true (3 ∷ []) ∷ [] } ∷
    record { text = "(module 0\n(line 65534\n)\n)\n"; asks = [] } ∷
    record { text = "(module 0\n(line 0\n(for ABCDEFGH static)\n)\n(line 50\n(return)\n(next plain *)\n(for ABCDEFG static)\n)\n)\n"; asks = word 0 "for" ∷ word 1 "return" ∷ word 2 "next" ∷ word 3 "for" ∷ frame 0 0 "ABABCDEF" true ([]) ∷ frame 0 0 "ABCDEFG" true ([]) ∷ frame 0 0 "ABCDEFGH" true ([]) ∷ frame 0 1 "ABABCDEF" false ([]) ∷ frame 0 1 "ABCDEFGH" true ([]) ∷ frame 0 2 "ABCDEFG" false (1 ∷ 3 ∷ []) ∷ frame 0 3 "AB" false ([]) ∷ frame 0 3 "AB" true ([]) ∷ frame 1 0 "ABCDEFG" false ([]) ∷ frame 1 0 "ABCDEFG%" false (1 ∷ []) ∷ frame 1 1 "AB" true ([]) ∷ frame 1 1 "ABCDEFG" false ([]) ∷ frame 1 1 "ABCDEFGH" false ([]) ∷ frame 1 3 "AB" true ([]) ∷ frame 1 3 "ABABCDEF" false ([]) ∷ frame 1 3 "ABCDEFG" false ([]) ∷ frame 1 3 "ABCDEFGH" false ([]) ∷ frame 2 0 "ABCDEFG" false ([]) ∷ frame 2 0 "ABCDEFG%" false (1 ∷ []) ∷ frame 2 0 "ABCDEFG%" true (1 ∷ []) ∷ frame 2 0 "ABCDEFGH" true ([]) ∷ frame 2 1 "ABABCDEF" true ([]) ∷ frame 2 1 "ABCDEFG" false ([]) ∷ frame 2 2 "ABABCDEF" false (1 ∷ 3 ∷ []) ∷ frame 2 2 "ABCDEFG%" true (1 ∷ 3 ∷ []) ∷ frame 2 2 "ABCDEFGH" true (1 ∷ 3 ∷ []) ∷ frame 2 3 "AB" false ([]) ∷ frame 2 3 "ABCDEFG" true ([]) ∷ frame 2 3 "ABCDEFG%" false ([]) ∷ frame 3 0 "AB" false ([]) ∷ frame 3 0 "ABCDEFG%" false (1 ∷ []) ∷ frame 3 0 "ABCDEFGH" true ([]) ∷ frame 3 1 "AB" false ([]) ∷ frame 3 1 "ABABCDEF" true ([]) ∷ frame 3 1 "ABCDEFG" true ([]) ∷ frame 3 1 "ABCDEFG%" false ([]) ∷ frame 3 1 "ABCDEFG%" true ([]) ∷ frame 3 2 "ABABCDEF" false (1 ∷ 3 ∷ []) ∷ frame 3 3 "AB" false ([]) ∷ frame 3 3 "ABABCDEF" false ([]) ∷ [] } ∷
    record { text = "(module 1\n(line 1\n(any)\n(done)\n)\n(line 20\n(else)\n(else)\n)\n)\n"; asks = word 0 "any" ∷ word 1 "done" ∷ word 2 "else" ∷ word 3 "else" ∷ frame 0 0 "QU" false (0 ∷ 2 ∷ []) ∷ frame 0 0 "QU" true (0 ∷ 2 ∷ []) ∷ frame 0 1 "QU" false (2 ∷ []) ∷ frame 0 1 "QU" true (2 ∷ []) ∷ frame 0 2 "QU" false ([]) ∷ frame 0 2 "QU" true ([]) ∷ frame 0 3 "QU" false ([]) ∷ frame 0 3 "QU" true ([]) ∷ frame 1 0 "QU" false (0 ∷ 2 ∷ []) ∷ frame 1 0 "QU" true (0 ∷ 2 ∷ []) ∷ frame 1 1 "QU" false (2 ∷ []) ∷ frame 1 1 "QU" true (2 ∷ []) ∷ frame 1 2 "QU" false ([]) ∷ frame 1 2 "QU" true ([]) ∷ frame 1 3 "QU" false ([]) ∷ frame 1 3 "QU" true ([]) ∷ frame 2 0 "QU" false (0 ∷ 2 ∷ []) ∷ frame 2 0 "QU" true (0 ∷ 2 ∷ []) ∷ frame 2 1 "QU" false (2 ∷ []) ∷ frame 2 1 "QU" true (2 ∷ []) ∷ frame 2 2 "QU" false ([]) ∷ frame 2 2 "QU" true ([]) ∷ frame 2 3 "QU" false ([]) ∷ frame 2 3 "QU" true ([]) ∷ frame 3 0 "QU" false (0 ∷ 2 ∷ []) ∷ frame 3 0 "QU" true (0 ∷ 2 ∷ []) ∷ frame 3 1 "QU" false (2 ∷ []) ∷ frame 3 1 "QU" true (2 ∷ []) ∷ frame 3 2 "QU" false ([]) ∷ frame 3 2 "QU" true ([]) ∷ frame 3 3 "QU" false ([]) ∷ frame 3 3 "QU" true ([]) ∷ [] } ∷
    record { text = "(module 0\n(line 5\n(gosub 5)\n)\n)\n"; asks = word 0 "gosub" ∷ frame 0 0 "QU" false ([]) ∷ frame 0 0 "QU" true ([]) ∷ [] } ∷
    record { text = "(module 1\n(line 40\n(plain)\n(for AB% framed)\n(for AB% static)\n(next plain ABCDEFGH%)\n)\n(line 999\n(exitif)\n(gosub 40)\n(any)\n(return)\n)\n)\n"; asks = word 0 "plain" ∷ word 1 "for" ∷ word 2 "for" ∷ word 3 "next" ∷ word 4 "exitif" ∷ word 5 "gosub" ∷ word 6 "any" ∷ word 7 "return" ∷ frame 0 0 "ABABCDEF%" false (1 ∷ []) ∷ frame 0 1 "AB%" false ([]) ∷ frame 0 2 "AB%" true ([]) ∷ frame 0 2 "ABABCDEF%" true ([]) ∷ frame 0 2 "ABCDEFGH%" false ([]) ∷ frame 1 0 "ABABCDEF%" true (1 ∷ []) ∷ frame 1 4 "AB" true (5 ∷ []) ∷ frame 1 4 "ABABCDEF%" true (5 ∷ []) ∷ frame 1 7 "ABCDEFGH%" false ([]) ∷ frame 2 1 "ABCDEFGH%" false ([]) ∷ frame 2 2 "AB" true (3 ∷ []) ∷ frame 2 2 "AB%" true ([]) ∷ frame 2 5 "AB" true (6 ∷ []) ∷ frame 2 5 "ABABCDEF%" true (6 ∷ []) ∷ frame 2 6 "ABABCDEF%" false (0 ∷ 4 ∷ []) ∷ frame 2 6 "ABABCDEF%" true (0 ∷ 4 ∷ []) ∷ frame 3 1 "AB" false (2 ∷ []) ∷ frame 3 2 "ABABCDEF%" true ([]) ∷ frame 3 4 "AB" false (5 ∷ []) ∷ frame 3 4 "AB" true (5 ∷ []) ∷ frame 3 6 "ABCDEFGH%" false (0 ∷ 4 ∷ []) ∷ frame 3 6 "ABCDEFGH%" true (0 ∷ 4 ∷ []) ∷ frame 3 7 "AB" false ([]) ∷ frame 4 1 "ABABCDEF%" true ([]) ∷ frame 4 2 "ABCDEFGH%" false ([]) ∷ frame 4 7 "AB" true ([]) ∷ frame 5 2 "AB%" false ([]) ∷ frame 5 5 "ABCDEFGH%" false (6 ∷ []) ∷ frame 5 6 "AB%" false (0 ∷ 4 ∷ []) ∷ frame 5 6 "AB%" true (0 ∷ 4 ∷ []) ∷ frame 6 3 "ABCDEFGH%" true (4 ∷ []) ∷ frame 6 4 "ABABCDEF%" false (5 ∷ []) ∷ frame 6 4 "ABABCDEF%" true (5 ∷ []) ∷ frame 6 6 "AB" false (0 ∷ 4 ∷ []) ∷ frame 7 0 "AB" true (1 ∷ []) ∷ frame 7 1 "AB%" false ([]) ∷ frame 7 1 "ABABCDEF%" false ([]) ∷ frame 7 4 "AB%" true (5 ∷ []) ∷ frame 7 7 "AB" true ([]) ∷ frame 7 7 "ABCDEFGH%" true ([]) ∷ [] } ∷
    record { text = "(module 1\n(line 10\n(clr)\n(exitif)\n(loop)\n)\n(line 40\n(any)\n)\n(line 50\n(clr)\n(loop)\n(next plain * N N NOTES%)\n(clr)\n(ongosub 40 10 40)\n(until)\n(exitif)\n)\n)\n"; asks = word 0 "clr" ∷ word 1 "exitif" ∷ word 2 "loop" ∷ word 3 "any" ∷ word 4 "clr" ∷ word 5 "loop" ∷ word 6 "next" ∷ word 7 "clr" ∷ word 8 "ongosub" ∷ word 9 "until" ∷ word 10 "exitif" ∷ frame 0 5 "NOABCDEF%" false (6 ∷ []) ∷ frame 1 1 "NO%" true (2 ∷ []) ∷ frame 1 2 "N" true (3 ∷ []) ∷ frame 1 3 "N%" true (0 ∷ 3 ∷ 4 ∷ []) ∷ frame 1 4 "N" false ([]) ∷ frame 1 5 "NOABCDEF%" true (6 ∷ []) ∷ frame 1 7 "N%" true ([]) ∷ frame 1 7 "NOTES%" true ([]) ∷ frame 2 2 "NOTES%" false (3 ∷ []) ∷ frame 2 5 "NOABCDEF%" true (6 ∷ []) ∷ frame 2 6 "N%" false (7 ∷ []) ∷ frame 2 7 "NOTES%" true ([]) ∷ frame 2 10 "NO%" true ([]) ∷ frame 3 0 "NOTES%" true ([]) ∷ frame 3 4 "N%" false ([]) ∷ frame 3 10 "NOTES%" false ([]) ∷ frame 4 2 "N%" false (3 ∷ []) ∷ frame 4 2 "N%" true (3 ∷ []) ∷ frame 4 10 "N%" false ([]) ∷ frame 5 0 "NOTES%" false ([]) ∷ frame 5 2 "NO%" true (3 ∷ []) ∷ frame 5 6 "N" true ([]) ∷ frame 6 1 "N" false (2 ∷ []) ∷ frame 6 2 "NOTES%" true (3 ∷ []) ∷ frame 6 3 "N" true (0 ∷ 3 ∷ 4 ∷ []) ∷ frame 6 6 "N%" false (7 ∷ []) ∷ frame 6 8 "NOTES%" false (9 ∷ []) ∷ frame 6 10 "N%" false ([]) ∷ frame 7 10 "NOTES%" true ([]) ∷ frame 8 1 "N%" false (2 ∷ []) ∷ frame 8 5 "NOABCDEF%" false (6 ∷ []) ∷ frame 8 6 "NO%" true ([]) ∷ frame 8 9 "NOABCDEF%" true (6 ∷ 10 ∷ []) ∷ frame 9 3 "NOTES%" false (0 ∷ 3 ∷ 4 ∷ []) ∷ frame 9 4 "NOTES%" true ([]) ∷ frame 10 0 "N" false ([]) ∷ frame 10 3 "NOABCDEF%" false (0 ∷ 3 ∷ 4 ∷ []) ∷ frame 10 6 "NO%" true ([]) ∷ frame 10 9 "N%" false (6 ∷ 10 ∷ []) ∷ frame 10 10 "NO%" true ([]) ∷ [] } ∷
    record { text = "(module 1\n(line 1\n(gosub 100)\n(exit)\n)\n(line 100\n(exitif)\n(ifelse\n(to 1)\n(stmts\n(stop)\n(exitif)\n(ifelse\n(stmts\n(loop)\n)\n(stmts\n)\n)\n)\n)\n(return)\n(any)\n)\n(line 65534\n)\n(line 65535\n)\n)\n"; asks = word 0 "gosub" ∷ word 1 "exit" ∷ word 2 "exitif" ∷ word 3 "ifelse" ∷ word 4 "stop" ∷ word 5 "exitif" ∷ word 6 "ifelse" ∷ word 7 "loop" ∷ word 8 "return" ∷ word 9 "any" ∷ frame 0 1 "QU" false ([]) ∷ frame 0 2 "QU" false (3 ∷ []) ∷ frame 0 3 "QU" true (0 ∷ 4 ∷ []) ∷ frame 0 5 "QU" true (6 ∷ []) ∷ frame 1 2 "QU" true (3 ∷ []) ∷ frame 1 5 "QU" false (6 ∷ []) ∷ frame 1 5 "QU" true (6 ∷ []) ∷ frame 1 6 "QU" true (7 ∷ 8 ∷ []) ∷ frame 1 7 "QU" true (8 ∷ []) ∷ frame 1 8 "QU" false ([]) ∷ frame 2 0 "QU" true (1 ∷ []) ∷ frame 2 1 "QU" false ([]) ∷ frame 2 4 "QU" true ([]) ∷ frame 2 6 "QU" false (7 ∷ 8 ∷ []) ∷ frame 2 9 "QU" false (0 ∷ 2 ∷ []) ∷ frame 2 9 "QU" true (0 ∷ 2 ∷ []) ∷ frame 3 4 "QU" false ([]) ∷ frame 3 5 "QU" true (6 ∷ []) ∷ frame 3 7 "QU" true (8 ∷ []) ∷ frame 3 8 "QU" false ([]) ∷ frame 4 4 "QU" true ([]) ∷ frame 4 9 "QU" true (0 ∷ 2 ∷ []) ∷ frame 5 5 "QU" true (6 ∷ []) ∷ frame 5 6 "QU" false (7 ∷ 8 ∷ []) ∷ frame 5 8 "QU" true ([]) ∷ frame 5 9 "QU" false (0 ∷ 2 ∷ []) ∷ frame 6 1 "QU" true ([]) ∷ frame 6 2 "QU" false (3 ∷ []) ∷ frame 6 2 "QU" true (3 ∷ []) ∷ frame 7 9 "QU" false (0 ∷ 2 ∷ []) ∷ frame 8 2 "QU" false (3 ∷ []) ∷ frame 8 2 "QU" true (3 ∷ []) ∷ frame 8 3 "QU" false (0 ∷ 4 ∷ []) ∷ frame 8 8 "QU" true ([]) ∷ frame 9 0 "QU" true (1 ∷ []) ∷ frame 9 1 "QU" true ([]) ∷ frame 9 2 "QU" false (3 ∷ []) ∷ frame 9 4 "QU" false ([]) ∷ frame 9 4 "QU" true ([]) ∷ frame 9 8 "QU" false ([]) ∷ [] } ∷
    record { text = "(module 0\n(line 100\n(for CO1 static)\n(next plain CO)\n(return)\n(gosub 100)\n)\n)\n"; asks = word 0 "for" ∷ word 1 "next" ∷ word 2 "return" ∷ word 3 "gosub" ∷ frame 0 0 "CO%" true (1 ∷ []) ∷ frame 0 1 "CO" false (1 ∷ 2 ∷ []) ∷ frame 0 1 "COABCDEF" false (1 ∷ 2 ∷ []) ∷ frame 0 1 "COABCDEF" true (1 ∷ []) ∷ frame 0 2 "CO" true ([]) ∷ frame 0 2 "CO%" true ([]) ∷ frame 0 2 "CO1" true ([]) ∷ frame 1 0 "CO" false ([]) ∷ frame 1 0 "CO1" true ([]) ∷ frame 1 0 "COABCDEF" false ([]) ∷ frame 1 1 "CO" false (1 ∷ 2 ∷ []) ∷ frame 1 1 "CO" true (1 ∷ 2 ∷ []) ∷ frame 1 1 "CO1" false (1 ∷ 2 ∷ []) ∷ frame 1 1 "CO1" true (1 ∷ 2 ∷ []) ∷ frame 1 1 "COABCDEF" false (1 ∷ 2 ∷ []) ∷ frame 1 1 "COABCDEF" true (1 ∷ 2 ∷ []) ∷ frame 1 2 "CO%" true ([]) ∷ frame 1 2 "CO1" false ([]) ∷ frame 1 3 "CO" false ([]) ∷ frame 1 3 "CO1" false ([]) ∷ frame 1 3 "CO1" true ([]) ∷ frame 1 3 "COABCDEF" true ([]) ∷ frame 2 0 "CO" true ([]) ∷ frame 2 0 "CO%" false (1 ∷ []) ∷ frame 2 0 "CO%" true (1 ∷ []) ∷ frame 2 0 "CO1" true ([]) ∷ frame 2 0 "COABCDEF" true ([]) ∷ frame 2 1 "CO" true ([]) ∷ frame 2 2 "CO" false ([]) ∷ frame 2 2 "CO" true ([]) ∷ frame 2 2 "CO%" false ([]) ∷ frame 2 2 "CO1" true ([]) ∷ frame 2 3 "CO%" true ([]) ∷ frame 2 3 "CO1" true ([]) ∷ frame 3 0 "CO" true ([]) ∷ frame 3 0 "CO%" true (1 ∷ []) ∷ frame 3 2 "CO" false ([]) ∷ frame 3 3 "CO" true ([]) ∷ frame 3 3 "COABCDEF" false ([]) ∷ frame 3 3 "COABCDEF" true ([]) ∷ [] } ∷
    record { text = "(module 0\n(line 0\n(repeat)\n)\n(line 1\n(exit)\n(loop)\n)\n(line 50\n(exitif)\n(exit)\n)\n(line 65534\n(exit)\n(repeat)\n)\n(line 65535\n(loop)\n(endloop)\n)\n)\n"; asks = word 0 "repeat" ∷ word 1 "exit" ∷ word 2 "loop" ∷ word 3 "exitif" ∷ word 4 "exit" ∷ word 5 "exit" ∷ word 6 "repeat" ∷ word 7 "loop" ∷ word 8 "endloop" ∷ frame 0 0 "QU" false (1 ∷ []) ∷ frame 0 2 "QU" false (3 ∷ []) ∷ frame 0 3 "QU" false (4 ∷ []) ∷ frame 0 5 "QU" false ([]) ∷ frame 0 6 "QU" true (7 ∷ []) ∷ frame 0 8 "QU" false (8 ∷ []) ∷ frame 1 0 "QU" false (1 ∷ []) ∷ frame 1 4 "QU" true ([]) ∷ frame 1 5 "QU" false ([]) ∷ frame 1 6 "QU" false (7 ∷ []) ∷ frame 1 8 "QU" false (8 ∷ []) ∷ frame 2 0 "QU" true (1 ∷ []) ∷ frame 2 4 "QU" false ([]) ∷ frame 2 5 "QU" false ([]) ∷ frame 2 7 "QU" true (8 ∷ []) ∷ frame 2 8 "QU" false (8 ∷ []) ∷ frame 3 0 "QU" true (1 ∷ []) ∷ frame 3 1 "QU" true ([]) ∷ frame 3 5 "QU" false ([]) ∷ frame 3 8 "QU" false (8 ∷ []) ∷ frame 3 8 "QU" true (8 ∷ []) ∷ frame 4 1 "QU" true ([]) ∷ frame 4 4 "QU" true ([]) ∷ frame 5 7 "QU" true (8 ∷ []) ∷ frame 5 8 "QU" true (8 ∷ []) ∷ frame 6 3 "QU" false (4 ∷ []) ∷ frame 6 3 "QU" true (4 ∷ []) ∷ frame 6 4 "QU" true ([]) ∷ frame 6 6 "QU" false (7 ∷ []) ∷ frame 7 0 "QU" true (1 ∷ []) ∷ frame 7 1 "QU" false ([]) ∷ frame 7 1 "QU" true ([]) ∷ frame 7 5 "QU" false ([]) ∷ frame 7 8 "QU" true (8 ∷ []) ∷ frame 8 0 "QU" false (1 ∷ []) ∷ frame 8 4 "QU" false ([]) ∷ frame 8 6 "QU" false (7 ∷ []) ∷ frame 8 6 "QU" true (7 ∷ []) ∷ frame 8 7 "QU" false (8 ∷ []) ∷ frame 8 8 "QU" false (8 ∷ []) ∷ [] } ∷
    record { text = "(module 0\n(line 999\n(gosub 999)\n(return)\n(return)\n)\n)\n"; asks = word 0 "gosub" ∷ word 1 "return" ∷ word 2 "return" ∷ frame 0 0 "QU" false (1 ∷ []) ∷ frame 0 0 "QU" true (1 ∷ []) ∷ frame 0 1 "QU" false ([]) ∷ frame 0 1 "QU" true ([]) ∷ frame 0 2 "QU" false ([]) ∷ frame 0 2 "QU" true ([]) ∷ frame 1 0 "QU" false (1 ∷ []) ∷ frame 1 0 "QU" true (1 ∷ []) ∷ frame 1 1 "QU" false ([]) ∷ frame 1 1 "QU" true ([]) ∷ frame 1 2 "QU" false ([]) ∷ frame 1 2 "QU" true ([]) ∷ frame 2 0 "QU" false (1 ∷ []) ∷ frame 2 0 "QU" true (1 ∷ []) ∷ frame 2 1 "QU" false ([]) ∷ frame 2 1 "QU" true ([]) ∷ frame 2 2 "QU" false ([]) ∷ frame 2 2 "QU" true ([]) ∷ [] } ∷
    record { text = "(module 0\n(line 20\n(for COUNT static)\n(for COUNT dispatched)\n(next plain CO2)\n(gosub 20)\n(next orphan COUNT)\n(return)\n)\n)\n"; asks = word 0 "for" ∷ word 1 "for" ∷ word 2 "next" ∷ word 3 "gosub" ∷ word 4 "next" ∷ word 5 "return" ∷ frame 0 3 "CO2" true (4 ∷ []) ∷ frame 0 3 "COUNT" true (4 ∷ []) ∷ frame 0 4 "CO" false (5 ∷ 2 ∷ []) ∷ frame 0 4 "CO2" true ([]) ∷ frame 1 0 "CO" false ([]) ∷ frame 1 1 "CO" false ([]) ∷ frame 1 1 "CO2%" false (2 ∷ []) ∷ frame 1 1 "COABCDEF" true ([]) ∷ frame 1 1 "COUNT" true ([]) ∷ frame 1 3 "CO2%" true (4 ∷ []) ∷ frame 1 4 "CO" true (2 ∷ []) ∷ frame 1 4 "CO2" true (2 ∷ []) ∷ frame 1 4 "COABCDEF" false (5 ∷ 2 ∷ []) ∷ frame 1 5 "COUNT" false ([]) ∷ frame 2 0 "CO2%" false (1 ∷ []) ∷ frame 2 0 "COABCDEF" false ([]) ∷ frame 2 2 "CO" false (2 ∷ 3 ∷ []) ∷ frame 2 2 "CO" true (2 ∷ 3 ∷ []) ∷ frame 2 3 "CO" false (4 ∷ []) ∷ frame 2 3 "CO2%" false (4 ∷ []) ∷ frame 2 3 "COABCDEF" false (4 ∷ []) ∷ frame 2 4 "CO2" true (2 ∷ []) ∷ frame 2 4 "COABCDEF" false (5 ∷ 2 ∷ []) ∷ frame 3 0 "COABCDEF" false ([]) ∷ frame 3 1 "COABCDEF" false ([]) ∷ frame 3 3 "CO2" false (4 ∷ []) ∷ frame 3 4 "CO" false (5 ∷ 2 ∷ []) ∷ frame 3 4 "COUNT" true ([]) ∷ frame 3 5 "CO2" true ([]) ∷ frame 4 0 "COABCDEF" false ([]) ∷ frame 4 3 "CO2" false (4 ∷ []) ∷ frame 4 3 "COABCDEF" true (4 ∷ []) ∷ frame 4 3 "COUNT" false (4 ∷ []) ∷ frame 4 4 "CO" false (5 ∷ 2 ∷ []) ∷ frame 5 1 "CO" false ([]) ∷ frame 5 1 "COABCDEF" true ([]) ∷ frame 5 1 "COUNT" false ([]) ∷ frame 5 3 "CO2" true (4 ∷ []) ∷ frame 5 3 "COUNT" false (4 ∷ []) ∷ frame 5 4 "COABCDEF" true ([]) ∷ [] } ∷
    record { text = "(module 0\n(line 100\n(rcomp\n(to 100)\n(stmts\n(for LOOPVAR2 framed)\n(return)\n)\n)\n(for LOOPVAR2 dispatched)\n(done)\n(plain)\n)\n(line 999\n(gosub 999)\n(next orphan LOOPVAR2)\n(return)\n)\n)\n"; asks = word 0 "rcomp" ∷ word 1 "for" ∷ word 2 "return" ∷ word 3 "for" ∷ word 4 "done" ∷ word 5 "plain" ∷ word 6 "gosub" ∷ word 7 "next" ∷ word 8 "return" ∷ frame 0 2 "LOABCDEF" false ([]) ∷ frame 0 2 "LOOPVAR2%" false ([]) ∷ frame 0 3 "LOOPVAR2" true ([]) ∷ frame 1 0 "LOOPVAR2" false (0 ∷ 1 ∷ []) ∷ frame 1 4 "LOABCDEF" false (5 ∷ []) ∷ frame 1 4 "LOOPVAR2%" false (5 ∷ []) ∷ frame 1 5 "LOABCDEF" true (6 ∷ []) ∷ frame 1 5 "LOOPVAR2" false (6 ∷ []) ∷ frame 1 7 "LOABCDEF" true ([]) ∷ frame 1 7 "LOOPVAR2%" true ([]) ∷ frame 2 3 "LO" true ([]) ∷ frame 2 4 "LOOPVAR2%" false (5 ∷ []) ∷ frame 2 7 "LOABCDEF" true ([]) ∷ frame 3 2 "LOOPVAR2" false ([]) ∷ frame 3 5 "LO" true (6 ∷ []) ∷ frame 3 5 "LOABCDEF" false (6 ∷ []) ∷ frame 3 7 "LO" false (4 ∷ 8 ∷ []) ∷ frame 3 7 "LOABCDEF" true (4 ∷ []) ∷ frame 4 1 "LOABCDEF" true ([]) ∷ frame 4 2 "LOOPVAR2" true ([]) ∷ frame 4 4 "LOOPVAR2" false (5 ∷ []) ∷ frame 4 6 "LO" true (7 ∷ []) ∷ frame 4 7 "LOOPVAR2%" false (4 ∷ 8 ∷ []) ∷ frame 4 8 "LO" true ([]) ∷ frame 4 8 "LOABCDEF" false ([]) ∷ frame 5 0 "LO" true (0 ∷ 1 ∷ []) ∷ frame 5 2 "LOOPVAR2%" true ([]) ∷ frame 5 3 "LOOPVAR2" false ([]) ∷ frame 5 7 "LOOPVAR2%" false (4 ∷ 8 ∷ []) ∷ frame 5 8 "LO" true ([]) ∷ frame 6 8 "LOOPVAR2" true ([]) ∷ frame 7 0 "LOABCDEF" true (0 ∷ 1 ∷ []) ∷ frame 7 4 "LO" false (5 ∷ []) ∷ frame 7 7 "LO" false (4 ∷ 8 ∷ []) ∷ frame 8 0 "LO" true (0 ∷ 1 ∷ []) ∷ frame 8 0 "LOOPVAR2" false (0 ∷ 1 ∷ []) ∷ frame 8 1 "LO" false ([]) ∷ frame 8 1 "LO" true ([]) ∷ frame 8 3 "LOOPVAR2%" true (4 ∷ []) ∷ frame 8 5 "LO" false (6 ∷ []) ∷ [] } ∷
    record { text = "(module 0\n(line 0\n(ongoto 0 5 1 999)\n)\n(line 1\n(if\n(stmts\n(clr)\n(ongoto 65534 1 40)\n(run)\n)\n)\n)\n(line 5\n(ongoto 65534)\n(any)\n)\n(line 40\n(goto 100)\n(if\n(to 65534)\n)\n)\n(line 100\n(run 65534)\n)\n(line 65534\n(any)\n)\n)\n"; asks = word 0 "ongoto" ∷ word 1 "if" ∷ word 2 "clr" ∷ word 3 "ongoto" ∷ word 4 "run" ∷ word 5 "ongoto" ∷ word 6 "any" ∷ word 7 "goto" ∷ word 8 "if" ∷ word 9 "run" ∷ word 10 "any" ∷ frame 0 0 "QU" false (0 ∷ 5 ∷ 1 ∷ []) ∷ frame 0 0 "QU" true (0 ∷ 5 ∷ 1 ∷ []) ∷ frame 0 3 "QU" true (10 ∷ 1 ∷ 7 ∷ 4 ∷ []) ∷ frame 0 4 "QU" false ([]) ∷ frame 0 5 "QU" false (10 ∷ 6 ∷ []) ∷ frame 0 8 "QU" false (10 ∷ 9 ∷ []) ∷ frame 1 7 "QU" true (9 ∷ []) ∷ frame 1 10 "QU" true (0 ∷ 1 ∷ 5 ∷ 7 ∷ 9 ∷ 10 ∷ []) ∷ frame 2 3 "QU" false (10 ∷ 1 ∷ 7 ∷ 4 ∷ []) ∷ frame 2 3 "QU" true (10 ∷ 1 ∷ 7 ∷ 4 ∷ []) ∷ frame 2 4 "QU" true ([]) ∷ frame 2 6 "QU" false (0 ∷ 1 ∷ 5 ∷ 7 ∷ 9 ∷ 10 ∷ []) ∷ frame 2 10 "QU" true (0 ∷ 1 ∷ 5 ∷ 7 ∷ 9 ∷ 10 ∷ []) ∷ frame 3 8 "QU" false (10 ∷ 9 ∷ []) ∷ frame 3 9 "QU" true ([]) ∷ frame 4 4 "QU" true ([]) ∷ frame 4 6 "QU" false (0 ∷ 1 ∷ 5 ∷ 7 ∷ 9 ∷ 10 ∷ []) ∷ frame 5 0 "QU" false (0 ∷ 5 ∷ 1 ∷ []) ∷ frame 5 4 "QU" false ([]) ∷ frame 5 5 "QU" true (10 ∷ 6 ∷ []) ∷ frame 5 7 "QU" false (9 ∷ []) ∷ frame 5 8 "QU" true (10 ∷ 9 ∷ []) ∷ frame 5 10 "QU" true (0 ∷ 1 ∷ 5 ∷ 7 ∷ 9 ∷ 10 ∷ []) ∷ frame 6 1 "QU" true (2 ∷ 5 ∷ []) ∷ frame 6 2 "QU" false ([]) ∷ frame 6 4 "QU" false ([]) ∷ frame 7 0 "QU" true (0 ∷ 5 ∷ 1 ∷ []) ∷ frame 7 1 "QU" true (2 ∷ 5 ∷ []) ∷ frame 7 2 "QU" true ([]) ∷ frame 8 3 "QU" false (10 ∷ 1 ∷ 7 ∷ 4 ∷ []) ∷ frame 8 4 "QU" true ([]) ∷ frame 8 9 "QU" false ([]) ∷ frame 9 0 "QU" false (0 ∷ 5 ∷ 1 ∷ []) ∷ frame 9 1 "QU" true (2 ∷ 5 ∷ []) ∷ frame 9 2 "QU" true ([]) ∷ frame 9 4 "QU" false ([]) ∷ frame 9 8 "QU" true (10 ∷ 9 ∷ []) ∷ frame 9 9 "QU" true ([]) ∷ frame 9 10 "QU" true (0 ∷ 1 ∷ 5 ∷ 7 ∷ 9 ∷ 10 ∷ []) ∷ frame 10 10 "QU" true (0 ∷ 1 ∷ 5 ∷ 7 ∷ 9 ∷ 10 ∷ []) ∷ [] } ∷
    record { text = "(module 1\n(line 5\n(loop)\n)\n(line 30\n(for ABCDEFGH% static)\n(gosub 30)\n(any)\n(else)\n(return)\n)\n)\n"; asks = word 0 "loop" ∷ word 1 "for" ∷ word 2 "gosub" ∷ word 3 "any" ∷ word 4 "else" ∷ word 5 "return" ∷ frame 0 1 "ABCDEFGH%" false ([]) ∷ frame 0 2 "ABCDEFGH%" false (3 ∷ []) ∷ frame 0 2 "ABCDEFGH%" true (3 ∷ []) ∷ frame 0 3 "AB%" false (0 ∷ 1 ∷ []) ∷ frame 1 0 "ABABCDEF%" false (1 ∷ []) ∷ frame 1 0 "ABCDEFGH" false (1 ∷ []) ∷ frame 1 1 "ABCDEFGH" false (2 ∷ []) ∷ frame 1 2 "AB%" true (3 ∷ []) ∷ frame 1 2 "ABCDEFGH" false (3 ∷ []) ∷ frame 1 3 "ABCDEFGH" false (0 ∷ 1 ∷ []) ∷ frame 1 4 "ABCDEFGH%" false ([]) ∷ frame 1 5 "AB%" true ([]) ∷ frame 1 5 "ABCDEFGH" true ([]) ∷ frame 2 0 "AB%" true (1 ∷ []) ∷ frame 2 0 "ABCDEFGH%" true (1 ∷ []) ∷ frame 2 1 "ABABCDEF%" true ([]) ∷ frame 2 3 "ABABCDEF%" true (0 ∷ 1 ∷ []) ∷ frame 3 0 "AB%" false (1 ∷ []) ∷ frame 3 0 "ABCDEFGH" false (1 ∷ []) ∷ frame 3 2 "AB%" true (3 ∷ []) ∷ frame 3 2 "ABCDEFGH" true (3 ∷ []) ∷ frame 3 5 "AB%" true ([]) ∷ frame 3 5 "ABCDEFGH" false ([]) ∷ frame 4 1 "ABABCDEF%" false ([]) ∷ frame 4 2 "ABCDEFGH" true (3 ∷ []) ∷ frame 4 3 "ABABCDEF%" true (0 ∷ 1 ∷ []) ∷ frame 4 5 "ABABCDEF%" false ([]) ∷ frame 4 5 "ABCDEFGH%" false ([]) ∷ frame 5 0 "AB%" false (1 ∷ []) ∷ frame 5 0 "ABABCDEF%" false (1 ∷ []) ∷ frame 5 0 "ABCDEFGH" false (1 ∷ []) ∷ frame 5 0 "ABCDEFGH" true (1 ∷ []) ∷ frame 5 0 "ABCDEFGH%" false (1 ∷ []) ∷ frame 5 1 "AB%" false ([]) ∷ frame 5 1 "ABABCDEF%" false ([]) ∷ frame 5 1 "ABCDEFGH" false (2 ∷ []) ∷ frame 5 2 "ABCDEFGH" true (3 ∷ []) ∷ frame 5 3 "AB%" true (0 ∷ 1 ∷ []) ∷ frame 5 4 "ABABCDEF%" true ([]) ∷ frame 5 5 "ABCDEFGH%" true ([]) ∷ [] } ∷
    record { text = "(module 1\n(line 5\n(doif)\n(return)\n(ongosub 5 5)\n(plain)\n)\n)\n"; asks = word 0 "doif" ∷ word 1 "return" ∷ word 2 "ongosub" ∷ word 3 "plain" ∷ frame 0 0 "QU" false (1 ∷ []) ∷ frame 0 0 "QU" true (1 ∷ []) ∷ frame 0 1 "QU" false ([]) ∷ frame 0 1 "QU" true ([]) ∷ frame 0 2 "QU" false (3 ∷ []) ∷ frame 0 2 "QU" true (3 ∷ []) ∷ frame 0 3 "QU" false ([]) ∷ frame 0 3 "QU" true ([]) ∷ frame 1 0 "QU" false (1 ∷ []) ∷ frame 1 0 "QU" true (1 ∷ []) ∷ frame 1 1 "QU" false ([]) ∷ frame 1 1 "QU" true ([]) ∷ frame 1 2 "QU" false (3 ∷ []) ∷ frame 1 2 "QU" true (3 ∷ []) ∷ frame 1 3 "QU" false ([]) ∷ frame 1 3 "QU" true ([]) ∷ frame 2 0 "QU" false (1 ∷ []) ∷ frame 2 0 "QU" true (1 ∷ []) ∷ frame 2 1 "QU" false ([]) ∷ frame 2 1 "QU" true ([]) ∷ frame 2 2 "QU" false (3 ∷ []) ∷ frame 2 2 "QU" true (3 ∷ []) ∷ frame 2 3 "QU" false ([]) ∷ frame 2 3 "QU" true ([]) ∷ frame 3 0 "QU" false (1 ∷ []) ∷ frame 3 0 "QU" true (1 ∷ []) ∷ frame 3 1 "QU" false ([]) ∷ frame 3 1 "QU" true ([]) ∷ frame 3 2 "QU" false (3 ∷ []) ∷ frame 3 2 "QU" true (3 ∷ []) ∷ frame 3 3 "QU" false ([]) ∷ frame 3 3 "QU" true ([]) ∷ [] } ∷
    record { text = "(module 1\n(line 0\n(return)\n)\n(line 1\n)\n(line 10\n(for CO1 dispatched)\n(if\n(to 50)\n)\n)\n(line 50\n)\n(line 65535\n(stop)\n(return)\n(rcomp\n(stmts\n(else)\n(plain)\n)\n)\n(plain)\n(exit)\n(next orphan COUNTER)\n)\n)\n"; asks = word 0 "return" ∷ word 1 "for" ∷ word 2 "if" ∷ word 3 "stop" ∷ word 4 "return" ∷ word 5 "rcomp" ∷ word 6 "else" ∷ word 7 "plain" ∷ word 8 "plain" ∷ word 9 "exit" ∷ word 10 "next" ∷ frame 0 5 "COABCDEF" false (6 ∷ 8 ∷ []) ∷ frame 1 1 "CO1%" true (2 ∷ []) ∷ frame 1 2 "CO" true (3 ∷ []) ∷ frame 1 3 "CO1" true ([]) ∷ frame 1 4 "CO" false ([]) ∷ frame 1 5 "COABCDEF" true (6 ∷ 8 ∷ []) ∷ frame 1 7 "CO1" true (8 ∷ []) ∷ frame 1 7 "COUNTER" true (8 ∷ []) ∷ frame 2 2 "COUNTER" false (3 ∷ []) ∷ frame 2 5 "COABCDEF" true (6 ∷ 8 ∷ []) ∷ frame 2 6 "CO1" false ([]) ∷ frame 2 7 "COUNTER" true (8 ∷ []) ∷ frame 2 10 "CO1%" true ([]) ∷ frame 3 0 "COUNTER" true ([]) ∷ frame 3 4 "CO1" false ([]) ∷ frame 3 10 "COUNTER" false (2 ∷ []) ∷ frame 4 2 "CO1" false (3 ∷ []) ∷ frame 4 2 "CO1" true (3 ∷ []) ∷ frame 4 10 "CO1" false (2 ∷ []) ∷ frame 5 0 "COUNTER" false ([]) ∷ frame 5 2 "CO1%" true (3 ∷ []) ∷ frame 5 6 "CO" true ([]) ∷ frame 6 1 "CO" false ([]) ∷ frame 6 2 "COUNTER" true (3 ∷ []) ∷ frame 6 3 "CO" true ([]) ∷ frame 6 6 "CO1" false ([]) ∷ frame 6 8 "COUNTER" false (9 ∷ []) ∷ frame 6 10 "CO1" false (2 ∷ []) ∷ frame 7 10 "COUNTER" true ([]) ∷ frame 8 1 "CO1" false ([]) ∷ frame 8 5 "COABCDEF" false (6 ∷ 8 ∷ []) ∷ frame 8 6 "CO1%" true ([]) ∷ frame 8 9 "COABCDEF" true ([]) ∷ frame 9 3 "COUNTER" false ([]) ∷ frame 9 4 "COUNTER" true ([]) ∷ frame 10 0 "CO" false ([]) ∷ frame 10 3 "COABCDEF" false ([]) ∷ frame 10 6 "CO1%" true ([]) ∷ frame 10 9 "CO1" false ([]) ∷ frame 10 10 "CO1%" true (2 ∷ []) ∷ [] } ∷
    record { text = "(module 1\n(line 40\n(gosub 40)\n(gosub 40)\n(return)\n(any)\n)\n)\n"; asks = word 0 "gosub" ∷ word 1 "gosub" ∷ word 2 "return" ∷ word 3 "any" ∷ frame 0 0 "QU" false (1 ∷ []) ∷ frame 0 0 "QU" true (1 ∷ []) ∷ frame 0 1 "QU" false (2 ∷ []) ∷ frame 0 1 "QU" true (2 ∷ []) ∷ frame 0 2 "QU" false ([]) ∷ frame 0 2 "QU" true ([]) ∷ frame 0 3 "QU" false (0 ∷ []) ∷ frame 0 3 "QU" true (0 ∷ []) ∷ frame 1 0 "QU" false (1 ∷ []) ∷ frame 1 0 "QU" true (1 ∷ []) ∷ frame 1 1 "QU" false (2 ∷ []) ∷ frame 1 1 "QU" true (2 ∷ []) ∷ frame 1 2 "QU" false ([]) ∷ frame 1 2 "QU" true ([]) ∷ frame 1 3 "QU" false (0 ∷ []) ∷ frame 1 3 "QU" true (0 ∷ []) ∷ frame 2 0 "QU" false (1 ∷ []) ∷ frame 2 0 "QU" true (1 ∷ []) ∷ frame 2 1 "QU" false (2 ∷ []) ∷ frame 2 1 "QU" true (2 ∷ []) ∷ frame 2 2 "QU" false ([]) ∷ frame 2 2 "QU" true ([]) ∷ frame 2 3 "QU" false (0 ∷ []) ∷ frame 2 3 "QU" true (0 ∷ []) ∷ frame 3 0 "QU" false (1 ∷ []) ∷ frame 3 0 "QU" true (1 ∷ []) ∷ frame 3 1 "QU" false (2 ∷ []) ∷ frame 3 1 "QU" true (2 ∷ []) ∷ frame 3 2 "QU" false ([]) ∷ frame 3 2 "QU" true ([]) ∷ frame 3 3 "QU" false (0 ∷ []) ∷ frame 3 3 "QU" true (0 ∷ []) ∷ [] } ∷
    record { text = "(module 0\n(line 5\n(loop)\n(loop)\n(exit)\n)\n(line 100\n(plain)\n(for I static)\n(return)\n(any)\n(for X static)\n)\n(line 999\n(next plain X)\n)\n)\n"; asks = word 0 "loop" ∷ word 1 "loop" ∷ word 2 "exit" ∷ word 3 "plain" ∷ word 4 "for" ∷ word 5 "return" ∷ word 6 "any" ∷ word 7 "for" ∷ word 8 "next" ∷ frame 0 0 "I" false (1 ∷ []) ∷ frame 0 6 "X" true (0 ∷ 3 ∷ 8 ∷ []) ∷ frame 0 7 "X" false ([]) ∷ frame 1 4 "I" false ([]) ∷ frame 1 5 "X" false ([]) ∷ frame 1 5 "X" true ([]) ∷ frame 1 6 "I" true (0 ∷ 3 ∷ 8 ∷ []) ∷ frame 1 7 "I" true (8 ∷ []) ∷ frame 2 0 "X" true (1 ∷ []) ∷ frame 2 2 "I%" false ([]) ∷ frame 2 3 "I%" false (4 ∷ []) ∷ frame 2 6 "X" true (0 ∷ 3 ∷ 8 ∷ []) ∷ frame 2 7 "X" true ([]) ∷ frame 2 8 "I" false (8 ∷ []) ∷ frame 2 8 "I" true ([]) ∷ frame 3 1 "I" false (2 ∷ []) ∷ frame 3 3 "X" false (4 ∷ []) ∷ frame 3 5 "I%" true ([]) ∷ frame 3 5 "X" true ([]) ∷ frame 4 2 "I" false ([]) ∷ frame 4 2 "X" false ([]) ∷ frame 4 3 "I%" false (4 ∷ []) ∷ frame 4 5 "X" false ([]) ∷ frame 4 6 "I" true (0 ∷ 3 ∷ 8 ∷ []) ∷ frame 4 6 "I%" true (0 ∷ 3 ∷ 8 ∷ []) ∷ frame 5 4 "I" false ([]) ∷ frame 5 5 "X" true ([]) ∷ frame 5 6 "I%" false (0 ∷ 3 ∷ 8 ∷ []) ∷ frame 5 7 "X" true ([]) ∷ frame 6 3 "I%" true (4 ∷ []) ∷ frame 6 3 "X" true (4 ∷ []) ∷ frame 7 3 "I%" false (4 ∷ []) ∷ frame 7 3 "X" false (4 ∷ []) ∷ frame 7 4 "I" true ([]) ∷ frame 7 5 "X" false ([]) ∷ frame 7 8 "X" true (8 ∷ []) ∷ frame 8 0 "I" false (1 ∷ []) ∷ frame 8 0 "I%" true (1 ∷ []) ∷ frame 8 7 "X" true ([]) ∷ frame 8 8 "X" false (8 ∷ []) ∷ [] } ∷
    record { text = "(module 0\n(line 20\n)\n(line 30\n(rcomp\n(stmts\n(if\n(stmts\n(for COUNTER% dispatched)\n(for COUNT static)\n)\n)\n)\n(stmts\n(next plain COUNTERS$)\n)\n)\n(if\n(to 20)\n)\n(rcomp\n(stmts\n)\n(to 65535)\n)\n(for COUNT static)\n)\n(line 65534\n(gosub 65534)\n(return)\n)\n(line 65535\n(next plain COUNTER)\n)\n)\n"; asks = word 0 "rcomp" ∷ word 1 "if" ∷ word 2 "for" ∷ word 3 "for" ∷ word 4 "next" ∷ word 5 "if" ∷ word 6 "rcomp" ∷ word 7 "for" ∷ word 8 "gosub" ∷ word 9 "return" ∷ word 10 "next" ∷ frame 0 2 "CO%" true ([]) ∷ frame 0 9 "CO" false ([]) ∷ frame 0 10 "COUNTER%" true ([]) ∷ frame 1 1 "COUNT" true (2 ∷ 5 ∷ []) ∷ frame 1 1 "COUNTERS$" false (2 ∷ 5 ∷ []) ∷ frame 1 4 "COUNT" false (5 ∷ []) ∷ frame 1 4 "COUNTER%" false (5 ∷ []) ∷ frame 1 7 "COABCDEF%" true (8 ∷ []) ∷ frame 2 2 "CO" false (3 ∷ []) ∷ frame 2 8 "COABCDEF%" false (9 ∷ []) ∷ frame 2 8 "Z" true (9 ∷ []) ∷ frame 3 0 "COUNTER" true (1 ∷ 4 ∷ []) ∷ frame 3 5 "COUNT" true (0 ∷ 6 ∷ []) ∷ frame 4 3 "CO" true ([]) ∷ frame 4 5 "COUNTERS$" true (0 ∷ 6 ∷ []) ∷ frame 5 1 "COABCDEF%" true (2 ∷ 5 ∷ []) ∷ frame 5 2 "CO$" true (3 ∷ []) ∷ frame 5 6 "CO$" true (7 ∷ 10 ∷ []) ∷ frame 5 7 "COUNTER%" false (8 ∷ []) ∷ frame 5 7 "Z" false (8 ∷ []) ∷ frame 6 0 "Z" true (1 ∷ 4 ∷ []) ∷ frame 6 2 "CO" true (3 ∷ []) ∷ frame 6 4 "COUNTER%" true ([]) ∷ frame 6 7 "CO" true ([]) ∷ frame 6 8 "COUNTERS$" false (9 ∷ []) ∷ frame 6 10 "CO%" true ([]) ∷ frame 6 10 "COUNT" false (8 ∷ []) ∷ frame 7 2 "CO" true (3 ∷ []) ∷ frame 7 7 "CO$" true (8 ∷ []) ∷ frame 8 1 "CO%" false (2 ∷ 5 ∷ []) ∷ frame 8 1 "CO%" true (2 ∷ 5 ∷ []) ∷ frame 8 3 "COUNTERS$" false (5 ∷ []) ∷ frame 8 5 "CO" false (0 ∷ 6 ∷ []) ∷ frame 9 0 "COUNTER" true (1 ∷ 4 ∷ []) ∷ frame 9 0 "COUNTERS$" false (1 ∷ 4 ∷ []) ∷ frame 9 1 "COUNT" false (2 ∷ 5 ∷ []) ∷ frame 9 2 "COUNTER%" true ([]) ∷ frame 9 5 "CO$" false (0 ∷ 6 ∷ []) ∷ frame 10 1 "COUNTERS$" false (2 ∷ 5 ∷ []) ∷ frame 10 3 "COUNTER%" true (5 ∷ []) ∷ [] } ∷
    record { text = "(module 0\n(line 65535\n)\n)\n"; asks = [] } ∷
    record { text = "(module 0\n(line 0\n)\n(line 5\n(done)\n)\n(line 10\n(endloop)\n(doif)\n(gosub 999)\n)\n(line 40\n(else)\n(plain)\n(doif)\n(else)\n(doif)\n)\n(line 999\n(return)\n)\n)\n"; asks = word 0 "done" ∷ word 1 "endloop" ∷ word 2 "doif" ∷ word 3 "gosub" ∷ word 4 "else" ∷ word 5 "plain" ∷ word 6 "doif" ∷ word 7 "else" ∷ word 8 "doif" ∷ word 9 "return" ∷ frame 0 1 "QU" false ([]) ∷ frame 0 2 "QU" false (3 ∷ 5 ∷ []) ∷ frame 0 3 "QU" true (4 ∷ []) ∷ frame 0 5 "QU" true (6 ∷ []) ∷ frame 1 2 "QU" true (3 ∷ 5 ∷ []) ∷ frame 1 5 "QU" false (6 ∷ []) ∷ frame 1 5 "QU" true (6 ∷ []) ∷ frame 1 6 "QU" true (7 ∷ 8 ∷ []) ∷ frame 1 7 "QU" true ([]) ∷ frame 1 8 "QU" false (9 ∷ []) ∷ frame 2 0 "QU" true (1 ∷ []) ∷ frame 2 1 "QU" false ([]) ∷ frame 2 4 "QU" true ([]) ∷ frame 2 6 "QU" false (7 ∷ 8 ∷ []) ∷ frame 2 9 "QU" false ([]) ∷ frame 2 9 "QU" true ([]) ∷ frame 3 4 "QU" false ([]) ∷ frame 3 5 "QU" true (6 ∷ []) ∷ frame 3 7 "QU" true ([]) ∷ frame 3 8 "QU" false (9 ∷ []) ∷ frame 4 4 "QU" true ([]) ∷ frame 4 9 "QU" true ([]) ∷ frame 5 5 "QU" true (6 ∷ []) ∷ frame 5 6 "QU" false (7 ∷ 8 ∷ []) ∷ frame 5 8 "QU" true (9 ∷ []) ∷ frame 5 9 "QU" false ([]) ∷ frame 6 1 "QU" true ([]) ∷ frame 6 2 "QU" false (3 ∷ 5 ∷ []) ∷ frame 6 2 "QU" true (3 ∷ 5 ∷ []) ∷ frame 7 9 "QU" false ([]) ∷ frame 8 2 "QU" false (3 ∷ 5 ∷ []) ∷ frame 8 2 "QU" true (3 ∷ 5 ∷ []) ∷ frame 8 3 "QU" false (4 ∷ []) ∷ frame 8 8 "QU" true (9 ∷ []) ∷ frame 9 0 "QU" true (1 ∷ []) ∷ frame 9 1 "QU" true ([]) ∷ frame 9 2 "QU" false (3 ∷ 5 ∷ []) ∷ frame 9 4 "QU" false ([]) ∷ frame 9 4 "QU" true ([]) ∷ frame 9 8 "QU" false (9 ∷ []) ∷ [] } ∷
    record { text = "(module 0\n(line 1\n(clr)\n(run)\n(doif)\n(next orphan LOOPVAR2)\n)\n(line 10\n(gosub 100)\n(for LOOPVAR1 dispatched)\n(exitif)\n)\n(line 20\n(ifelse\n(stmts\n(endloop)\n(doif)\n)\n(stmts\n)\n)\n)\n(line 100\n(repeat)\n(done)\n)\n(line 999\n)\n)\n"; asks = word 0 "clr" ∷ word 1 "run" ∷ word 2 "doif" ∷ word 3 "next" ∷ word 4 "gosub" ∷ word 5 "for" ∷ word 6 "exitif" ∷ word 7 "ifelse" ∷ word 8 "endloop" ∷ word 9 "doif" ∷ word 10 "repeat" ∷ word 11 "done" ∷ frame 0 2 "LOOPVAR2" false (3 ∷ []) ∷ frame 0 4 "LOABCDEF" true (5 ∷ []) ∷ frame 0 4 "LOOPVAR1%" false (5 ∷ []) ∷ frame 0 6 "LOOPVAR2" false (7 ∷ []) ∷ frame 1 1 "LOABCDEF" true ([]) ∷ frame 1 5 "LOOPVAR2" true ([]) ∷ frame 1 8 "LOOPVAR1" false ([]) ∷ frame 2 4 "LOOPVAR1" false (5 ∷ []) ∷ frame 2 7 "LOOPVAR2" true (8 ∷ 10 ∷ []) ∷ frame 2 8 "LOOPVAR1%" true ([]) ∷ frame 2 10 "LO" false (11 ∷ []) ∷ frame 3 1 "LOOPVAR2" false ([]) ∷ frame 3 7 "LOOPVAR1%" false (8 ∷ 10 ∷ []) ∷ frame 3 8 "LOABCDEF" true ([]) ∷ frame 4 0 "LO" false ([]) ∷ frame 4 1 "LOOPVAR1" true ([]) ∷ frame 4 5 "LOOPVAR1%" false (6 ∷ []) ∷ frame 4 8 "LO" false ([]) ∷ frame 4 8 "LOOPVAR1" true ([]) ∷ frame 4 11 "LOOPVAR2" true ([]) ∷ frame 5 5 "LOOPVAR1%" true (6 ∷ []) ∷ frame 5 8 "LOOPVAR2" true ([]) ∷ frame 5 9 "LOOPVAR1%" true (10 ∷ []) ∷ frame 6 1 "LOOPVAR1" false ([]) ∷ frame 6 7 "LOOPVAR1%" true (8 ∷ 10 ∷ []) ∷ frame 6 7 "LOOPVAR2" false (8 ∷ 10 ∷ []) ∷ frame 6 8 "LOOPVAR1%" false ([]) ∷ frame 7 1 "LOABCDEF" true ([]) ∷ frame 7 1 "LOOPVAR1" true ([]) ∷ frame 7 10 "LOOPVAR1%" true (11 ∷ []) ∷ frame 7 11 "LOABCDEF" false ([]) ∷ frame 8 9 "LOABCDEF" true (10 ∷ []) ∷ frame 9 3 "LOOPVAR1%" false (4 ∷ 6 ∷ []) ∷ frame 9 4 "LOOPVAR1" true (5 ∷ []) ∷ frame 9 6 "LO" false (7 ∷ []) ∷ frame 9 7 "LOOPVAR1%" true (8 ∷ 10 ∷ []) ∷ frame 9 10 "LOOPVAR1" false (11 ∷ []) ∷ frame 9 11 "LOOPVAR1" false ([]) ∷ frame 10 3 "LOABCDEF" false (4 ∷ 6 ∷ []) ∷ frame 10 6 "LOOPVAR1%" true (7 ∷ []) ∷ [] } ∷
    record { text = "(module 1\n(line 5\n(repeat)\n(gosub 5)\n(ongosub 65535 5)\n(plain)\n)\n(line 100\n(return)\n(return)\n(return)\n(gosub 5)\n)\n(line 65535\n)\n)\n"; asks = word 0 "repeat" ∷ word 1 "gosub" ∷ word 2 "ongosub" ∷ word 3 "plain" ∷ word 4 "return" ∷ word 5 "return" ∷ word 6 "return" ∷ word 7 "gosub" ∷ frame 0 1 "QU" true (2 ∷ []) ∷ frame 0 4 "QU" false ([]) ∷ frame 0 7 "QU" false ([]) ∷ frame 0 7 "QU" true ([]) ∷ frame 1 0 "QU" true (1 ∷ []) ∷ frame 1 1 "QU" true (2 ∷ []) ∷ frame 1 2 "QU" true (3 ∷ []) ∷ frame 2 0 "QU" false (1 ∷ []) ∷ frame 2 2 "QU" true (3 ∷ []) ∷ frame 2 3 "QU" false (4 ∷ []) ∷ frame 2 4 "QU" false ([]) ∷ frame 2 4 "QU" true ([]) ∷ frame 2 6 "QU" false ([]) ∷ frame 2 6 "QU" true ([]) ∷ frame 2 7 "QU" false ([]) ∷ frame 2 7 "QU" true ([]) ∷ frame 3 1 "QU" true (2 ∷ []) ∷ frame 3 2 "QU" false (3 ∷ []) ∷ frame 3 4 "QU" false ([]) ∷ frame 3 6 "QU" false ([]) ∷ frame 3 6 "QU" true ([]) ∷ frame 3 7 "QU" true ([]) ∷ frame 4 0 "QU" true (1 ∷ []) ∷ frame 4 1 "QU" false (2 ∷ []) ∷ frame 4 1 "QU" true (2 ∷ []) ∷ frame 4 2 "QU" true (3 ∷ []) ∷ frame 4 3 "QU" true (4 ∷ []) ∷ frame 4 4 "QU" true ([]) ∷ frame 5 0 "QU" false (1 ∷ []) ∷ frame 5 0 "QU" true (1 ∷ []) ∷ frame 5 1 "QU" false (2 ∷ []) ∷ frame 5 2 "QU" true (3 ∷ []) ∷ frame 5 5 "QU" true ([]) ∷ frame 5 6 "QU" true ([]) ∷ frame 6 0 "QU" true (1 ∷ []) ∷ frame 6 1 "QU" true (2 ∷ []) ∷ frame 7 0 "QU" false (1 ∷ []) ∷ frame 7 4 "QU" true ([]) ∷ frame 7 7 "QU" false ([]) ∷ frame 7 7 "QU" true ([]) ∷ [] } ∷
    record { text = "(module 0\n(line 999\n(next plain *)\n(for LOOPVAR1 static)\n(next orphan L)\n(for L dispatched)\n)\n)\n"; asks = word 0 "next" ∷ word 1 "for" ∷ word 2 "next" ∷ word 3 "for" ∷ frame 0 0 "L%" true (1 ∷ []) ∷ frame 0 0 "LO" true (1 ∷ []) ∷ frame 0 0 "LOOPVAR1" true (1 ∷ []) ∷ frame 0 1 "L%" false (2 ∷ []) ∷ frame 0 1 "LOOPVAR1" true ([]) ∷ frame 0 2 "LO" false (3 ∷ []) ∷ frame 0 3 "L" false ([]) ∷ frame 0 3 "L" true ([]) ∷ frame 1 0 "LO" false (1 ∷ []) ∷ frame 1 0 "LOABCDEF" false (1 ∷ []) ∷ frame 1 1 "L" true (2 ∷ []) ∷ frame 1 1 "LO" false ([]) ∷ frame 1 1 "LOOPVAR1" false ([]) ∷ frame 1 3 "L" true ([]) ∷ frame 1 3 "L%" false ([]) ∷ frame 1 3 "LO" false ([]) ∷ frame 1 3 "LOOPVAR1" false ([]) ∷ frame 2 0 "LO" false (1 ∷ []) ∷ frame 2 0 "LOABCDEF" false (1 ∷ []) ∷ frame 2 0 "LOABCDEF" true ([]) ∷ frame 2 0 "LOOPVAR1" true ([]) ∷ frame 2 1 "L%" true (2 ∷ []) ∷ frame 2 1 "LO" false ([]) ∷ frame 2 2 "L%" false (3 ∷ []) ∷ frame 2 2 "LOABCDEF" true (3 ∷ []) ∷ frame 2 2 "LOOPVAR1" true (3 ∷ []) ∷ frame 2 3 "L" false ([]) ∷ frame 2 3 "LO" true ([]) ∷ frame 2 3 "LOABCDEF" false ([]) ∷ frame 3 0 "L" false (1 ∷ []) ∷ frame 3 0 "LOABCDEF" false (1 ∷ []) ∷ frame 3 0 "LOOPVAR1" true ([]) ∷ frame 3 1 "L" false (2 ∷ []) ∷ frame 3 1 "L%" true (2 ∷ []) ∷ frame 3 1 "LO" true ([]) ∷ frame 3 1 "LOABCDEF" false ([]) ∷ frame 3 1 "LOABCDEF" true ([]) ∷ frame 3 2 "L%" false (3 ∷ []) ∷ frame 3 3 "L" false ([]) ∷ frame 3 3 "L%" false ([]) ∷ [] } ∷
    record { text = "(module 0\n(line 10\n(rcomp\n(stmts\n(if\n(to 20)\n)\n(return)\n(gosub 50)\n)\n)\n(next plain CO2 LOOPVAR1$ CO CO2)\n)\n(line 20\n(if\n(stmts\n(clr)\n(for CO2 framed)\n(if\n(to 40)\n)\n)\n)\n(ongoto)\n)\n(line 30\n)\n(line 40\n)\n(line 50\n)\n(line 65535\n)\n)\n"; asks = word 0 "rcomp" ∷ word 1 "if" ∷ word 2 "return" ∷ word 3 "gosub" ∷ word 4 "next" ∷ word 5 "if" ∷ word 6 "clr" ∷ word 7 "for" ∷ word 8 "if" ∷ word 9 "ongoto" ∷ frame 0 0 "CO%" false (1 ∷ 4 ∷ []) ∷ frame 0 1 "CO2" false (5 ∷ 2 ∷ []) ∷ frame 0 2 "CO" true ([]) ∷ frame 0 5 "LOOPVAR1$" true (6 ∷ 9 ∷ []) ∷ frame 0 6 "CO%" true ([]) ∷ frame 0 7 "CO%" true (8 ∷ []) ∷ frame 1 0 "CO2" true (1 ∷ 4 ∷ []) ∷ frame 1 3 "CO%" false (4 ∷ []) ∷ frame 1 6 "LOABCDEF$" true ([]) ∷ frame 2 0 "LO$" true (1 ∷ 4 ∷ []) ∷ frame 2 1 "LO$" true (5 ∷ 2 ∷ []) ∷ frame 2 3 "LO$" false (4 ∷ []) ∷ frame 2 9 "LO$" false ([]) ∷ frame 3 2 "LOABCDEF$" false ([]) ∷ frame 3 2 "LOABCDEF$" true ([]) ∷ frame 3 3 "LO$" true (4 ∷ []) ∷ frame 3 4 "CO%" false (5 ∷ []) ∷ frame 3 4 "CO2" true ([]) ∷ frame 3 5 "LO$" true (6 ∷ 9 ∷ []) ∷ frame 4 1 "CO2" true (5 ∷ 2 ∷ []) ∷ frame 4 1 "LO$" false (5 ∷ 2 ∷ []) ∷ frame 4 3 "CO%" true (4 ∷ []) ∷ frame 4 3 "LOOPVAR1$" true (4 ∷ []) ∷ frame 5 2 "CO2" true ([]) ∷ frame 5 4 "LO$" false (5 ∷ []) ∷ frame 5 5 "CO%" false (6 ∷ 9 ∷ []) ∷ frame 5 6 "LOOPVAR1$" false ([]) ∷ frame 6 4 "LO$" true ([]) ∷ frame 6 7 "LOABCDEF$" false (8 ∷ []) ∷ frame 7 4 "LO$" false (5 ∷ []) ∷ frame 7 6 "LOOPVAR1$" false ([]) ∷ frame 7 7 "CO%" true (8 ∷ []) ∷ frame 7 7 "CO2" true ([]) ∷ frame 8 0 "LOABCDEF$" true (1 ∷ 4 ∷ []) ∷ frame 8 1 "LOOPVAR1$" true (5 ∷ 2 ∷ []) ∷ frame 8 2 "CO" false ([]) ∷ frame 8 2 "LOOPVAR1$" true ([]) ∷ frame 8 8 "CO2" true (9 ∷ []) ∷ frame 9 3 "CO" true (4 ∷ []) ∷ frame 9 9 "CO2" true ([]) ∷ [] } ∷
    record { text = "(module 0\n(line 30\n(goto 30)\n(if\n(stmts\n)\n)\n(for AC% framed)\n(if\n(to 30)\n)\n(rcomp\n(stmts\n(ongosub 30)\n(ifelse\n(to 30)\n(stmts\n(goto 30)\n)\n)\n(ongoto 30)\n)\n(to 40)\n)\n)\n)\n"; asks = word 0 "goto" ∷ word 1 "if" ∷ word 2 "for" ∷ word 3 "if" ∷ word 4 "rcomp" ∷ word 5 "ongosub" ∷ word 6 "ifelse" ∷ word 7 "goto" ∷ word 8 "ongoto" ∷ frame 0 0 "AC" false (0 ∷ []) ∷ frame 0 6 "ACABCDEF%" true (0 ∷ 7 ∷ []) ∷ frame 0 7 "ACABCDEF%" false (0 ∷ []) ∷ frame 1 4 "AC" false (5 ∷ []) ∷ frame 1 5 "ACABCDEF%" false (6 ∷ []) ∷ frame 1 5 "ACABCDEF%" true (6 ∷ []) ∷ frame 1 6 "AC" true (0 ∷ 7 ∷ []) ∷ frame 1 7 "AC" true (0 ∷ []) ∷ frame 2 0 "ACABCDEF%" true (0 ∷ []) ∷ frame 2 2 "AC%" false ([]) ∷ frame 2 3 "AC%" false (0 ∷ 4 ∷ []) ∷ frame 2 6 "ACABCDEF%" true (0 ∷ 7 ∷ []) ∷ frame 2 7 "ACABCDEF%" true (0 ∷ []) ∷ frame 2 8 "AC" false (0 ∷ []) ∷ frame 2 8 "AC" true (0 ∷ []) ∷ frame 3 1 "AC" false (2 ∷ []) ∷ frame 3 3 "ACABCDEF%" false (0 ∷ 4 ∷ []) ∷ frame 3 5 "AC%" true (6 ∷ []) ∷ frame 3 5 "ACABCDEF%" true (6 ∷ []) ∷ frame 4 2 "AC" false (3 ∷ []) ∷ frame 4 2 "ACABCDEF%" false ([]) ∷ frame 4 3 "AC%" false (0 ∷ 4 ∷ []) ∷ frame 4 5 "ACABCDEF%" false (6 ∷ []) ∷ frame 4 6 "AC" true (0 ∷ 7 ∷ []) ∷ frame 4 6 "AC%" true (0 ∷ 7 ∷ []) ∷ frame 5 4 "AC" false (5 ∷ []) ∷ frame 5 5 "ACABCDEF%" true (6 ∷ []) ∷ frame 5 6 "AC%" false (0 ∷ 7 ∷ []) ∷ frame 5 7 "ACABCDEF%" true (0 ∷ []) ∷ frame 6 3 "AC%" true (0 ∷ 4 ∷ []) ∷ frame 6 3 "ACABCDEF%" true (0 ∷ 4 ∷ []) ∷ frame 7 3 "AC%" false (0 ∷ 4 ∷ []) ∷ frame 7 3 "ACABCDEF%" false (0 ∷ 4 ∷ []) ∷ frame 7 4 "AC" true (5 ∷ []) ∷ frame 7 5 "ACABCDEF%" false (6 ∷ []) ∷ frame 7 8 "ACABCDEF%" true (0 ∷ []) ∷ frame 8 0 "AC" false (0 ∷ []) ∷ frame 8 0 "AC%" true (0 ∷ []) ∷ frame 8 7 "ACABCDEF%" true (0 ∷ []) ∷ frame 8 8 "ACABCDEF%" false (0 ∷ []) ∷ [] } ∷
    record { text = "(module 0\n(line 20\n(goto 30)\n(return)\n)\n(line 30\n)\n(line 100\n(done)\n(run 100)\n)\n(line 65535\n(gosub 20)\n(gosub 65535)\n)\n)\n"; asks = word 0 "goto" ∷ word 1 "return" ∷ word 2 "done" ∷ word 3 "run" ∷ word 4 "gosub" ∷ word 5 "gosub" ∷ frame 0 0 "QU" false (2 ∷ []) ∷ frame 0 0 "QU" true (2 ∷ []) ∷ frame 0 2 "QU" false (3 ∷ []) ∷ frame 0 2 "QU" true (3 ∷ []) ∷ frame 0 4 "QU" true (5 ∷ []) ∷ frame 0 5 "QU" true ([]) ∷ frame 1 1 "QU" false ([]) ∷ frame 1 1 "QU" true ([]) ∷ frame 1 2 "QU" false (3 ∷ []) ∷ frame 1 2 "QU" true (3 ∷ []) ∷ frame 1 3 "QU" false ([]) ∷ frame 1 3 "QU" true ([]) ∷ frame 1 4 "QU" false (5 ∷ []) ∷ frame 1 5 "QU" false ([]) ∷ frame 1 5 "QU" true ([]) ∷ frame 2 1 "QU" false ([]) ∷ frame 2 2 "QU" false (3 ∷ []) ∷ frame 2 2 "QU" true (3 ∷ []) ∷ frame 2 3 "QU" true ([]) ∷ frame 2 4 "QU" false (5 ∷ []) ∷ frame 3 0 "QU" true (2 ∷ []) ∷ frame 3 1 "QU" true ([]) ∷ frame 3 2 "QU" false (3 ∷ []) ∷ frame 3 2 "QU" true (3 ∷ []) ∷ frame 3 3 "QU" true ([]) ∷ frame 3 4 "QU" false (5 ∷ []) ∷ frame 3 5 "QU" false ([]) ∷ frame 3 5 "QU" true ([]) ∷ frame 4 0 "QU" false (2 ∷ []) ∷ frame 4 0 "QU" true (2 ∷ []) ∷ frame 4 1 "QU" true ([]) ∷ frame 4 4 "QU" true (5 ∷ []) ∷ frame 4 5 "QU" false ([]) ∷ frame 5 0 "QU" false (2 ∷ []) ∷ frame 5 0 "QU" true (2 ∷ []) ∷ frame 5 2 "QU" false (3 ∷ []) ∷ frame 5 3 "QU" false ([]) ∷ frame 5 4 "QU" true (5 ∷ []) ∷ frame 5 5 "QU" false ([]) ∷ frame 5 5 "QU" true ([]) ∷ [] } ∷
    record { text = "(module 1\n(line 20\n)\n(line 30\n(for ABCDEFGH% static)\n(if\n(stmts\n(gosub 20)\n)\n)\n(next plain AB%)\n(if\n(to 65535)\n)\n(return)\n)\n(line 50\n(plain)\n)\n(line 65534\n(next orphan *)\n(clr)\n(for AB% static)\n)\n(line 65535\n)\n)\n"; asks = word 0 "for" ∷ word 1 "if" ∷ word 2 "gosub" ∷ word 3 "next" ∷ word 4 "if" ∷ word 5 "return" ∷ word 6 "plain" ∷ word 7 "next" ∷ word 8 "clr" ∷ word 9 "for" ∷ frame 0 0 "AB%" false ([]) ∷ frame 0 4 "AB" true (5 ∷ []) ∷ frame 0 5 "ABABCDEF%" true ([]) ∷ frame 0 6 "AB" false (7 ∷ []) ∷ frame 0 7 "AB%" false (8 ∷ []) ∷ frame 1 2 "ABABCDEF%" false (3 ∷ []) ∷ frame 1 8 "AB%" true ([]) ∷ frame 2 1 "AB%" true (2 ∷ 3 ∷ []) ∷ frame 2 1 "ABCDEFGH%" true (2 ∷ 3 ∷ []) ∷ frame 2 2 "AB%" false (3 ∷ []) ∷ frame 2 2 "ABABCDEF%" true (3 ∷ []) ∷ frame 2 7 "AB" true ([]) ∷ frame 2 7 "AB%" false (8 ∷ []) ∷ frame 2 8 "AB" true ([]) ∷ frame 2 9 "AB" true ([]) ∷ frame 3 8 "ABABCDEF%" false ([]) ∷ frame 4 0 "AB" true (1 ∷ []) ∷ frame 4 0 "ABCDEFGH%" false ([]) ∷ frame 4 4 "AB" false (5 ∷ []) ∷ frame 4 4 "AB%" true (5 ∷ []) ∷ frame 5 5 "AB%" true ([]) ∷ frame 5 7 "ABCDEFGH%" true ([]) ∷ frame 5 8 "AB%" false ([]) ∷ frame 6 0 "ABABCDEF%" false ([]) ∷ frame 6 3 "AB" false (1 ∷ 4 ∷ []) ∷ frame 6 3 "ABABCDEF%" false (1 ∷ 4 ∷ []) ∷ frame 6 5 "AB%" true ([]) ∷ frame 6 5 "ABABCDEF%" true ([]) ∷ frame 6 8 "ABCDEFGH%" true ([]) ∷ frame 7 0 "ABABCDEF%" true ([]) ∷ frame 7 2 "AB" true (3 ∷ []) ∷ frame 7 5 "ABABCDEF%" true ([]) ∷ frame 7 8 "ABABCDEF%" false ([]) ∷ frame 8 5 "ABCDEFGH%" true ([]) ∷ frame 8 8 "AB" true ([]) ∷ frame 9 0 "AB" true (1 ∷ []) ∷ frame 9 1 "AB" true (2 ∷ 3 ∷ []) ∷ frame 9 1 "ABCDEFGH%" false (2 ∷ 3 ∷ []) ∷ frame 9 4 "AB%" false (5 ∷ []) ∷ frame 9 9 "AB%" true ([]) ∷ [] } ∷
    []

right-table : T (right_asks table)
unfolding opened right_asks table
right-table = tt
