-- Reader rows with their answers by hand. Assumes nothing.
use Rattle.std.specs.Prelude.{List, [], ◌∷◌, true, false, T}
use Rattle.vectors.specs.Vector.{Vector, right, opened}

table : List Vector
table =
    record { text = "(module 0\n(line 10\n(if\n(stmts\n(if\n(stmts\n(if\n(stmts\n(if\n(stmts\n(if\n(stmts\n(if\n(stmts\n(if\n(stmts\n(if\n(stmts\n(if\n(stmts\n(if\n(stmts\n(if\n(stmts\n(if\n(stmts\n(if\n(stmts\n(if\n(stmts\n(if\n(stmts\n(if\n(stmts\n(if\n(stmts\n(goto 007)\n)\n)\n)\n)\n)\n)\n)\n)\n)\n)\n)\n)\n)\n)\n)\n)\n)\n)\n)\n)\n)\n)\n)\n)\n)\n)\n)\n)\n)\n)\n)\n)\n)\n)\n)\n)\n"; writes = "(refused 3 36)\n" } ∷
    record { text = "(module 0\n(line 10\n(if\n(stmts\n(if\n(stmts\n(if\n(stmts\n(if\n(stmts\n(if\n(stmts\n(if\n(stmts\n(if\n(stmts\n(if\n(stmts\n(if\n(stmts\n(if\n(stmts\n(if\n(stmts\n(if\n(stmts\n(if\n(stmts\n(if\n(stmts\n(if\n(stmts\n(if\n(stmts\n(if\n(stmts\n(goto x)\n)\n)\n)\n)\n)\n)\n)\n)\n)\n)\n)\n)\n)\n)\n)\n)\n)\n)\n)\n)\n)\n)\n)\n)\n)\n)\n)\n)\n)\n)\n)\n)\n)\n)\n)\n)\n"; writes = "(refused 2 36)\n" } ∷
    record { text = "(module 0\n(line 10\n(if\n(stmts\n(if\n(stmts\n(if\n(stmts\n(if\n(stmts\n(if\n(stmts\n(if\n(stmts\n(if\n(stmts\n(if\n(stmts\n(if\n(stmts\n(if\n(stmts\n(if\n(stmts\n(if\n(stmts\n(if\n(stmts\n(if\n(stmts\n(if\n(stmts\n(if\n(stmts\n(if\n(stmts\n(to 10)\n)\n)\n)\n)\n)\n)\n)\n)\n)\n)\n)\n)\n)\n)\n)\n)\n)\n)\n)\n)\n)\n)\n)\n)\n)\n)\n)\n)\n)\n)\n)\n)\n)\n)\n)\n)\n"; writes = "(refused 2 36)\n" } ∷
    record { text = "(module 0\n(line 10\n(if\n(stmts\n(if\n(stmts\n(if\n(stmts\n(if\n(stmts\n(if\n(stmts\n(if\n(stmts\n(if\n(stmts\n(if\n(stmts\n(if\n(stmts\n(if\n(stmts\n(if\n(stmts\n(if\n(stmts\n(if\n(stmts\n(if\n(stmts\n(if\n(stmts\n(if\n(stmts\n(if\n(stmts\n(next plain * * * * * * * * * * * * * * * * * * * * * * * * * * * * * * * * * * * * * * * * * * * * * * * * * * * * * * * * * * * * * * * * *)\n)\n)\n)\n)\n)\n)\n)\n)\n)\n)\n)\n)\n)\n)\n)\n)\n)\n)\n)\n)\n)\n)\n)\n)\n)\n)\n)\n)\n)\n)\n)\n)\n)\n)\n)\n)\n"; writes = "(refused 7 36)\n" } ∷
    record { text = "(module 0\n(line 10\n(if\n(stmts\n(if\n(stmts\n(if\n(stmts\n(if\n(stmts\n(if\n(stmts\n(if\n(stmts\n(if\n(stmts\n(if\n(stmts\n(if\n(stmts\n(if\n(stmts\n(if\n(stmts\n(if\n(stmts\n(if\n(stmts\n(if\n(stmts\n(if\n(stmts\n(if\n(stmts\n(next plain * * * * * * * * * * * * * * * * * * * * * * * * * * * * * * * * * * * * * * * * * * * * * * * * * * * * * * * * * * * * * * * * *)\n)\n)\n)\n)\n)\n)\n)\n)\n)\n)\n)\n)\n)\n)\n)\n)\n)\n)\n)\n)\n)\n)\n)\n)\n)\n)\n)\n)\n)\n)\n)\n)\n)\n)\n"; writes = "(refused 8 34)\n" } ∷
    []

right-table : T (right table)
unfolding opened right table
right-table = tt
