-- Saved programs beside a limit, with their answers by hand. Assumes nothing.
use Rattle.std.specs.Prelude.{List, [], ◌∷◌, T}
use Rattle.program_vectors.specs.Vector.{Vector, right, opened}

table : List Vector
table =
    record { saved = "01080D080A008BA73634303030000000"; means = "(refused 35 8)\n" } ∷
    record { saved = "01080D080A008B893634303030000000"; means = "(refused 35 8)\n" } ∷
    record { saved = "01080C080A00893635353335000000"; means = "(refused 35 7)\n" } ∷
    record { saved = "01080C080A008D3635353335000000"; means = "(refused 35 7)\n" } ∷
    record { saved = "01080C080A008A3635353335000000"; means = "(refused 35 7)\n" } ∷
    record { saved = "01080D080A0091893635353335000000"; means = "(refused 35 8)\n" } ∷
    record { saved = "01080D080A008BA73635353335000000"; means = "(refused 35 8)\n" } ∷
    record { saved = "01080D080A008B893635353335000000"; means = "(refused 35 8)\n" } ∷
    record { saved = "01080C080A00893635353336000000"; means = "(refused 35 7)\n" } ∷
    record { saved = "01080C080A008D3635353336000000"; means = "(refused 35 7)\n" } ∷
    record { saved = "01080C080A008A3635353336000000"; means = "(refused 35 7)\n" } ∷
    record { saved = "01080D080A0091893635353336000000"; means = "(refused 35 8)\n" } ∷
    record { saved = "01080D080A008BA73635353336000000"; means = "(refused 35 8)\n" } ∷
    record { saved = "01080D080A008B893635353336000000"; means = "(refused 35 8)\n" } ∷
    record { saved = "01080C080A00893635353436000000"; means = "(refused 35 7)\n" } ∷
    record { saved = "01080C080A008D3635353436000000"; means = "(refused 35 7)\n" } ∷
    record { saved = "01080C080A008A3635353436000000"; means = "(refused 35 7)\n" } ∷
    record { saved = "01080D080A0091893635353436000000"; means = "(refused 35 8)\n" } ∷
    record { saved = "01080D080A008BA73635353436000000"; means = "(refused 35 8)\n" } ∷
    record { saved = "01080D080A008B893635353436000000"; means = "(refused 35 8)\n" } ∷
    record { saved = "010811080A008934323934393637333036000000"; means = "(refused 35 7)\n" } ∷
    record { saved = "010811080A008D34323934393637333036000000"; means = "(refused 35 7)\n" } ∷
    record { saved = "010811080A008A34323934393637333036000000"; means = "(refused 35 7)\n" } ∷
    record { saved = "010812080A00918934323934393637333036000000"; means = "(refused 35 8)\n" } ∷
    record { saved = "010812080A008BA734323934393637333036000000"; means = "(refused 35 8)\n" } ∷
    record { saved = "010812080A008B8934323934393637333036000000"; means = "(refused 35 8)\n" } ∷
    record { saved = "01081B080A00893138343436373434303733373039353531363236000000"; means = "(refused 35 7)\n" } ∷
    record { saved = "01081B080A008D3138343436373434303733373039353531363236000000"; means = "(refused 35 7)\n" } ∷
    record { saved = "01081B080A008A3138343436373434303733373039353531363236000000"; means = "(refused 35 7)\n" } ∷
    record { saved = "01081C080A0091893138343436373434303733373039353531363236000000"; means = "(refused 35 8)\n" } ∷
    record { saved = "01081C080A008BA73138343436373434303733373039353531363236000000"; means = "(refused 35 8)\n" } ∷
    record { saved = "01081C080A008B893138343436373434303733373039353531363236000000"; means = "(refused 35 8)\n" } ∷
    record { saved = "01082E080A0089333430323832333636393230393338343633343633333734363037343331373638323131343636000000"; means = "(refused 35 7)\n" } ∷
    record { saved = "01082E080A008D333430323832333636393230393338343633343633333734363037343331373638323131343636000000"; means = "(refused 35 7)\n" } ∷
    record { saved = "01082E080A008A333430323832333636393230393338343633343633333734363037343331373638323131343636000000"; means = "(refused 35 7)\n" } ∷
    record { saved = "01082F080A009189333430323832333636393230393338343633343633333734363037343331373638323131343636000000"; means = "(refused 35 8)\n" } ∷
    record { saved = "01082F080A008BA7333430323832333636393230393338343633343633333734363037343331373638323131343636000000"; means = "(refused 35 8)\n" } ∷
    record { saved = "01082F080A008B89333430323832333636393230393338343633343633333734363037343331373638323131343636000000"; means = "(refused 35 8)\n" } ∷
    record { saved = "010834080A008B41A78B41A78B41A78B41A78B41A78B41A78B41A78B41A78B41A78B41A78B41A78B41A78B41A78B41A78B41A731000000"; means = "(module 0\n(line 10\n(if\n(stmts\n(if\n(stmts\n(if\n(stmts\n(if\n(stmts\n(if\n(stmts\n(if\n(stmts\n(if\n(stmts\n(if\n(stmts\n(if\n(stmts\n(if\n(stmts\n(if\n(stmts\n(if\n(stmts\n(if\n(stmts\n(if\n(stmts\n(if\n(to 1)\n)\n)\n)\n)\n)\n)\n)\n)\n)\n)\n)\n)\n)\n)\n)\n)\n)\n)\n)\n)\n)\n)\n)\n)\n)\n)\n)\n)\n)\n)\n)\n" } ∷
    record { saved = "010834080A008B41A78B41A78B41A78B41A78B41A78B41A78B41A78B41A78B41A78B41A78B41A78B41A78B41A78B41A78B41A73A000000"; means = "(module 0\n(line 10\n(if\n(stmts\n(if\n(stmts\n(if\n(stmts\n(if\n(stmts\n(if\n(stmts\n(if\n(stmts\n(if\n(stmts\n(if\n(stmts\n(if\n(stmts\n(if\n(stmts\n(if\n(stmts\n(if\n(stmts\n(if\n(stmts\n(if\n(stmts\n(if\n(stmts\n)\n)\n)\n)\n)\n)\n)\n)\n)\n)\n)\n)\n)\n)\n)\n)\n)\n)\n)\n)\n)\n)\n)\n)\n)\n)\n)\n)\n)\n)\n)\n)\n" } ∷
    []

right-table : T (right table)
unfolding opened right table
right-table = tt
