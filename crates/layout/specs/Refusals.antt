-- The numbers of the reasons for which an input, a build or a question is refused, each once. Assumes nothing.
use Rattle.std.specs.Prelude.{ℕ, ◌≤◌}
use Rattle.std.proofs.Common.{arith}
use Rattle.layout.specs.declared.refusals.Reason.{Reason}
use Rattle.layout.specs.declared.refusals.Reason.TheVariants as reason
use Rattle.layout.specs.declared.refusals.Refusal.{Refusal}

-- refused because of the input, "within it, the lowest number"; 21 to 28 because of the state, "checked after the
-- input"; 31 and 32 of a graph that is checked, "after all of the listing's refusals"; 33 to 35 of a saved program
abbrev pub number_of : Reason → ℕ
-- "text too long (place 0, before all else)"
number_of reason.TextTooLong = 1
-- "not a form allowed here, or the text ends early"
number_of reason.NotAForm = 2
-- "number above 65535 or with a leading zero, or a word that is no name where one is due"
number_of reason.BadWord = 3
-- "line number not above the last"
number_of reason.LineOrder = 4
-- "line 1,025"
number_of reason.TooManyLines = 5
-- "statement 4,097"
number_of reason.TooManyStatements = 6
-- "a statement at depth 17"
number_of reason.TooDeep = 7
-- "a 65th number or slot"
number_of reason.TooWide = 8
-- "line tables too short"
number_of reason.LineTables = 21
-- "node tables too short"
number_of reason.NodeTables = 22
-- "either edge table too short or over 32,768 edges"
number_of reason.EdgeTables = 23
-- "node id not below the node count (place: the id)"
number_of reason.NoNode = 24
-- "a used count or a record that the call reads points outside its table (place 0)"
number_of reason.Outside = 25
-- "no statement at the path asked, or at the path in a node's record (place 0)"
number_of reason.NoStatement = 26
-- "an inner statement not found during building"
number_of reason.NotFound = 27
-- "the frame answer is longer than the slice lent for it (place: the answer's length)"
number_of reason.NoRoom = 28
-- "a row is none that a graph prints", "or lacks its byte 10"
number_of reason.NotARow = 31
-- "a row is in form but wrong, missing or one too many"
number_of reason.WrongRow = 32
-- "the file ends early"
number_of reason.EndsEarly = 33
-- "among a line's bytes (not its link's or number's) a 64 hexadecimal outside quotes, REM and DATA"
number_of reason.ForeignByte = 34
-- "FOR or NEXT's comma lacks a name, GOTO, GOSUB, ON or its comma a line number, an IF lacks THEN or GOTO or has only
-- spaces after it to the line's end, or a line number exceeds 63999"
number_of reason.Lacking = 35

abbrev pub refusal_at : Reason → ℕ → Refusal
refusal_at r p = record { reason = r; place = p }

-- "document 01's number and place"
abbrev pub refusal_pair : Refusal → ℕ × ℕ
refusal_pair r = (number_of r.reason, r.place)

pub number_small : (r : Reason) → number_of r ≤ 35
number_small reason.TextTooLong = omega arith
number_small reason.NotAForm = omega arith
number_small reason.BadWord = omega arith
number_small reason.LineOrder = omega arith
number_small reason.TooManyLines = omega arith
number_small reason.TooManyStatements = omega arith
number_small reason.TooDeep = omega arith
number_small reason.TooWide = omega arith
number_small reason.LineTables = omega arith
number_small reason.NodeTables = omega arith
number_small reason.EdgeTables = omega arith
number_small reason.NoNode = omega arith
number_small reason.Outside = omega arith
number_small reason.NoStatement = omega arith
number_small reason.NotFound = omega arith
number_small reason.NoRoom = omega arith
number_small reason.NotARow = omega arith
number_small reason.WrongRow = omega arith
number_small reason.EndsEarly = omega arith
number_small reason.ForeignByte = omega arith
number_small reason.Lacking = omega arith
