-- The code's state, without what its type says of it. Assumes nothing.
use Rattle.reader.specs.Machine.{State}
use Rattle.reader.specs.declared.machine.State as code

abbrev pub state_of : code.State → State
state_of s = record { position = s.position; handlers = s.handlers; last = s.last; lines = s.lines; stmts = s.stmts; depth = s.depth; open_conds = s.open_conds; word = s.branches.word; branches = s.branches.read }
