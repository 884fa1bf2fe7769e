-- `start`: the state of the first reading. Assumes nothing.
use Rattle.listings.specs.Read.{start}
use Rattle.reader.specs.Machine.{as_state, branch_code, last_code, open_conds, packed, position_code, state_at, word_code}
use Rattle.reader.proofs.machine.State.start.Goals as goal

pub returns : goal.returns
unfolding as_state branch_code last_code open_conds packed position_code start state_at word_code
returns c = rw (c.none.ensures.0, c.none.ensures.1)
