-- The part from the new row on, filled and back in its table. Assumes nothing.
use native.Mathlib.Omega.{arith}
use Prim.Native.Nat.{◌*◌, ◌-◌}
use lib.ListN.{length, length-drop}
use Rattle.reader.specs.Tables.{whole, entry_row, append_row}
use Rattle.reader.proofs.tables.append.Goals as goal

pub returns : goal.returns
unfolding append_row
returns c =
    let a = c.args in
    whole a.t.now c.put_record.new.part (entry_row a.e) (a.n * 12) (length a.t.now - a.n * 12) 12 (omega (arith, length-drop (a.n * 12) a.t.now)) c.put_record.ensures
