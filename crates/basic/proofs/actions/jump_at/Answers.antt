-- `jump_at`: the number that was found, or the place. Assumes nothing.
use Rattle.std.proofs.Common.{sym, arith}
use Rattle.program_files.specs.Program.{map_found}
use Rattle.basic.specs.Cursors.{tokens_at}
use Rattle.basic.specs.Found.{handed_on}
use Rattle.basic.specs.Numbers.{number_told}
use Rattle.basic.proofs.actions.jump_at.Goals as goal

pub overflow_cast-number : goal.overflow_cast-number
overflow_cast-number c =
    let n = c.in_ok-number.number in
    let h = number_told (tokens_at c.args.file.now c.args.c) (tokens_at c.args.file.now n.next) n.value (sym c.in_ok-number.ensures) in
    omega (arith, h.0)

pub returns-in_err-number : goal.returns-in_err-number
unfolding map_found
returns-in_err-number c = rw (sym c.in_err-number.ensures) (handed_on _ c.from_residual.result _ c.from_residual.ensures.1)

pub returns : goal.returns
unfolding map_found
returns c = rw (sym c.in_ok-number.ensures, c.with.ensures)
