-- Zeroed, judged, written. Assumes nothing.
use Rattle.std.proofs.Common.{rules, ◌≡◌, refl, Err, length}
use Rattle.reader.specs.Inputs.{is_program, bytes_of}
use Rattle.reader.specs.FileLoop.{input_within}
use Rattle.reader.specs.Listed.{zeroed_judged, zeroed_refused}
use Rattle.reader.proofs.listing.read_input.Goals as goal

pub write_listing-requires : goal.write_listing-requires
write_listing-requires c =
    let z = c.clear.ensures.zero in
    zeroed_judged (input_within (is_program c.args.input) (bytes_of c.args.input)) (length c.args.lines.now) (length c.args.stmts.now) (length c.args.args.now) refl z.0 z.1 z.2 c.judge.ensures c.in_ok-a.was

pub returns-in_err-a : goal.returns-in_err-a
returns-in_err-a c =
    let e : c.from_residual.result ≡ Err c.in_err-a.field-0.0 = search rules in
    let z = c.clear.ensures.zero in
    let w = zeroed_refused (input_within (is_program c.args.input) (bytes_of c.args.input)) (length c.args.lines.now) (length c.args.stmts.now) (length c.args.args.now) refl z.0 z.1 z.2 c.judge.ensures c.in_err-a.was in
    rw e (search rules)
