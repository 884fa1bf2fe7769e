-- `build_input`: read, then wired; a refused text leaves zeros. Assumes nothing.
use Rattle.std.proofs.Common.{rules, ◌≡◌, Err}
use Rattle.reader.specs.Inputs.{is_program, bytes_of}
use Rattle.reader.specs.FileLoop.{input_within}
use Rattle.wiring.specs.BuildLaws.{rooms, refused-build, ready_build, accepted_build}
use Rattle.wiring.proofs.build.build_input.Goals as goal

pub read_fitting-requires : goal.read_fitting-requires
read_fitting-requires c = rooms _ _ _ _ _ _ _ _ c.line_room-most_lines.ensures c.stmt_room-most_stmts.ensures

pub graph_of-requires : goal.graph_of-requires
graph_of-requires c =
    ready_build (input_within (is_program c.args.input) (bytes_of c.args.input)) _ _ _ _ _ _ _ _ _ _ c.line_room-most_lines.ensures c.stmt_room-most_stmts.ensures c.clear_links.ensures c.clear_lists.ensures c.read_fitting.ensures
    c.in_ok-a.a c.in_ok-a.was

pub returns-in_err-a : goal.returns-in_err-a
returns-in_err-a c =
    let e : c.from_residual.result ≡ Err c.in_err-a.field-0.0 = search rules in
    rw e (refused-build (input_within (is_program c.args.input) (bytes_of c.args.input)) _ _ _ _ _ _ _ _ _ _ c.line_room-most_lines.ensures c.stmt_room-most_stmts.ensures c.clear_links.ensures c.clear_lists.ensures c.read_fitting.ensures
    _ c.in_err-a.was)

pub returns : goal.returns
returns c =
    accepted_build (input_within (is_program c.args.input) (bytes_of c.args.input)) _ _ _ _ _ _ _ _ _ _ c.line_room-most_lines.ensures c.stmt_room-most_stmts.ensures c.clear_links.ensures c.clear_lists.ensures c.read_fitting.ensures
    c.in_ok-a.a c.in_ok-a.was c.graph_of.ensures
