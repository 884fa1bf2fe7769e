-- `list_input`: built, then printed by its answer. Assumes nothing.
use Rattle.reader.specs.Inputs.{is_program, bytes_of}
use Rattle.std.proofs.Common.{ap}
use Rattle.wiring.specs.BuiltAnswer.{built_told}
use Rattle.printing.specs.ListGraph.{some_graph, graph_listed, refusal_listed}
use Rattle.printing.proofs.list.list_input.Goals as goal

pub print_counted-len-requires : goal.print_counted-len-requires
print_counted-len-requires c = some_graph (is_program c.args.input) (bytes_of c.args.input) _ _ _ _ _ _ _ _ _ _ _ _ (built_told c.build_input-built.result) c.build_input-built.ensures (ap built_told c.in-Ok.is)

pub returns-in-Err : goal.returns-in-Err
returns-in-Err c = refusal_listed (is_program c.args.input) (bytes_of c.args.input) _ _ _ _ _ _ _ _ _ _ _ _ (built_told c.build_input-built.result) c.build_input-built.ensures _ _ _ _ _ (ap built_told c.in-Err.is) c.print_refusal-len.ensures

pub returns-in-Ok : goal.returns-in-Ok
returns-in-Ok c = rw c.in-Ok.is (graph_listed (is_program c.args.input) (bytes_of c.args.input) _ _ _ _ _ _ _ _ _ _ _ _ (built_told c.build_input-built.result) c.build_input-built.ensures _ _ _ (ap built_told c.in-Ok.is) c.print_counted-len.ensures)
