-- `fill_pass`: the first i nodes are passed. Assumes nothing.
use Rattle.passes.specs.FillRows.{PassFilled}
use Rattle.wiring.specs.Passes.{are_nexts}
use Rattle.wiring.specs.FromLeads.{frames_of}
use Rattle.wiring.proofs.fill_rows.fill_pass.Given as goal

abbrev pub invariant-loop-i : goal.invariant-loop-i
invariant-loop-i l = PassFilled l.g.nodes.records.stmts.now l.initial.args l.g.entries.rows.now l.g.nodes.falls.now l.g.nodes.links.now (frames_of l.g) l.g.dispatched.now l.g.entries.count l.g.nodes.records.n (are_nexts l.pass) l.i l.args
