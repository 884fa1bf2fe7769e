-- `add_backs`: the first k calls are done. Assumes nothing.
use lib.ListN.{take}
use Rattle.graph.specs.Lists.{each}
use Rattle.passes.specs.Regions.{back_from, SetAdded}
use Rattle.walks.proofs.regions.add_backs.Given as goal

abbrev pub invariant-loop-c : goal.invariant-loop-c
invariant-loop-c l = SetAdded l.initial.backs l.backs (each (back_from l.g.records.stmts.now l.g.falls.now l.g.links.now l.e) (take l.c-index l.calls))
