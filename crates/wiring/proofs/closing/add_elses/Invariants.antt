-- `add_elses`: the ELSEs that are done, and the rest of the chain. Assumes nothing.
use Rattle.std.proofs.Common.{length}
use Rattle.passes.specs.ChainLaws.{chain_left, Walk}
use Rattle.storing.specs.NodeLists.{Became}
use Rattle.tables.specs.OneMore.{one_more}
use Rattle.wiring.specs.FromLeads.{frames_of}
use Rattle.wiring.proofs.closing.add_elses.Given as goal

abbrev pub invariant-loop-next : goal.invariant-loop-next
invariant-loop-next l = Became l.initial.list l.list (λ a n b r. Walk l.g.nodes.falls.now (frames_of l.g) (one_more l.fn.first) a n b r (one_more l.next))

abbrev pub decreases-loop-next : goal.decreases-loop-next
decreases-loop-next l = chain_left (length (frames_of l.g)) (one_more l.next)
